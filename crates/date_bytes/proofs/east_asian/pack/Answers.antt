use Rattle.std.proofs.Common.{◌∙◌, ◌++◌, ◌<◌, ◌/◌, ◌%◌, ℕ, pos, ap, subst, sym}
use Rattle.date_bytes.specs.Bytes.{bytes_of, date_bytes}
use Rattle.date_bytes.specs.EastAsianBytes.{bits_of_places, east_asian_bits, long_in, place_of}
use Rattle.date_bytes.proofs.ByteLemmas.{seven}
use Rattle.date_bytes.proofs.EastAsianLemmas.{bits-held, bits-small, long-kept}
use Rattle.date_bytes.proofs.east_asian.pack.Goals as goal

pub returns-clause-bytes : goal.returns-clause-bytes
returns-clause-bytes c =
    let small : c.year_bits.result < 16777216 = subst (λ (n : ℕ). n < 16777216) (sym c.year_bits.ensures.value) (bits-small c.args.long_months c.args.leap_month c.args.start c.requires.places c.requires.leap c.requires.start) in
    seven c.year_bits.result c.args.year c.args.month c.args.day c.to_le_bytes.result c.pack.result small c.requires.year c.to_le_bytes.ensures c.pack.ensures.bytes
    ∙ ap (λ (n : ℕ). bytes_of 3 (pos n) ++ date_bytes c.args.year c.args.month c.args.day) c.year_bits.ensures.value

pub returns-clause-long : goal.returns-clause-long
returns-clause-long c =
    let long = c.args.long_months in
    let leap = c.args.leap_month in
    let start = c.args.start in
    ap long_in (returns-clause-bytes c)
    ∙ ap (λ (n : ℕ). n % bits_of_places (place_of (n / 8192 % 16))) (bits-held (east_asian_bits long leap start) (date_bytes c.args.year c.args.month c.args.day) (bits-small long leap start c.requires.places c.requires.leap c.requires.start))
    ∙ long-kept long leap start c.requires.places c.requires.leap
