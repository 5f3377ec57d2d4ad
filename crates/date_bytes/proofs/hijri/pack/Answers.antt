use Rattle.std.proofs.Common.{◌≡◌, ◌∙◌, ◌++◌, ℕ, ℤ, pos, neg_ℤ, ap, arith, to_z, of_z, w8}
use Rattle.cal_days.specs.Day.{IsBetween}
use Rattle.cal_days.proofs.Signed.{signed}
use Rattle.date_bytes.specs.Bytes.{bytes_of, date_bytes}
use Rattle.date_bytes.specs.HijriBytes.{hijri_bits}
use Rattle.date_bytes.proofs.ByteLemmas.{six}
use Rattle.date_bytes.proofs.hijri.pack.Goals as goal

offset : (z : ℤ) → IsBetween (neg_ℤ (pos 5)) (pos 5) z → to_z w8 (of_z w8 z) ≡ z
offset z small = omega (arith, signed, small)

pub returns-clause-bytes : goal.returns-clause-bytes
returns-clause-bytes c =
    six c.year_bits.result c.args.year c.args.month c.args.day c.to_le_bytes.result c.pack.result
    (omega (arith, signed, c.year_bits.ensures.value, c.requires.twelve, c.requires.offset)) c.requires.year c.to_le_bytes.ensures c.pack.ensures.bytes
    ∙ ap (λ (n : ℕ). bytes_of 2 (pos n) ++ date_bytes c.args.year c.args.month c.args.day)
    (c.year_bits.ensures.value ∙ ap (hijri_bits c.args.long_months) (offset c.args.offset c.requires.offset))
