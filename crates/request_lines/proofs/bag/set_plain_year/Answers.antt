use Rattle.std.proofs.Common.{◌≡◌, ℤ, Some, FitsSigned, w32, to_z, of_z, sym, ap, ◌∙◌, rules, arith}
use Rattle.cal_days.proofs.Signed.{signed}
use Rattle.cal_types.specs.Bag.{bag_of}
use Rattle.request_lines.specs.Bags.{ExtendedYear}
use Rattle.request_lines.specs.WordsLeft.{words_left}
use Rattle.request_lines.proofs.KeyLemmas.{with_words}
use Rattle.request_lines.proofs.PlainDateLemmas.{year_goes_on, not_set-plain}
use Rattle.request_lines.proofs.bag.set_plain_year.Goals as goal

pub returns-in-Some : goal.returns-in-Some
returns-in-Some c =
    let year = c.in-Some.year in
    let left = words_left c.take_plain_year.new.self in
    let fits : FitsSigned w32 year = search rules in
    let same : year ≡ to_z w32 (of_z w32 year) = omega (arith, signed) in
    year_goes_on (bag_of c.args.fields.now) (words_left c.args.words.now) left _
    (not_set-plain c.args.fields.now.extended_year (sym c.is_some.ensures ∙ c.if-is_some.false))
    (c.in-Some.ensures ∙ ap (λ (z : ℤ). with_words left (Some (ExtendedYear z))) same)
