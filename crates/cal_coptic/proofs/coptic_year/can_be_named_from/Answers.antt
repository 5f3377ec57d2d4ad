use Rattle.std.proofs.Common.{◌≡◌, ◌∙◌, ◌-ℤ◌, ap, to_z, of_z, w32, w64, rules, FitsSigned, arith}
use Rattle.cal_days.specs.Day.{is_field_year}
use Rattle.cal_days.proofs.Signed.{signed}
use Rattle.cal_coptic.proofs.coptic_year.can_be_named_from.Goals as goal

pub returns : goal.returns
returns c =
    let fits : FitsSigned w32 c.args.year.number = search rules in
    let same : to_z w64 (of_z w64 (to_z w64 (of_z w64 c.from.result) -ℤ to_z w64 (of_z w64 c.from-2.result))) ≡ c.args.year.number -ℤ c.args.offset = omega (arith, signed, c.from.ensures, c.from-2.ensures) in
    c.may_be_named.ensures ∙ ap is_field_year same
