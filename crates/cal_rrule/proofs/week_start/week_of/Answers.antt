use Rattle.std.proofs.Common.{◌≡◌, ◌∙◌, pos, ◌-ℤ◌, ap, arith, to_z, of_z, w64}
use Rattle.std.specs.Int.{int_rem_euclid}
use Rattle.cal_days.proofs.Signed.{signed}
use Rattle.cal_rrule.proofs.WeekStartLemmas.{week-of}
use Rattle.cal_rrule.proofs.week_start.week_of.Goals as goal

pub returns : goal.returns
returns c =
    let ahead : to_z w64 (of_z w64 c.days_from-ahead.result) ≡ c.args.day -ℤ pos c.number.result =
    omega (arith, signed, c.days_from-ahead.ensures, c.requires, c.number.ensures.range) in
    let behind = c.rem_euclid-behind.ensures.value ∙ ap (λ z. int_rem_euclid z (pos 7)) ahead in
    week-of c.args.week_start c.args.day _ c.number.result c.number.ensures.value
    (omega (arith, signed, behind, c.to_i64_date.ensures.value, c.requires, c.rem_euclid-behind.ensures.lower_bound, c.rem_euclid-behind.ensures.upper_bound))
