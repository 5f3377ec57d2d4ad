use Rattle.std.proofs.Common.{◌≡◌, ◌∙◌, ◌-ℤ◌, pos, ap, arith, to_z, of_z, w64}
use Rattle.std.specs.Int.{int_rem_euclid}
use Rattle.cal_days.specs.Division.{floor_mod}
use Rattle.cal_days.proofs.DivisionLemmas.{floor_mod-is}
use Rattle.cal_days.proofs.Signed.{signed}
use Rattle.cal_rrule.proofs.WeeklyDayLemmas.{same-weekday}
use Rattle.cal_rrule.proofs.weekly_days.days_to_weekday.Goals as goal

pub returns-clause-same : goal.returns-clause-same
returns-clause-same c =
    let rest : c.rem_euclid.result ≡ pos (floor_mod (c.args.day -ℤ c.args.from) 7) =
    c.rem_euclid.ensures.value
    ∙ ap (λ z. int_rem_euclid z (pos 7)) (omega (arith, signed, c.requires.from, c.requires.day))
    ∙ floor_mod-is (c.args.day -ℤ c.args.from) 7 (omega arith) in
    let own : to_z w64 (of_z w64 c.rem_euclid.result) ≡ c.rem_euclid.result =
    omega (arith, signed, c.rem_euclid.ensures.lower_bound, c.rem_euclid.ensures.upper_bound) in
    same-weekday c.args.from c.args.day _ (own ∙ rest)
