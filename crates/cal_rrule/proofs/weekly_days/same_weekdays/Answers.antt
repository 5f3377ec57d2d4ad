use Rattle.std.proofs.Common.{◌≡◌, ◌∙◌, ◌+ℤ◌, subst, sym, arith, ℤ, to_z, of_z, w64}
use Rattle.cal_days.specs.Division.{floor_mod}
use Rattle.cal_days.proofs.Signed.{signed}
use Rattle.cal_rrule.proofs.WeeklyDayLemmas.{same-marks}
use Rattle.cal_rrule.proofs.weekly_days.same_weekdays.Goals as goal

pub returns : goal.returns
returns c =
    let from = c.args.from in
    let day = c.args.asked.now.day in
    let own : to_z w64 (of_z w64 from) ≡ from = omega (arith, signed, c.requires.near) in
    let start : to_z w64 (of_z w64 day) ≡ day = omega (arith, signed, c.requires.valid) in
    let ahead = rw (own, start) at c.days_to_weekday.ensures.same in
    let few = c.days_to_weekday.ensures.few in
    let first : c.new-2.result ≡ from +ℤ c.days_to_weekday.result = omega (arith, signed, c.requires.near, few) in
    let begins : c.new.result ≡ from = omega (arith, signed, c.requires.near) in
    let of : floor_mod c.new-2.result 7 ≡ floor_mod day 7 =
    subst (λ (z : ℤ). floor_mod z 7 ≡ floor_mod day 7) (sym first) ahead in
    same-marks c.new-days.result c.add_weekly.new.days from c.new-2.result day c.args.weeks
    (c.new-days.ensures.first ∙ begins) c.new-days.ensures.none c.add_weekly.ensures c.requires.few of
    (omega (arith, signed, first, few)) (omega (arith, signed, first, few))
