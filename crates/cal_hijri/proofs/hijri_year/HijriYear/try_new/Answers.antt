use Rattle.std.proofs.Common.{◌≡◌, ◌<◌, ℤ, pos, refl, rules, subst, to_z, of_z, w32, length, arith}
use Rattle.std.specs.Prelude.{slice_index_or}
use Rattle.std.proofs.lemmas.List.{get_or_default}
use Rattle.cal_days.specs.Day.{IsRuleYear}
use Rattle.cal_days.proofs.Signed.{signed}
use Rattle.cal_hijri.specs.HijriMonths.{IsNearMean}
use Rattle.cal_hijri.specs.MonthStarts.{start_at}
use Rattle.cal_hijri.proofs.hijri_year.HijriYear.try_new.Goals as goal

pub returns-clause-some : goal.returns-clause-some
returns-clause-some c =
    let y = c.args.extended_year in
    let some : 0 < length c.args.month_starts = search rules in
    let first : slice_index_or c.args.month_starts 0 c.index-month_starts-0.result ≡ start_at c.args.month_starts 0 = get_or_default c.args.month_starts 0 c.index-month_starts-0.result (pos 0) some in
    let kept : to_z w32 (of_z w32 y) ≡ y = omega (arith, signed) in
    let day = c.index-month_starts-0.result in
    let near : IsRuleYear (to_z w32 (of_z w32 y)) × IsNearMean (to_z w32 (of_z w32 y)) (slice_index_or c.args.month_starts 0 day) = c.is_near_mean.ensures.0 c.if-not-is_near_mean.false in
    let months = c.in_ok-long_months.ensures.some.0 refl in
    (λ h. record { year = rw kept at near.0; near = subst (λ (z : ℤ). IsNearMean y z) first (rw kept at near.1); months = months }, λ h. refl)
