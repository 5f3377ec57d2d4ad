use Rattle.std.proofs.Common.{◌≡◌, ◌∙◌, ℤ, List, pos, neg_ℤ, ◌+ℤ◌, ap, to_z, of_z, w32, w64, arith}
use Rattle.cal_days.specs.Day.{IsBetween, IsRuleYear}
use Rattle.cal_days.proofs.Signed.{signed}
use Rattle.cal_hijri.specs.MonthStarts.{AreMonthStarts, HasLengthsOf, start_at}
use Rattle.lunar_tests.specs.LateYears.{late_month_starts, late_year}
use Rattle.lunar_tests.specs.LateStarts.{late_start}
use Rattle.lunar_tests.specs.laws.LateStartLaws.{late-few}
use Rattle.lunar_tests.specs.laws.LateYearLaws.{late-lengths, late-starts}
use Rattle.cal_hijri.specs.laws.SameYears.{year_of_starts}
use Rattle.lunar_tests.proofs.late_rules.LateRules.year.Goals as goal

number : (y : ℤ) → IsRuleYear y → to_z w32 (of_z w32 y) ≡ y
number y rule = omega (arith, signed, rule)

next : (y : ℤ) → IsRuleYear y → to_z w32 (of_z w32 (to_z w32 (of_z w32 y) +ℤ pos 1)) ≡ y +ℤ pos 1
next y rule = omega (arith, signed, rule)

-- what the calls say of the first days
day : (y z n : ℤ) → z ≡ y → n ≡ late_start z → IsBetween (neg_ℤ (pos 4000000000)) (pos 4000000000) n → to_z w64 (of_z w64 n) ≡ late_start y
day y z n same e near = let kept : to_z w64 (of_z w64 n) ≡ n = omega (arith, signed, near) in kept ∙ (e ∙ ap late_start same)

starts : (y first after : ℤ) (given : List ℤ) → first ≡ late_start y → after ≡ late_start (y +ℤ pos 1) → given ≡ late_month_starts first after → given ≡ late_month_starts (late_start y) (late_start (y +ℤ pos 1))
starts y first after given e f h = h ∙ (ap (λ (z : ℤ). late_month_starts z after) e ∙ ap (late_month_starts (late_start y)) f)

pub unreachable-requires : goal.unreachable-requires
unreachable-requires c =
    let y = c.args.extended_year in
    let first = day y _ c.late_start.result (number y c.requires) c.late_start.ensures.day c.late_start.ensures.near in
    let after = day (y +ℤ pos 1) _ c.late_start-2.result (next y c.requires) c.late_start-2.ensures.day c.late_start-2.ensures.near in
    let same = starts y _ _ c.month_starts-starts.result first after c.month_starts-starts.ensures in
    let known : AreMonthStarts (to_z w32 (of_z w32 y)) c.month_starts-starts.result = rw (number y c.requires, same) (late-starts y c.requires) in
    let there = c.try_new.ensures.some.1 known in
    let none = rw c.in-None.is at there in
    cc

pub returns : goal.returns
returns c =
    let y = c.args.extended_year in
    let first = day y _ c.late_start.result (number y c.requires) c.late_start.ensures.day c.late_start.ensures.near in
    let after = day (y +ℤ pos 1) _ c.late_start-2.result (next y c.requires) c.late_start-2.ensures.day c.late_start-2.ensures.near in
    let same = starts y _ _ c.month_starts-starts.result first after c.month_starts-starts.ensures in
    let here : HasLengthsOf (late_month_starts (late_start y) (late_start (y +ℤ pos 1))) c.in-Some.year.long_months = rw same at c.in-Some.ensures.months in
    let start : c.in-Some.year.first_day ≡ late_start y = c.in-Some.ensures.first_day ∙ (ap (λ (l : List ℤ). start_at l 0) same ∙ omega (arith, signed)) in
    year_of_starts c.in-Some.year (late_year y) (late_month_starts (late_start y) (late_start (y +ℤ pos 1))) (c.in-Some.ensures.number ∙ number y c.requires) start here (late-lengths y) c.in-Some.ensures.twelve (late-few y)
