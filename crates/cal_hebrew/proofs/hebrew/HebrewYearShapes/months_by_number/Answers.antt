use Rattle.std.proofs.Common.{◌≡◌, ◌∙◌, ℤ, ap, to_z, of_z, w32, arith}
use Rattle.cal_days.specs.Day.{IsRuleYear}
use Rattle.cal_days.specs.Hebrew.{months_before}
use Rattle.cal_days.proofs.Signed.{signed_casts}
use Rattle.cal_types.specs.CalendarList.{month_number}
use Rattle.cal_hebrew.specs.HebrewList.{hebrew_list}
use Rattle.cal_hebrew.specs.laws.HebrewLaws.{month_number-hebrew, months_before-rises}
use Rattle.cal_hebrew.proofs.hebrew.HebrewYearShapes.months_by_number.Goals as goal

-- what a call says of a year's months
counted : (year months : ℤ) → IsRuleYear year → months ≡ months_before (to_z w32 (of_z w32 year)) → months ≡ months_before year
counted year months rule value = let kept : to_z w32 (of_z w32 year) ≡ year = omega (arith, signed_casts, rule) in value ∙ ap months_before kept

pub overflow_cast-result : goal.overflow_cast-result
overflow_cast-result c =
    let first = counted c.args.first c.months_before_year-2.result c.requires.first c.months_before_year-2.ensures.value in
    let last = counted c.args.last c.months_before_year.result c.requires.last c.months_before_year.ensures.value in
    let rises = months_before-rises c.args.first c.args.last c.requires.order in
    (omega (arith, signed_casts, first, last, rises, c.months_before_year.ensures.bound, c.months_before_year-2.ensures.bound), omega (arith, signed_casts, first, last, rises, c.months_before_year.ensures.bound, c.months_before_year-2.ensures.bound))

pub returns-clause-count : goal.returns-clause-count
returns-clause-count c =
    let first = counted c.args.first c.months_before_year-2.result c.requires.first c.months_before_year-2.ensures.value in
    let last = counted c.args.last c.months_before_year.result c.requires.last c.months_before_year.ensures.value in
    let rises = months_before-rises c.args.first c.args.last c.requires.order in
    let there : to_z w32 (of_z w32 c.args.last) ≡ c.args.last = omega (arith, signed_casts, c.requires.last) in
    omega (arith, signed_casts, first, last, rises, ap (λ (y : ℤ). month_number hebrew_list y 1) there, c.months_before_year.ensures.bound, c.months_before_year-2.ensures.bound, month_number-hebrew c.args.first 1, month_number-hebrew c.args.last 1)
