use Rattle.std.proofs.Common.{◌≡◌, ◌∙◌, ℕ, ℤ, ap, to_z, of_z, w32, arith}
use Rattle.cal_days.specs.Day.{IsRuleYear}
use Rattle.cal_days.specs.Hebrew.{hebrew_start}
use Rattle.cal_days.proofs.Signed.{signed}
use Rattle.cal_days.proofs.HebrewLemmas.{hebrew_start-bounds}
use Rattle.cal_hebrew.specs.laws.HebrewMonths.{days_before-hebrew, place-small, start_of_year-hebrew}
use Rattle.cal_hebrew.specs.HebrewPlaces.{days_before_place}
use Rattle.cal_hebrew.proofs.HebrewGiven.{given-length, one_of_six}
use Rattle.cal_hebrew.proofs.hebrew.HebrewYearShapes.to_rata_die_inner.Goals as goal

pub days_before_month-before-requires-clause-length : goal.days_before_month-before-requires-clause-length
days_before_month-before-requires-clause-length c = one_of_six c.args.year.extended_year c.args.year.length (given-length c.args.year c.requires.year)

pub days_before_month-before-requires-clause-place : goal.days_before_month-before-requires-clause-place
days_before_month-before-requires-clause-place c = place-small c.args.year.extended_year c.args.month c.requires.date.place

-- what the calls say of the year's first day
first_day : (year first number : ℤ) → IsRuleYear year → number ≡ first → first ≡ hebrew_start (to_z w32 (of_z w32 year)) → number ≡ hebrew_start year
first_day year first number rule same formula =
    let kept : to_z w32 (of_z w32 year) ≡ year = omega (arith, signed, rule) in
    same ∙ (formula ∙ ap hebrew_start kept)

pub new-requires : goal.new-requires
new-requires c =
    let rule = c.requires.year.range in
    let first = first_day c.args.year.extended_year c.year_start.result c.to_i64_date-start.result c.requires.year.range c.to_i64_date-start.ensures.value c.year_start.ensures.formula in
    let bounds = hebrew_start-bounds c.args.year.extended_year in
    let most = c.days_before_month-before.ensures.bound in
    (omega (arith, signed, first, bounds, most, rule), omega (arith, signed, first, bounds, most, rule))

pub returns : goal.returns
returns c =
    let y = c.args.year.extended_year in
    let first = first_day c.args.year.extended_year c.year_start.result c.to_i64_date-start.result c.requires.year.range c.to_i64_date-start.ensures.value c.year_start.ensures.formula in
    let before = days_before-hebrew y c.args.month c.requires.date.place ∙ ap (λ (n : ℕ). days_before_place n c.args.month) (given-length c.args.year c.requires.year) in
    omega (arith, signed, first, before, c.days_before_month-before.ensures.value, c.days_before_month-before.ensures.bound, start_of_year-hebrew y, hebrew_start-bounds y, c.requires.year.range, c.requires.date.day.0, c.new.ensures)
