use Rattle.std.proofs.Common.{◌≡◌, ℤ, refl, sym, subst, ap, ◌∙◌, pos, ◌+ℤ◌, to_z, of_z, w32, arith}
use Rattle.cal_days.proofs.Signed.{signed}
use Rattle.cal_types.specs.CalendarList.{IsOn, date, start_of_year}
use Rattle.cal_days.specs.Hebrew.{hebrew_year_length}
use Rattle.cal_hebrew.specs.HebrewList.{hebrew_list, hebrew_years}
use Rattle.cal_hebrew.specs.laws.SameYears.{same_parts}
use Rattle.cal_hebrew.specs.laws.YearLengths.{given-known}
use Rattle.cal_hebrew.specs.laws.HebrewMonths.{start_of_year-hebrew}
use Rattle.cal_hebrew.proofs.HebrewGiven.{on-place, one_of_six}
use Rattle.cal_hebrew.proofs.hebrew.HebrewYears.year_month_day.Goals as goal

pub month_and_day-month-requires-clause-length : goal.month_and_day-month-requires-clause-length
month_and_day-month-requires-clause-length c =
    let found = c.day_in_year_from_fixed-found.result in
    one_of_six found.year found.year_length (sym c.day_in_year_from_fixed-found.ensures.length)

pub returns-clause-on : goal.returns-clause-on
returns-clause-on c =
    let found = c.day_in_year_from_fixed-found.result in
    let parts = c.month_and_day-month.ensures in
    let same : to_z w32 (of_z w32 found.year) ≡ found.year = omega (arith, signed, c.day_in_year_from_fixed-found.ensures.range) in
    let on = on-place found.year found.year_length found.day c.month_and_day-month.result.0 c.month_and_day-month.result.1 (sym c.day_in_year_from_fixed-found.ensures.length) parts.place parts.before parts.day in
    let day : start_of_year hebrew_list found.year +ℤ pos found.day ≡ c.args.rd = ap (λ (z : ℤ). z +ℤ pos found.day) (start_of_year-hebrew found.year) ∙ c.day_in_year_from_fixed-found.ensures.day in
    rw same (subst (λ (n : ℤ). IsOn hebrew_list n (date found.year c.month_and_day-month.result.0 c.month_and_day-month.result.1)) day on)

pub invariant_of-year : goal.invariant_of-year
invariant_of-year c = let found = c.day_in_year_from_fixed-found in record { known = given-known found.result.year found.result.year_length found.ensures.length }

pub returns-clause-year : goal.returns-clause-year
returns-clause-year c =
    let found = c.day_in_year_from_fixed-found in
    let same : to_z w32 (of_z w32 found.result.year) ≡ found.result.year = omega (arith, signed, found.ensures.range) in
    record {
      same = same_parts (hebrew_years.year_of (to_z w32 (of_z w32 found.result.year))) _ refl (ap hebrew_year_length same ∙ sym found.ensures.length);
      range = rw same (omega (arith, signed, found.ensures.range), omega (arith, signed, found.ensures.range));
    }
