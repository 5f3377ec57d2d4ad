-- Years of a Chinese or Korean calendar one after another, and what holds of all of them together.
use Rattle.std.proofs.Common.{◌≡◌, ◌<◌, ◌^◌, ℕ, Bool, not, ◌||◌, nat_eq, ℤ, pos, ◌+ℤ◌, ◌-ℤ◌}
use Rattle.std.specs.Prelude.{IsTrue, sum_by}
use Rattle.cal_days.specs.Day.{IsRuleYear}
use Rattle.cal_types.specs.CalendarList.{days_of}
use Rattle.cal_east_asian.specs.EastAsianYear.{IsEastAsianYear, months_of_year}
use Rattle.cal_east_asian.specs.EastAsianMonths.{year_entries}
use Rattle.cal_east_asian.specs.declared.east_asian_traditional_year.EastAsianTraditionalYear.{EastAsianTraditionalYear}
pub use Rattle.cal_east_asian.specs.RuleYears.{rule_year}
use Rattle.cal_east_asian.specs.laws.RuleYearLaws.{rule_year-rule}

-- a year's first day, a bit for each month of 30 days, the first month's lowest, and the place of its leap month, or 0
pub record YearParts : Type 0 where
  pub new_year : ℤ
  pub long_months : ℕ
  pub leap_month : ℕ

abbrev pub parts_of : EastAsianTraditionalYear → YearParts
parts_of year = record { new_year = year.new_year; long_months = year.long_months; leap_month = year.leap_month }

-- the day after a year's last day
abbrev pub end_of : YearParts → ℤ
end_of parts = parts.new_year +ℤ pos (sum_by days_of (year_entries parts.leap_month parts.long_months))

abbrev pub end_day : EastAsianTraditionalYear → ℤ
end_day year = end_of (parts_of year)

abbrev pub has_leap : YearParts → Bool
has_leap parts = not (nat_eq parts.leap_month 0)

abbrev pub has_leap_month : EastAsianTraditionalYear → Bool
has_leap_month year = has_leap (parts_of year)

-- of a year and the two before it, one has a leap month
abbrev pub leap_in_three : (ℤ → YearParts) → ℤ → Bool
leap_in_three parts y = has_leap (parts y) || (has_leap (parts (y -ℤ pos 1)) || has_leap (parts (y -ℤ pos 2)))

-- each year has its number, starts where the one before it ends, and no three in a row lack a leap month
pub record AreYears (year_of : ℤ → EastAsianTraditionalYear) : Type 0 where
  pub numbered : (y : ℤ) → IsRuleYear y → (year_of y).related_iso ≡ y
  pub joins : (y : ℤ) → IsRuleYear y → IsRuleYear (y +ℤ pos 1) → (year_of (y +ℤ pos 1)).new_year ≡ end_day (year_of y)
  pub leaps : (y : ℤ) → IsRuleYear (y -ℤ pos 2) → IsRuleYear y → IsTrue (leap_in_three (λ z. parts_of (year_of z)) y)

-- parts are those of a year of a number, which has no more bits than months
abbrev pub HasValidParts : ℤ → YearParts → Type 0
HasValidParts y parts =
    IsEastAsianYear y parts.new_year parts.leap_month × (parts.long_months < 2 ^ months_of_year parts.leap_month)

-- parts for each number are those of a year
abbrev pub AreValid : (ℤ → YearParts) → Type 0
AreValid parts = (y : ℤ) → IsRuleYear y → HasValidParts y (parts y)

-- the year of a number
abbrev pub year_from : (parts : ℤ → YearParts) → AreValid parts → ℤ → EastAsianTraditionalYear
year_from parts valid y = record {
  related_iso = rule_year y;
  new_year = (parts (rule_year y)).new_year;
  long_months = (parts (rule_year y)).long_months;
  leap_month = (parts (rule_year y)).leap_month;
  valid = (valid (rule_year y) (rule_year-rule y)).0;
  few = (valid (rule_year y) (rule_year-rule y)).1;
}
