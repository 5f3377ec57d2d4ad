-- A Hijri calendar as a list of years, from the years that its rules give.
use Rattle.std.specs.Prelude.{◌≡◌, ◌&&◌, ℕ, Bool, nat_eq, if◌then◌else◌, ℤ, pos, neg_ℤ, ◌+ℤ◌}
use Rattle.std.specs.Ordering.{int_eq}
use Rattle.cal_days.specs.Day.{IsRuleYear, is_between}
use Rattle.cal_days.specs.Islamic.{islamic_leap}
use Rattle.cal_types.specs.CalendarList.{CalendarList}
use Rattle.cal_types.specs.PlainMonths.{is_plain_month}
use Rattle.cal_arith.specs.Given.{CalendarYears}
use Rattle.cal_hijri.specs.HijriMonths.{months_of, days_of_months}
use Rattle.cal_hijri.specs.declared.hijri_year.HijriYear.{HijriYear}

-- the days of a year
abbrev pub hijri_days : HijriYear → ℕ
hijri_days y = days_of_months y.long_months

-- in a tabular year the odd months have 30 days, and in a leap year the last one too
abbrev pub tabular_long : ℤ → ℕ
tabular_long y = if islamic_leap y then 3413 else 1365

-- the months of a year: by the rules where these are promised, and tabular elsewhere
abbrev pub long_months_of : (ℤ → HijriYear) → ℤ → ℕ
long_months_of year_of y =
    if is_between (neg_ℤ (pos 8000000)) (pos 8000000) y then (year_of y).long_months else tabular_long y

-- the list starts with the rules' year 1
unfoldable pub hijri_list : (ℤ → HijriYear) → CalendarList
hijri_list year_of = record {
  anchor_year = pos 1;
  anchor_day = (year_of (pos 1)).first_day;
  entries = λ y. months_of (long_months_of year_of y);
  is_of_kind = is_plain_month 12;
  stand_in = λ m. m;
}

-- a year keeps its extended year, its first day and its months
abbrev pub hijri_years : (ℤ → HijriYear) → CalendarYears HijriYear
hijri_years year_of = record {
  list = hijri_list year_of;
  year_of = year_of;
  extended = λ y. y.extended_year;
  offset = pos 0;
}

-- a year starts where the one before ends
abbrev pub Joins : (ℤ → HijriYear) → Type 0
Joins year_of =
    (y : ℤ) → IsRuleYear y → IsRuleYear (y +ℤ pos 1)
    → (year_of (y +ℤ pos 1)).first_day ≡ (year_of y).first_day +ℤ pos (hijri_days (year_of y))

-- a year has its number
abbrev pub Numbered : (ℤ → HijriYear) → Type 0
Numbered year_of = (y : ℤ) → IsRuleYear y → (year_of y).extended_year ≡ y

-- whether two years have the same number, first day and months
abbrev pub has_parts_of : HijriYear → HijriYear → Bool
has_parts_of a b =
    int_eq a.extended_year b.extended_year && (int_eq a.first_day b.first_day && nat_eq a.long_months b.long_months)
