-- The years 1900 to 1911 of the Qing calendar, which China and Korea share.
use Rattle.std.specs.Prelude.{◌≡◌, ℕ, ◌+◌, ◌-◌, ◌*◌, List, [], ◌∷◌, map, get_or, slice_get, unsigned_abs, Some, ℤ, pos, ◌-ℤ◌}
use Rattle.cal_days.specs.Day.{IsBetween}
use Rattle.cal_types.specs.CalendarList.{days_of}
use Rattle.cal_east_asian.specs.EastAsianMonths.{year_entries}
use Rattle.cal_east_asian.specs.EastAsianYears.{YearParts, parts_of}
use Rattle.cal_east_asian.specs.declared.east_asian_traditional_year.EastAsianTraditionalYear.{EastAsianTraditionalYear}

-- a year's first day, the days of its months, and the place of its leap month, or 0
pub record QingRow : Type 0 where
  pub first_day : ℤ
  pub lengths : List ℕ
  pub leap_month : ℕ

-- a month of 29 days, and one of 30
abbrev s : ℕ
s = 29

abbrev l : ℕ
l = 30

abbrev row : ℕ → List ℕ → ℕ → QingRow
row d months p = record { first_day = pos d; lengths = months; leap_month = p }

-- the years from 1900 on
abbrev pub qing_rows : List QingRow
qing_rows =
    row 693626 (s ∷ l ∷ s ∷ s ∷ l ∷ s ∷ l ∷ l ∷ s ∷ l ∷ l ∷ s ∷ l ∷ []) 9
    ∷ row 694010 (s ∷ l ∷ s ∷ s ∷ l ∷ s ∷ l ∷ s ∷ l ∷ l ∷ l ∷ s ∷ []) 0
    ∷ row 694364 (l ∷ s ∷ l ∷ s ∷ s ∷ l ∷ s ∷ l ∷ s ∷ l ∷ l ∷ l ∷ []) 0
    ∷ row 694719 (s ∷ l ∷ s ∷ l ∷ s ∷ s ∷ l ∷ s ∷ s ∷ l ∷ l ∷ s ∷ l ∷ []) 6
    ∷ row 695102 (l ∷ l ∷ s ∷ l ∷ s ∷ s ∷ l ∷ s ∷ s ∷ l ∷ l ∷ s ∷ []) 0
    ∷ row 695456 (l ∷ l ∷ s ∷ l ∷ l ∷ s ∷ s ∷ l ∷ s ∷ l ∷ s ∷ l ∷ []) 0
    ∷ row 695811 (s ∷ l ∷ l ∷ s ∷ l ∷ s ∷ l ∷ s ∷ l ∷ s ∷ l ∷ s ∷ l ∷ []) 5
    ∷ row 696195 (s ∷ l ∷ s ∷ l ∷ s ∷ l ∷ l ∷ s ∷ l ∷ s ∷ l ∷ s ∷ []) 0
    ∷ row 696549 (l ∷ s ∷ s ∷ l ∷ l ∷ s ∷ l ∷ s ∷ l ∷ l ∷ s ∷ l ∷ []) 0
    ∷ row 696904 (s ∷ l ∷ s ∷ s ∷ l ∷ s ∷ l ∷ s ∷ l ∷ l ∷ l ∷ s ∷ l ∷ []) 3
    ∷ row 697288 (s ∷ l ∷ s ∷ s ∷ l ∷ s ∷ l ∷ s ∷ l ∷ l ∷ l ∷ s ∷ []) 0
    ∷ row 697642 (l ∷ s ∷ l ∷ s ∷ s ∷ l ∷ s ∷ s ∷ l ∷ l ∷ s ∷ l ∷ l ∷ []) 7
    ∷ []

-- the years that have a row
abbrev pub IsQingNumber : ℤ → Type 0
IsQingNumber y = IsBetween (pos 1900) (pos 1911) y

-- a year as a row
abbrev pub row_by_parts : YearParts → QingRow
row_by_parts parts =
    record {
      first_day = parts.new_year;
      lengths = map days_of (year_entries parts.leap_month parts.long_months);
      leap_month = parts.leap_month;
    }

-- the year of a number, with the row of that number
pub record IsQingYear (y : ℤ) (year : EastAsianTraditionalYear) : Type 0 where
  pub number : year.related_iso ≡ y
  pub row : slice_get qing_rows (unsigned_abs (y -ℤ pos 1900)) ≡ Some (row_by_parts (parts_of year))

-- a bit for each month of 30 days, the first month's lowest
abbrev pub length_bits : List ℕ → ℕ
length_bits [] = 0
length_bits (n ∷ ns) = length_bits ns * 2 + (n - 29)

abbrev pub parts_of_row : QingRow → YearParts
parts_of_row r = record { new_year = r.first_day; long_months = length_bits r.lengths; leap_month = r.leap_month }

-- the parts of the year of a number from 1900 to 1911
abbrev pub qing_parts : ℤ → YearParts
qing_parts y = parts_of_row (get_or qing_rows (unsigned_abs (y -ℤ pos 1900)) (row 0 [] 0))
