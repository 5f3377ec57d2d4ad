-- A small calendar for tests: each year has twelve months of 30 and 29 days in turn.
use Rattle.std.proofs.Common.{ℕ, Bool, false, not, ◌&&◌, nat_le, List, [], ◌∷◌, pos}
use Rattle.cal_types.specs.Month.{MonthParts}
use Rattle.cal_types.specs.CalendarList.{CalendarList, Entry}
use Rattle.cal_types.specs.Eras.{only_era_reads}
use Rattle.cal_types.specs.YearNames.{YearNames, reference_of_known}
use Rattle.std.specs.Prelude.{codes}

-- the plain month of a number, with its days
abbrev pub plain : ℕ → ℕ → Entry
plain number days = record { month = record { number = number; is_leap = false }; days = days }

-- the months of a year
abbrev pub twelve_months : List Entry
twelve_months =
    plain 1 30 ∷ plain 2 29 ∷ plain 3 30 ∷ plain 4 29 ∷ plain 5 30 ∷ plain 6 29 ∷ plain 7 30 ∷ plain 8 29 ∷ plain 9 30
    ∷ plain 10 29 ∷ plain 11 30 ∷ plain 12 29 ∷ []

-- a plain month from 1 to 12
abbrev pub is_plain : MonthParts → Bool
is_plain m = not m.is_leap && (nat_le 1 m.number && nat_le m.number 12)

-- year 1 starts on day 1
unfoldable pub alternating : CalendarList
alternating = record {
  anchor_year = pos 1;
  anchor_day = pos 1;
  entries = λ _. twelve_months;
  is_of_kind = is_plain;
  stand_in = λ m. m;
}

-- one era, `am`, whose years are the extended years; each plain month has year 1 as its reference year
abbrev pub alternating_names : YearNames
alternating_names = record {
  reads = only_era_reads (codes "am");
  reference = λ m _. reference_of_known (is_plain m) (pos 1);
}
