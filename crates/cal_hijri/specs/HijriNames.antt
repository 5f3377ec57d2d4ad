-- The eras of a Hijri calendar, and its reference years.
-- Source: the era codes of CLDR (UTS 35).
use Rattle.std.specs.Prelude.{◌≡◌, ℕ, Bool, false, List, codes, Option, Some, None, Result, Ok, Err, if◌then◌else◌, ℤ, pos, ◌-ℤ◌, int_lt}
use Rattle.cal_days.specs.Day.{IsFieldYear}
use Rattle.cal_types.specs.Month.{MonthParts}
use Rattle.cal_errors.specs.declared.errors.EcmaReferenceYearError.{EcmaReferenceYearError}
use Rattle.cal_errors.specs.declared.errors.EcmaReferenceYearError.TheVariants.{MonthNotInCalendar, UseRegularIfConstrain}
use Rattle.cal_types.specs.declared.year.EraYear.{EraYear}
use Rattle.cal_types.specs.declared.year.YearAmbiguity.TheVariants.{CenturyRequired}
use Rattle.cal_types.specs.PlainMonths.{is_plain_month}
use Rattle.cal_types.specs.YearNames.{YearNames, is_code, year_in_era}

-- the years of the Hijra, and the years before it, which are counted back from 1
abbrev pub hijri_reads : List ℕ → ℤ → Option ℤ
hijri_reads era n = year_in_era (is_code era (codes "ah")) n (year_in_era (is_code era (codes "bh")) (pos 1 -ℤ n) None)

-- the year in the era before the Hijra, or in that of the Hijra
abbrev pub era_year_by : Bool → ℤ → EraYear
era_year_by before y =
    if before
    then record {
      year = pos 1 -ℤ y;
      extended_year = y;
      era = codes "bh";
      era_index = Some 1;
      ambiguity = CenturyRequired;
    }
    else record { year = y; extended_year = y; era = codes "ah"; era_index = Some 0; ambiguity = CenturyRequired }

abbrev pub hijri_era_year : ℤ → EraYear
hijri_era_year y = era_year_by (int_lt y (pos 1)) y

-- the rules' reference year of a month from 1 to 12; another month isn't in the calendar
abbrev pub reference_of_rules : Bool → Result ℤ EcmaReferenceYearError → Result ℤ EcmaReferenceYearError
reference_of_rules is_of_kind by_rules = if is_of_kind then by_rules else Err MonthNotInCalendar

abbrev pub hijri_names : (MonthParts → ℕ → Result ℤ EcmaReferenceYearError) → YearNames
hijri_names reference =
    record { reads = hijri_reads; reference = λ m d. reference_of_rules (is_plain_month 12 m) (reference m d) }

-- what the rules' answers are to keep: an Ok year is a field year,
-- a month of the calendar isn't refused as one that it lacks, and no month leaves its place to another
pub record AreReferences (reference : MonthParts → ℕ → Result ℤ EcmaReferenceYearError) : Type 0 where
  pub range : (m : MonthParts) (d : ℕ) (y : ℤ) → reference m d ≡ Ok y → IsFieldYear y
  pub kind : (m : MonthParts) (d : ℕ) → reference m d ≡ Err MonthNotInCalendar → is_plain_month 12 m ≡ false
  pub stands : (m : MonthParts) (d : ℕ) → reference m d ≡ Err UseRegularIfConstrain → ⊥
