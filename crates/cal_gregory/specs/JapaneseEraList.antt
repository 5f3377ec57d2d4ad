-- The eras of the Japanese calendar, as a list: the date on which each starts, its code,
-- and its index among the calendar's eras.
-- Source: the era codes and the starts of CLDR (UTS 35).
use Rattle.std.specs.Prelude.{ℕ, ℤ, pos, ◌+ℤ◌, ◌-ℤ◌, Bool, ◌&&◌, int_lt, List, [], ◌∷◌, codes, Option, Some, None, if◌then◌else◌}
use Rattle.std.specs.Ordering.{is_le}
use Rattle.std.specs.Option.{option_or}
use Rattle.cal_days.specs.Day.{IsBetween}
use Rattle.cal_types.specs.declared.year.EraYear.{EraYear}
use Rattle.cal_types.specs.declared.year.YearAmbiguity.TheVariants.{CenturyRequired}
use Rattle.cal_types.specs.CalendarList.{Date, date}
use Rattle.cal_types.specs.DateOrder.{date_cmp}
use Rattle.cal_types.specs.Eras.{common_era_reads}
use Rattle.cal_types.specs.YearNames.{is_code}
use Rattle.cal_gregory.specs.CommonEra.{common_era_year}
use Rattle.cal_gregory.specs.declared.era_start_date.EraStartDate.{EraStartDate}

-- a listed era: its start, its code and its index
abbrev pub ListedEra : Type 0
ListedEra = EraStartDate × List ℕ × ℕ

abbrev pub listed_era : ℤ → ℕ → ℕ → List ℕ → ℕ → ListedEra
listed_era y m d code index = (record { year = y; month = m; day = d }, code, index)

-- the years in which listed eras start
abbrev pub IsStartYear : ℤ → Type 0
IsStartYear y = IsBetween (pos 1868) (pos 2089) y

-- the eras since the Meiji era
abbrev pub eras_up_to_reiwa : List ListedEra → List ListedEra
eras_up_to_reiwa later =
    listed_era (pos 1868) 10 23 (codes "meiji") 2
    ∷ listed_era (pos 1912) 7 30 (codes "taisho") 3
    ∷ listed_era (pos 1926) 12 25 (codes "showa") 4
    ∷ listed_era (pos 1989) 1 8 (codes "heisei") 5
    ∷ listed_era (pos 2019) 5 1 (codes "reiwa") 6
    ∷ later

-- the last of the eras that passes a test
abbrev pub last_era : (ListedEra → Bool) → List ListedEra → Option ListedEra
last_era passes [] = None
last_era passes (e ∷ es) = option_or (last_era passes es) (if passes e then Some e else None)

-- an era that starts on or before a date, compared by year, month and day
abbrev pub has_started : Date → ListedEra → Bool
has_started t e = is_le (date_cmp (date e.0.year e.0.month e.0.day) t)

-- a year of an era, whose first year is that of its start
abbrev pub year_of_era : Option ListedEra → ℤ → Option ℤ
year_of_era None n = None
year_of_era (Some e) n = Some (n -ℤ pos 1 +ℤ e.0.year)

-- the eras of the Gregorian calendar are read first, then the last listed era with the code
abbrev pub japanese_reads : List ListedEra → List ℕ → ℤ → Option ℤ
japanese_reads eras era n = option_or (common_era_reads era n) (year_of_era (last_era (λ e. is_code era e.1) eras) n)

-- the number of a year in an era
abbrev pub number_in_era : ListedEra → ℤ → ℤ
number_in_era e y = y -ℤ e.0.year +ℤ pos 1

-- the first five years of Meiji, in which Japan still counted by moons
abbrev pub is_early_meiji : ListedEra → ℤ → Bool
is_early_meiji e y = is_code e.1 (codes "meiji") && int_lt (number_in_era e y) (pos 6)

abbrev pub year_in_listed_era : ListedEra → ℤ → EraYear
year_in_listed_era e y =
    record { year = number_in_era e y; extended_year = y; era = e.1; era_index = Some e.2; ambiguity = CenturyRequired }

-- a year is printed in the era that is given, but in those of the Gregorian calendar where there is none and in the
-- first years of Meiji
abbrev pub year_printed : Option ListedEra → ℤ → EraYear
year_printed None y = common_era_year y
year_printed (Some e) y = if is_early_meiji e y then common_era_year y else year_in_listed_era e y

-- the era of a date is the last listed one that starts on or before it
abbrev pub japanese_era_year : List ListedEra → Date → EraYear
japanese_era_year eras t = year_printed (last_era (has_started t) eras) t.year
