-- The reference years of China and Korea: for each month, the year for days up to 26, the one for days up to 29,
-- and the one for later days.
-- Such years are those of ECMAScript Temporal's NonISOMonthDayToISOReferenceDate; the years of this table decide.
use Rattle.std.specs.Prelude.{ℕ, ◌-◌, nat_le, if◌then◌else◌, List, [], ◌∷◌, get_or, Option, Some, None, ok_or, Result, Err, ℤ, pos}
use Rattle.cal_types.specs.Month.{MonthParts}
use Rattle.cal_errors.specs.declared.errors.EcmaReferenceYearError.{EcmaReferenceYearError}
use Rattle.cal_errors.specs.declared.errors.EcmaReferenceYearError.TheVariants.{MonthNotInCalendar, UseRegularIfConstrain}
use Rattle.cal_east_asian.specs.EastAsianPlaces.{is_east_asian_month}
use Rattle.cal_east_asian.specs.declared.sides.Side.{Side}
use Rattle.cal_east_asian.specs.declared.sides.Side.TheVariants.{China, Korea}

pub record ReferenceRow : Type 0 where
  pub to_26 : Option ℤ
  pub to_29 : Option ℤ
  pub later : Option ℤ

-- days up to 29, and later ones
abbrev pub both : ℕ → ℕ → ReferenceRow
both y z = record { to_26 = Some (pos y); to_29 = Some (pos y); later = Some (pos z) }

-- days up to 29 alone
abbrev pub short : ℕ → ReferenceRow
short y = record { to_26 = Some (pos y); to_29 = Some (pos y); later = None }

abbrev pub no_years : ReferenceRow
no_years = record { to_26 = None; to_29 = None; later = None }

-- the day 30 of the third month
abbrev pub third_month_30 : Side → ℕ
third_month_30 China = 1966
third_month_30 Korea = 1968

-- the plain months 1 to 12
abbrev pub plain_rows : Side → List ReferenceRow
plain_rows side =
    both 1972 1970 ∷ both 1972 1972 ∷ both 1972 (third_month_30 side) ∷ both 1972 1970
    ∷ both 1972 1972 ∷ both 1972 1971 ∷ both 1972 1972 ∷ both 1972 1971
    ∷ both 1972 1972 ∷ both 1972 1972
    ∷ record { to_26 = Some (pos 1972); to_29 = Some (pos 1971); later = Some (pos 1969) } ∷ both 1971 1971 ∷ []

-- the leap months of these numbers
abbrev pub leap_rows : List ReferenceRow
leap_rows =
    no_years ∷ short 1947 ∷ both 1966 1955 ∷ both 1963 1944
    ∷ both 1971 1952 ∷ both 1960 1941 ∷ both 1968 1938 ∷ short 1957
    ∷ short 2014 ∷ short 1984 ∷ short 2033 ∷ no_years ∷ []

abbrev pub plain_row : Side → ℕ → ReferenceRow
plain_row side k = get_or (plain_rows side) (k - 1) no_years

abbrev pub leap_row : ℕ → ReferenceRow
leap_row k = get_or leap_rows (k - 1) no_years

abbrev pub year_for_day : ReferenceRow → ℕ → Option ℤ
year_for_day row day = if nat_le day 26 then row.to_26 else (if nat_le day 29 then row.to_29 else row.later)

abbrev pub month_row : Side → MonthParts → ReferenceRow
month_row side m = if m.is_leap then leap_row m.number else plain_row side m.number

-- the reference year of a month and a day; a leap month without one leaves its place to the plain month of its number
abbrev pub side_reference : Side → MonthParts → ℕ → Result ℤ EcmaReferenceYearError
side_reference side m day =
    if is_east_asian_month m
    then ok_or (year_for_day (month_row side m) day) UseRegularIfConstrain
    else Err MonthNotInCalendar
