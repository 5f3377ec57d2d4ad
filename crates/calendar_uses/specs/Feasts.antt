-- The day of a date text, and the next Easter after a day.
use Rattle.std.specs.Prelude.{◌≡◌, ◌⊎◌, ℕ, ℤ, pos, ◌+ℤ◌, ◌<ℤ◌, ◌≤ℤ◌, List, Option}
use Rattle.icu_calendar.specs.CalendarList.{Date, day_number}
use Rattle.icu_calendar.specs.IsoSystem.{iso_list}
use Rattle.icu_calendar.specs.GregorianSystem.{gregorian_system}
use Rattle.icu_calendar.specs.DateText.{IsDateText}
use Rattle.icu_calendar.specs.Easter.{IsGregorianEaster}
use Rattle.icu_calendar.specs.EasterDates.{IsOnDayOf}

-- a Gregorian date is on the day that a text names
abbrev pub IsDayOfText : List ℕ → Date → Type 0
IsDayOfText text t = (iso : Date) (name : Option (List ℕ)) → IsDateText text iso name
    → day_number gregorian_system.list t ≡ day_number iso_list iso

-- a date is Easter of a year
abbrev pub IsEasterOf : ℤ → Date → Type 0
IsEasterOf year t = IsOnDayOf (IsGregorianEaster year) gregorian_system.list t

-- Easter of a year where it comes after a day of that year, and otherwise that of the next year
abbrev pub IsNextEaster : ℤ → ℤ → Date → Type 0
IsNextEaster year day t =
    (IsEasterOf year t × (day <ℤ day_number gregorian_system.list t))
    ⊎ (IsEasterOf (year +ℤ pos 1) t × ((e : Date) × (IsEasterOf year e × (day_number gregorian_system.list e ≤ℤ day))))
