-- Days to come: birthdays in a leap month, and what comes back every so many months or years.
use Rattle.std.specs.Prelude.{◌≡◌, ◌↔◌, ◌<◌, ◌<ℤ◌, ◌*◌, ℕ, ℤ, false, List, AllPairs, Contains, Ok}
use Rattle.icu_calendar.specs.Day.{IsBetween}
use Rattle.icu_calendar.specs.CalendarList.{Date, day_number}
use Rattle.icu_calendar.specs.CalendarSystem.{CalendarSystem}
use Rattle.icu_calendar.specs.Adding.{IsSum}
use Rattle.icu_calendar.specs.Anniversary.{anniversaries_between}
use Rattle.icu_calendar.specs.Month.{leap_month}
use Rattle.icu_calendar.specs.HebrewList.{hebrew_list}
use Rattle.icu_calendar.specs.HebrewSystem.{hebrew_system}
use Rattle.icu_calendar.specs.IsoSystem.{iso_system}
use Rattle.icu_calendar.specs.declared.DateDuration.{DateDuration}
use Rattle.icu_calendar.specs.declared.Leaping.TheVariants as leaping
use Rattle.icu_calendar.specs.declared.Occurrence.{Occurrence}
use Rattle.icu_calendar.specs.declared.Overflow.{Overflow}
use Rattle.icu_calendar.specs.declared.Overflow.TheVariants.{Constrain, Reject}
use Rattle.calendar_uses.specs.Recurrence.{later_by}

-- the birthdays from a first day to a last one of someone born on a day of Adar I:
-- one in each year, in Adar where there is no Adar I, and on the month's last day where it lacks the day
abbrev pub birthdays_in_adar : ℕ → ℤ → ℤ → List ℤ
birthdays_in_adar day first last = anniversaries_between hebrew_list leaping.Constrain (leap_month 5) day first last

-- so many years later
abbrev pub years_later : ℕ → DateDuration
years_later n = record { is_negative = false; years = n; months = 0; weeks = 0; days = 0 }

-- a day is that of a date with a duration added
abbrev pub IsLater : CalendarSystem → Date → DateDuration → Overflow → ℤ → Type 0
IsLater s t duration overflow n =
    (u : Date) × IsSum s.list s.year_shift t duration overflow (Ok u) × (day_number s.list u ≡ n)

-- the items are all days from a first to a last one on which a date comes back, in order: item k is the date with k
-- times so much added
pub record ComesBackOn (s : CalendarSystem) (t : Date) (later : ℕ → DateDuration) (every : ℕ) (overflow : Overflow)
    (first last : ℤ) (xs : List Occurrence) : Type 0 where
  pub rising : AllPairs (λ x y. (x.index < y.index) × (x.day <ℤ y.day)) xs
  pub exact : (x : Occurrence) →
      Contains xs x ↔ (IsLater s t (later (x.index * every)) overflow x.day × IsBetween first last x.day)

-- once a month; a day that the month lacks is its last one
abbrev pub ArePaydays : Date → ℤ → ℤ → List Occurrence → Type 0
ArePaydays t first last xs = ComesBackOn iso_system t later_by 1 Constrain first last xs

-- every second Hebrew year, where it has the month and the day
abbrev pub AreReunions : Date → ℤ → ℤ → List Occurrence → Type 0
AreReunions t first last xs = ComesBackOn hebrew_system t years_later 2 Reject first last xs
