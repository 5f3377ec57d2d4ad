-- Durations that are added, and differences.
use Rattle.std.specs.Prelude.{ℤ, true, false, nat_eq, Result, Ok, Err, MatchResult, if◌then◌else◌}
use Rattle.cal_types.specs.declared.duration.DateDuration.{DateDuration}
use Rattle.cal_types.specs.declared.duration.DateDurationUnit.{DateDurationUnit}
use Rattle.cal_types.specs.declared.options.Overflow.{Overflow}
use Rattle.cal_errors.specs.declared.errors.DateAddError.{DateAddError}
use Rattle.cal_types.specs.Adding.{IsSum}
use Rattle.cal_types.specs.CalendarList.{Date, IsOn}
use Rattle.cal_types.specs.CalendarSystem.{CalendarSystem}
use Rattle.cal_types.specs.Until.{IsUntil}
use Rattle.date_calls.specs.Dates.{AreParts, flag}
use Rattle.date_calls.specs.declared.dates.CalendarDate.{CalendarDate}
use Rattle.date_calls.specs.declared.durations.CalendarDuration.{CalendarDuration}

-- the duration that a caller gives, which goes back in time where the last number isn't 0
abbrev pub duration_given : CalendarDuration → DateDuration
duration_given d = record {
  is_negative = if nat_eq d.is_negative 0 then false else true;
  years = d.years;
  months = d.months;
  weeks = d.weeks;
  days = d.days;
}

-- what a caller is told of a duration
abbrev pub duration_told : DateDuration → CalendarDuration
duration_told d =
    record { years = d.years; months = d.months; weeks = d.weeks; days = d.days; is_negative = flag d.is_negative }

-- what the date says that a duration leads to from a day, or why there is none
pub record IsAdded (s : CalendarSystem) (day : ℤ) (duration : DateDuration) (overflow : Overflow)
    (answer : Result CalendarDate DateAddError) : Type 0 where
  pub from : Date
  pub on : IsOn s.list day from
  pub sum : MatchResult answer
      (λ parts. (to : Date) × IsSum s.list s.year_shift from duration overflow (Ok to) × AreParts s to parts)
      (λ why. IsSum s.list s.year_shift from duration overflow (Err why))

-- the difference from the date of a day to that of another one; it leads back
pub record IsApart (s : CalendarSystem) (first second : ℤ) (unit : DateDurationUnit)
    (duration : DateDuration) : Type 0 where
  pub from : Date
  pub to : Date
  pub on_first : IsOn s.list first from
  pub on_second : IsOn s.list second to
  pub until : IsUntil s.list s.year_shift from to unit duration
