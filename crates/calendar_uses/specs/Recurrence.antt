-- What a recurrence rule adds to its first date.
use Rattle.std.specs.Prelude.{ℕ, false}
use Rattle.icu_calendar.specs.declared.DateDuration.{DateDuration}

-- so many months later
abbrev pub later_by : ℕ → DateDuration
later_by n = record { is_negative = false; years = 0; months = n; weeks = 0; days = 0 }
