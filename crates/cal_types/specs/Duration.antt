-- Durations in one unit.
use Rattle.std.specs.Prelude.{ℤ, pos, unsigned_abs, int_lt}
use Rattle.cal_types.specs.declared.duration.DateDuration.{DateDuration}
use Rattle.cal_types.specs.declared.duration.DateDurationUnit.{DateDurationUnit}
use Rattle.cal_types.specs.declared.duration.DateDurationUnit.TheVariants.{Years, Months, Weeks, Days}

-- so many of a unit; fewer than none go back in time
abbrev pub duration_of : DateDurationUnit → ℤ → DateDuration
duration_of Years n =
    record { is_negative = int_lt n (pos 0); years = unsigned_abs n; months = 0; weeks = 0; days = 0 }
duration_of Months n =
    record { is_negative = int_lt n (pos 0); years = 0; months = unsigned_abs n; weeks = 0; days = 0 }
duration_of Weeks n =
    record { is_negative = int_lt n (pos 0); years = 0; months = 0; weeks = unsigned_abs n; days = 0 }
duration_of Days n =
    record { is_negative = int_lt n (pos 0); years = 0; months = 0; weeks = 0; days = unsigned_abs n }
