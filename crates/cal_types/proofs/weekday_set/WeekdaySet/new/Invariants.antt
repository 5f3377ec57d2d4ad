use Rattle.std.proofs.Common.{◌≡◌, ◌-◌, ◌≤◌, false, take, length, get_or}
use Rattle.cal_types.specs.Weekday.{days_since_sunday}
use Rattle.cal_types.specs.WeekdaySet.{is_one_of}
use Rattle.cal_types.specs.declared.weekday.Weekday.{Weekday}
use Rattle.cal_types.proofs.weekday_set.WeekdaySet.new.Given as goal

-- the days that were looked at are held
abbrev pub invariant-loop-i : goal.invariant-loop-i
invariant-loop-i l = record {
  within : l.i ≤ length l.days;
  size : length l.held ≡ 7;
  held : (day : Weekday) → get_or l.held (days_since_sunday day) false ≡ is_one_of (take l.i l.days) day;
}

abbrev pub decreases-loop-i : goal.decreases-loop-i
decreases-loop-i l = length l.days - l.i
