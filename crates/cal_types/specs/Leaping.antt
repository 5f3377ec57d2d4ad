-- What becomes of a month or a day in a year that lacks it.
use Rattle.cal_types.specs.declared.options.Overflow.{Overflow}
use Rattle.cal_types.specs.declared.options.Overflow.TheVariants as overflow
use Rattle.cal_types.specs.declared.leaping.Leaping.{Leaping}
use Rattle.cal_types.specs.declared.leaping.Leaping.TheVariants.{Exact, Constrain}

-- the overflow under which a date is made of the month and the day
abbrev pub overflow_for : Leaping → Overflow
overflow_for Exact = overflow.Reject
overflow_for Constrain = overflow.Constrain
