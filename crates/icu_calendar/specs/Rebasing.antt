-- A date that is brought over to another calendar.
use Rattle.std.specs.Prelude.{◌≡◌, Bool, not}
use Rattle.cal_types.specs.CalendarList.{CalendarList, Date, IsOn, day_number}
use Rattle.cal_types.specs.DateOrder.{date_eq}

-- it is the date of the same day number there, and it has moved exactly where extended year, ordinal month or day
-- differs
pub record IsRebased (c d : CalendarList) (t u : Date) (moved : Bool) : Type 0 where
  pub on : IsOn d (day_number c t) u
  pub moves : moved ≡ not (date_eq t u)
