-- Recurrence rules as a book tells them.
use Rattle.cal_holidays.specs.Rules.{Repeated}
use Rattle.cal_holidays.specs.declared.recurrence.Recurrence.{Recurrence}

-- the recurrence rule that is told
abbrev pub recurrence_told : Recurrence → Repeated
recurrence_told r = record { calendar = r.calendar; text = r.text.now; start = r.start }
