-- What contracts see of a call that makes a date, or says why not.
use Rattle.std.specs.Prelude.{Result, Ok, Err}
use Rattle.cal_types.specs.CalendarList.{Date}

-- a call's answer, whose dates are seen by one view, and whose errors by another
abbrev pub answer_with : {A E F : Type 0} → (A → Date) → (E → F) → Result A E → Result Date F
answer_with view fault (Ok d) = Ok (view d)
answer_with view fault (Err e) = Err (fault e)
