-- The lines of lists of days, and the line that refuses a list.
use Rattle.std.specs.Prelude.{◌≡◌, ℕ, ℤ, Bool, true, false, ◌&&◌, int_le, List, [], ◌∷◌, ◌++◌, Result, Ok, Err, codes}
use Rattle.std.specs.Fmt.{decimal}
use Rattle.cal_days.specs.Day.{is_valid_day}
use Rattle.cal_types.specs.CalendarSystem.{CalendarSystem}
use Rattle.cal_types.specs.DayDates.{date_on}
use Rattle.cal_recur.specs.declared.recurrence.Occurrence.{Occurrence}
use Rattle.reply_texts.specs.DateTexts.{day_text}
use Rattle.calspan_run.specs.Refusals.{status_of}
use Rattle.calspan_run.specs.declared.status.Status.{Status}

-- the line of a day: its date in a calendar, and its date in the one that is shown
abbrev pub day_line : CalendarSystem → CalendarSystem → ℤ → List ℕ
day_line c shown n = day_text c shown (date_on c.list n) (date_on shown.list n) ++ 10 ∷ []

-- the line of an occurrence: its index, and the line of its day
abbrev pub occurrence_line : CalendarSystem → CalendarSystem → Occurrence → List ℕ
occurrence_line c shown x = decimal x.index ++ 32 ∷ day_line c shown x.day

-- whether two days make a window: both are valid, and in order
abbrev pub is_window : ℤ → ℤ → Bool
is_window first last = (is_valid_day first && is_valid_day last) && int_le first last

-- the lines of a list, or why there is none
abbrev pub list_text : Result (List ℕ) (List ℕ) → List ℕ
list_text (Ok lines) = lines
list_text (Err why) = codes "err " ++ why ++ 10 ∷ []

abbrev pub is_refused : Result (List ℕ) (List ℕ) → Bool
is_refused (Ok lines) = false
is_refused (Err why) = true

-- the text of a list, and whether it is refused
abbrev pub IsListText : Result (List ℕ) (List ℕ) → List ℕ → Bool → Type 0
IsListText answer text refused = (text ≡ list_text answer) × (refused ≡ is_refused answer)

-- the text of a list, and the status that it ends with
abbrev pub IsListEnd : Result (List ℕ) (List ℕ) → List ℕ → Status → Type 0
IsListEnd answer text status = (refused : Bool) × IsListText answer text refused × (status ≡ status_of refused)
