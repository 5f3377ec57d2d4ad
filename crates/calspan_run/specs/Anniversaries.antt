-- What `anniversary` writes.
use Rattle.std.specs.Prelude.{ℕ, List, Option, Some, None, Result, Ok, Err, codes, if◌then◌else◌}
use Rattle.cal_anniversary.specs.Asking.{anniversary_fault}
use Rattle.cal_anniversary.specs.declared.errors.AnniversaryError.{AnniversaryError}
use Rattle.cal_anniversary.specs.declared.errors.AnniversaryError.TheVariants.{MonthNotInCalendar, InvalidDay}
use Rattle.cal_types.specs.Anniversary.{anniversaries_between}
use Rattle.cal_types.specs.CalendarSystem.{CalendarSystem}
use Rattle.cal_tables.specs.Kinds.{TableContents, kind_system}
use Rattle.command_line.specs.Asked.{AnniversaryAsked}
use Rattle.calspan_run.specs.DayLines.{day_line, is_window}
use Rattle.calspan_run.specs.TextSoFar.{lines_text}

abbrev pub anniversary_error : AnniversaryError → List ℕ
anniversary_error MonthNotInCalendar = codes "MonthNotInCalendar"
anniversary_error InvalidDay = codes "InvalidDay"

-- the lines, where a month and a day have no fault
abbrev pub unless_fault : Option AnniversaryError → List ℕ → Result (List ℕ) (List ℕ)
unless_fault None lines = Ok lines
unless_fault (Some e) lines = Err (anniversary_error e)

-- a line for each day of a window that is an anniversary, in their order
abbrev pub anniversary_lines : CalendarSystem → CalendarSystem → AnniversaryAsked → List ℕ
anniversary_lines c shown a =
    lines_text (day_line c shown) (anniversaries_between c.list a.leaping a.month a.day a.first a.last)

-- the same, or the fault of the month, or of the day
abbrev pub anniversaries_in : CalendarSystem → CalendarSystem → AnniversaryAsked → Result (List ℕ) (List ℕ)
anniversaries_in c shown a = unless_fault (anniversary_fault c.list a.month a.day) (anniversary_lines c shown a)

-- the answer over tables: first the window is tested
abbrev pub anniversary_answer : AnniversaryAsked → TableContents → Result (List ℕ) (List ℕ)
anniversary_answer a tables =
    if is_window a.first a.last then anniversaries_in (kind_system tables a.calendar) (kind_system tables a.shown) a
    else Err (codes "InvalidWindow")
