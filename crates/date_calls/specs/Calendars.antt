-- The calendar that two codes stand for.
use Rattle.std.specs.Prelude.{ℕ, Option, Some, None, Result, Ok, Err}
use Rattle.cal_kinds.specs.declared.any_calendar_kind.AnyCalendarKind.{AnyCalendarKind}
use Rattle.cal_types.specs.CalendarSystem.{CalendarSystem}
use Rattle.cal_tables.specs.Kinds.{TableContents, kind_system}
use Rattle.date_calls.specs.Codes.{contents_of_code, kind_of_code}
use Rattle.date_calls.specs.Sources.{source_contents}
use Rattle.date_calls.specs.declared.calendars.Chosen.{Chosen}

-- the calendar of a kind over tables, where there are both; otherwise the code of the fault
abbrev pub system_over : AnyCalendarKind → Option TableContents → Result CalendarSystem ℕ
system_over kind (Some tables) = Ok (kind_system tables kind)
system_over kind None = Err 2

abbrev pub system_of : Option AnyCalendarKind → Option TableContents → Result CalendarSystem ℕ
system_of (Some kind) tables = system_over kind tables
system_of None tables = Err 1

-- the calendar of a code, with the years of another code
abbrev pub calendar_of : ℕ → ℕ → Result CalendarSystem ℕ
calendar_of calendar years = system_of (kind_of_code calendar) (contents_of_code years)

-- the calendar that was chosen
abbrev pub choice_system : Chosen → CalendarSystem
choice_system c = kind_system (source_contents c.source) c.kind

abbrev pub chosen_system : Result Chosen ℕ → Result CalendarSystem ℕ
chosen_system (Ok c) = Ok (choice_system c)
chosen_system (Err code) = Err code
