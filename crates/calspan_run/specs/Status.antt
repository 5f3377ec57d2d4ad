-- The exit codes, and how a run ends where reading its row lines stopped at no line.
use Rattle.std.specs.Prelude.{ℕ}
use Rattle.table_rows.specs.declared.gathering.Stop.{Stop}
use Rattle.table_rows.specs.declared.gathering.Stop.TheVariants as stop
use Rattle.calspan_run.specs.declared.status.Status.{Status}
use Rattle.calspan_run.specs.declared.status.Status.TheVariants.{Done, Refused, Words, ReadFault, WriteFault, NoMemory, TableRefused, TooLong}

-- the exit code of a status
abbrev pub code_of : Status → ℕ
code_of Done = 0
code_of Refused = 1
code_of Words = 2
code_of ReadFault = 3
code_of WriteFault = 4
code_of NoMemory = 5
code_of TableRefused = 6
code_of TooLong = 7

-- the status where reading row lines stopped at no line
abbrev pub stop_status : Stop → Status
stop_status stop.ReadFault = ReadFault
stop_status stop.TooLong = TooLong
stop_status stop.NoMemory = NoMemory
