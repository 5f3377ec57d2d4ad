use Rattle.std.proofs.Common.{arith}
use Rattle.table_rows.specs.RowsSaid.{rows_said}
use Rattle.table_rows.proofs.GatheringLemmas.{met_end, met_last, last_refused, last_wanted_memory}
use Rattle.byte_io.specs.Lines.{open_line}
use Rattle.table_rows.proofs.gathering.gather_last.Goals as goal

pub returns-in-GoesOn : goal.returns-in-GoesOn
returns-in-GoesOn c left l l2 faults more reader mid q before h f is same took end =
    met_end left l reader before (rows_said c.args.rows.now) h mid c.args.line.now f l2 took end (rows_said c.gather_line.new.rows) (c.in-GoesOn.ensures (open_line h.bytes) f.holds)

pub returns-in-Request : goal.returns-in-Request
returns-in-Request c left l l2 faults more reader mid q before h f is same took end =
    let asked = c.in-Request.ensures (open_line h.bytes) f.holds in
    met_last left l reader before (rows_said c.args.rows.now) h mid c.args.line.now f l2 took end (rows_said c.gather_line.new.rows) asked.0 asked.1 q same

pub returns-in-Refused : goal.returns-in-Refused
returns-in-Refused c left l l2 faults more reader mid q before h f is same took end =
    last_refused left l reader before (rows_said c.args.rows.now) h mid c.args.line.now f l2 took end _ c.in-Refused.why (omega (arith, is)) (c.in-Refused.ensures (open_line h.bytes) f.holds)

pub returns-in-NoMemory : goal.returns-in-NoMemory
returns-in-NoMemory c left l l2 faults more reader mid q before h f is same took end =
    last_wanted_memory left l reader before (rows_said c.args.rows.now) h mid c.args.line.now f l2 took end (c.in-NoMemory.ensures (open_line h.bytes) f.holds) faults more
