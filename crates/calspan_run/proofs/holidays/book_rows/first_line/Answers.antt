use Rattle.std.proofs.Common.{◌+◌, arith, drop, length, sym}
use Rattle.std.proofs.lemmas.List.{drop_all, take_rest}
use Rattle.calspan_run.proofs.BookRowLemmas.{lines_more, one_line, one_part, parts_at}
use Rattle.calspan_run.proofs.holidays.book_rows.first_line.Goals as goal

pub returns-in-Some-clause-lines : goal.returns-in-Some-clause-lines
returns-in-Some-clause-lines c = rw take_rest (lines_more c.args.bytes.now _ (drop (c.in-Some.count + 1) c.args.bytes.now) (parts_at c.args.bytes.now c.in-Some.count (sym c.in-Some.ensures.value)))

pub returns-in-None-clause-lines : goal.returns-in-None-clause-lines
returns-in-None-clause-lines c = rw (take_rest, drop_all (length c.args.bytes.now) c.args.bytes.now (omega arith)) (one_line c.args.bytes.now c.requires (one_part c.args.bytes.now (sym c.in-None.ensures.value)))
