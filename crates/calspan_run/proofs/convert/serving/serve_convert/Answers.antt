use Rattle.std.proofs.Common.{[], inr, refl, arith}
use Rattle.std.proofs.KnownBytes.{Consumes-nil}
use Rattle.command_line.specs.ConvertSaid.{convert_said}
use Rattle.calspan_run.specs.Streaming.{convert_rules}
use Rattle.calspan_run.proofs.ConvertHeadLemmas.{heading_begins}
use Rattle.calspan_run.proofs.ConvertRunLemmas.{ends_stream, said_fault, said_stream, said_too_long}
use Rattle.calspan_run.proofs.KnownLemmas.{appends_none}
use Rattle.calspan_run.proofs.convert.serving.serve_convert.Goals as goal

pub returns-in-Dated : goal.returns-in-Dated
returns-in-Dated g c =
    let left = g.S.Source.left c.args.source.now in
    let start = heading_begins left _ _ _ (Consumes-nil left) c.new-reader.ensures c.in-Ok.ensures c.new-rows.ensures in
    c.serve_dates.ensures left (g.S.Source.faults c.args.source.now) c.gather_head.ensures.later (c.in-Dated.ensures.heads left (g.S.Source.faults c.args.source.now) (omega arith) start)

pub returns-in-LastDated : goal.returns-in-LastDated
returns-in-LastDated g c =
    let left = g.S.Source.left c.args.source.now in
    let start = heading_begins left _ _ _ (Consumes-nil left) c.new-reader.ensures c.in-Ok.ensures c.new-rows.ensures in
    c.serve_last.ensures left _ _ _ (c.in-LastDated.ensures.heads left (g.S.Source.faults c.args.source.now) (omega arith) start)

pub returns-in-End : goal.returns-in-End
returns-in-End g c =
    let left = g.S.Source.left c.args.source.now in
    let start = heading_begins left _ _ _ (Consumes-nil left) c.new-reader.ensures c.in-Ok.ensures c.new-rows.ensures in
    c.serve_none.ensures left _ _ _ (c.in-End.ensures.heads left (g.S.Source.faults c.args.source.now) (omega arith) start)

pub returns-in-Refused : goal.returns-in-Refused
returns-in-Refused g c =
    let a = convert_said c.args.words in
    let left = g.S.Source.left c.args.source.now in
    let start = heading_begins left _ _ _ (Consumes-nil left) c.new-reader.ensures c.in-Ok.ensures c.new-rows.ensures in
    let (whole, said) = c.in-Refused.ensures.heads left (g.S.Source.faults c.args.source.now) (omega arith) start in
    ends_stream (convert_rules a) left _ _ _ _ _ _ _ _ _ (said_stream a left _ whole _ said) c.refuse_row.result _ (inr (inr refl)) (omega arith) c.refuse_row.ensures

pub returns-in-ReadFault : goal.returns-in-ReadFault
returns-in-ReadFault g c =
    let left = g.S.Source.left c.args.source.now in
    let start = heading_begins left _ _ _ (Consumes-nil left) c.new-reader.ensures c.in-Ok.ensures c.new-rows.ensures in
    let (rose, said) = c.in-ReadFault.ensures.heads left (g.S.Source.faults c.args.source.now) (omega arith) start in
    said_fault (convert_said c.args.words) left _ _ _ _ _ _ rose said

pub returns-in-NoMemory : goal.returns-in-NoMemory
returns-in-NoMemory g c =
    let left = g.S.Source.left c.args.source.now in
    let start = heading_begins left _ _ _ (Consumes-nil left) c.new-reader.ensures c.in-Ok.ensures c.new-rows.ensures in
    let (bytes, took) = c.in-NoMemory.ensures.heads left (g.S.Source.faults c.args.source.now) (omega arith) start in
    (bytes, record { took = took; wrote = appends_none _ })

pub returns : goal.returns
returns g c =
    let left = g.S.Source.left c.args.source.now in
    let start = heading_begins left _ _ _ (Consumes-nil left) c.new-reader.ensures c.in-Ok.ensures c.new-rows.ensures in
    said_too_long (convert_said c.args.words) left _ _ _ _ _ _ (c.in-TooLong.ensures.heads left (g.S.Source.faults c.args.source.now) (omega arith) start)

pub returns-in_default : goal.returns-in_default
returns-in_default g c = ([], record { took = Consumes-nil _; wrote = appends_none _ })
