use Rattle.std.proofs.Common.{subst}
use Rattle.cal_tables.specs.Kinds.{TableContents}
use Rattle.request_lines.specs.Lines.{line_of}
use Rattle.calspan_run.specs.Answers.{Answering, IsAnswerTo}
use Rattle.calspan_run.specs.Progress.{standing_of}
use Rattle.calspan_run.proofs.WriterLemmas.{text_more}
use Rattle.calspan_run.proofs.span.serving.respond.Goals as goal

pub returns-clause-answered : goal.returns-clause-answered
returns-clause-answered g c before text whole rows tables holds so_far =
    let (added, e, answer) = c.answer.ensures whole holds in (
      added,
      subst (λ (t : TableContents). IsAnswerTo (line_of whole) t c.args.number (Answering c.args.progress.refused) added (standing_of c.answer.result)) tables answer,
      text_more before _ c.make_room.new.pending.items added c.answer.new.pending.items text (c.in_ok-make_room.ensures.text before text so_far) e,
    )
