use Rattle.std.proofs.Common.{Ok, Err, refl}
use Rattle.cal_types.specs.Difference.{largest_unit_of}
use Rattle.cal_tables.specs.Kinds.{kind_system, table_contents}
use Rattle.cal_types.specs.Spans.{SpanDates}
use Rattle.reply_texts.specs.DateTexts.{span_text, error_text}
use Rattle.calspan_run.proofs.span.replies.reply.Goals as goal

pub returns-in-Ok : goal.returns-in-Ok
returns-in-Ok c =
    let tables = table_contents c.args.tables.now in
    let system = kind_system tables c.args.header.now.calendar in
    let other = kind_system tables c.args.header.now.shown in
    let unit = largest_unit_of c.args.header.now.difference.largest_unit in
    let named = c.in-Ok.ensures.named in
    let said = c.push_span.ensures system _ _ _ unit named in
    let dates : SpanDates = record { from = named.from_date; from_shown = said.from_shown; to = named.to_date; to_shown = said.to_shown; duration = said.duration } in (
      span_text system other dates,
      said.says,
      record {
        answer = Ok dates;
        span = record { from = named.from; to = named.to; from_shown = said.from_on; to_shown = said.to_on; until = said.until };
        says = refl;
        refuses = refl;
      },
    )

pub returns-in-Err : goal.returns-in-Err
returns-in-Err c =
    (error_text c.in-Err.error, c.push_error.ensures, record { answer = Err c.in-Err.error; span = c.in-Err.ensures.refused.refuses; says = refl; refuses = refl })
