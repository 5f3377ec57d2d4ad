use Rattle.std.proofs.Common.{Ok, inl, inr, refl}
use Rattle.cal_holidays.specs.BookNames.{holidays_in}
use Rattle.cal_holidays.specs.Books.{named_rules}
use Rattle.cal_tables.specs.Kinds.{table_contents}
use Rattle.command_line.specs.Asked.{HolidaysAsked}
use Rattle.calspan_run.specs.HolidayLines.{holiday_line}
use Rattle.calspan_run.specs.TextSoFar.{lines_text}
use Rattle.calspan_run.specs.declared.status.Status.TheVariants.{Done, WriteFault}
use Rattle.calspan_run.proofs.HolidayLemmas.{answer_is_list, ends_with_answer, record_refused}
use Rattle.calspan_run.proofs.holidays.listing.list_window.Goals as goal

pub returns-in-Err-Record : goal.returns-in-Err-Record
returns-in-Err-Record g c =
    record_refused (record { first = c.args.window.first; last = c.args.window.last }) (table_contents c.args.tables.now) c.args.bytes.now c.refuse_record.result _ _ _ _ _ _ _ _ _ c.requires.window
    c.in-Err-Record.ensures.fault c.in-Err-Record.field-0-is c.in-Err-Record.number-is c.in-Err-Record.field-is c.refuse_record.ensures

pub returns-in-Ok-write_holidays : goal.returns-in-Ok-write_holidays
returns-in-Ok-write_holidays g c =
    let asked : HolidaysAsked = record { first = c.args.window.first; last = c.args.window.last } in
    let tables = table_contents c.args.tables.now in
    let rules = named_rules c.in-Ok.book in
    let lines = lines_text (holiday_line rules) (holidays_in tables rules c.args.window.first c.args.window.last 0) in
    ends_with_answer asked tables c.args.bytes.now Done _ _ _ _ (Ok lines)
    (answer_is_list asked tables c.args.bytes.now rules c.requires.window c.in-Ok.ensures.read) (inl (refl, c.in-Ok-write_holidays.ensures.wrote))

pub returns : goal.returns
returns g c =
    let asked : HolidaysAsked = record { first = c.args.window.first; last = c.args.window.last } in
    let tables = table_contents c.args.tables.now in
    let rules = named_rules c.in-Ok.book in
    let lines = lines_text (holiday_line rules) (holidays_in tables rules c.args.window.first c.args.window.last 0) in
    ends_with_answer asked tables c.args.bytes.now WriteFault _ _ _ _ (Ok lines)
    (answer_is_list asked tables c.args.bytes.now rules c.requires.window c.in-Ok.ensures.read) (inr (refl, c.in-Err.ensures.wrote, c.in-Err.ensures.cause.failed))
