use Rattle.std.proofs.Common.{sym}
use Rattle.icu_calendar.specs.RecordDates.{record_parts}
use Rattle.icu_calendar.proofs.DateTextLemmas.{answers-read, answers-not_read}
use Rattle.icu_calendar.proofs.date_parsing.Date+A.try_from_utf8.Goals as goal

pub returns-in-Some-clause-read : goal.returns-in-Some-clause-read
returns-in-Some-clause-read g c =
    let calendar = g.A.AsCalendar.cal_of c.args.calendar in
    answers-read (g.A.Calendar.Calendar.system calendar).list (g.A.Calendar.Calendar.algorithm calendar) c.args.rfc_9557_str.now (record_parts c.in-Some.record) _ (sym c.in-Some.ensures) c.try_from_ixdtf_record.ensures.date

pub returns-in-None-clause-read : goal.returns-in-None-clause-read
returns-in-None-clause-read g c =
    let calendar = g.A.AsCalendar.cal_of c.args.calendar in
    answers-not_read (g.A.Calendar.Calendar.system calendar).list (g.A.Calendar.Calendar.algorithm calendar) c.args.rfc_9557_str.now (sym c.in-None.ensures)
