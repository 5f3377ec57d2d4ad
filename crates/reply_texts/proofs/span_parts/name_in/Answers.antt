use Rattle.std.proofs.Common.{sym}
use Rattle.reply_texts.proofs.span_parts.name_in.Goals as goal

pub returns-clause-named : goal.returns-clause-named
returns-clause-named g c = record {
  from_date = g.C.Calendar.date_of c.args.calendar.now c.in-Ok.date;
  to_date = g.C.Calendar.date_of c.args.calendar.now c.in-Ok-from_fields.date;
  from = sym c.in-Ok.ensures.resolved;
  to = sym c.in-Ok-from_fields.ensures.resolved;
  from_parts = c.parts_of-parts.ensures;
  to_parts = c.parts_of-parts-2.ensures;
  until = c.until-parts.ensures;
}

pub returns-in-Err-from_fields-clause-refused : goal.returns-in-Err-from_fields-clause-refused
returns-in-Err-from_fields-clause-refused g c = record {
  refuses = (g.C.Calendar.date_of c.args.calendar.now c.in-Ok.date, sym c.in-Ok.ensures.resolved, sym c.in-Err-from_fields.ensures.resolved);
}
