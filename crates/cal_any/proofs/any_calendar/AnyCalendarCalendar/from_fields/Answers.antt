use Rattle.cal_types.specs.Bag.{bag_of}
use Rattle.cal_any.specs.declared.any_calendar.AnyCalendar.TheVariants as calendar
use Rattle.cal_any.specs.declared.any_calendar.AnyDateInner.TheVariants as inner
use Rattle.cal_any.proofs.AnyAnswers.{resolved_date, refused_fields}
use Rattle.cal_any.proofs.any_calendar.AnyCalendarCalendar.from_fields.Goals as goal

pub returns-in-Ok-from_fields-clause-resolved : goal.returns-in-Ok-from_fields-clause-resolved
returns-in-Ok-from_fields-clause-resolved c = resolved_date _ (calendar.Chinese c.in-Chinese.calendar) (inner.Chinese c.in-Ok-from_fields.date) (bag_of c.args.fields) c.args.options c.in-Chinese.is c.in-Ok-from_fields.ensures.resolved

pub returns-in-Ok-from_fields-3-clause-resolved : goal.returns-in-Ok-from_fields-3-clause-resolved
returns-in-Ok-from_fields-3-clause-resolved c = resolved_date _ (calendar.Dangi c.in-Dangi.calendar) (inner.Dangi c.in-Ok-from_fields-3.date) (bag_of c.args.fields) c.args.options c.in-Dangi.is c.in-Ok-from_fields-3.ensures.resolved

pub returns-in-Err-from_fields-clause-resolved : goal.returns-in-Err-from_fields-clause-resolved
returns-in-Err-from_fields-clause-resolved c = refused_fields _ (calendar.Chinese c.in-Chinese.calendar) c.in-Err-from_fields.cause (bag_of c.args.fields) c.args.options c.in-Chinese.is c.in-Err-from_fields.ensures.resolved

pub returns-in-Err-from_fields-3-clause-resolved : goal.returns-in-Err-from_fields-3-clause-resolved
returns-in-Err-from_fields-3-clause-resolved c = refused_fields _ (calendar.Dangi c.in-Dangi.calendar) c.in-Err-from_fields-3.cause (bag_of c.args.fields) c.args.options c.in-Dangi.is c.in-Err-from_fields-3.ensures.resolved

pub returns-in-Err-from_fields-7-clause-resolved : goal.returns-in-Err-from_fields-7-clause-resolved
returns-in-Err-from_fields-7-clause-resolved c = refused_fields _ (calendar.HijriSimulated c.in-HijriSimulated.calendar) c.in-Err-from_fields-7.cause (bag_of c.args.fields) c.args.options c.in-HijriSimulated.is c.in-Err-from_fields-7.ensures.resolved

pub returns-in-Err-from_fields-8-clause-resolved : goal.returns-in-Err-from_fields-8-clause-resolved
returns-in-Err-from_fields-8-clause-resolved c = refused_fields _ (calendar.HijriTabular c.in-HijriTabular.calendar) c.in-Err-from_fields-8.cause (bag_of c.args.fields) c.args.options c.in-HijriTabular.is c.in-Err-from_fields-8.ensures.resolved

pub returns-in-Err-from_fields-9-clause-resolved : goal.returns-in-Err-from_fields-9-clause-resolved
returns-in-Err-from_fields-9-clause-resolved c = refused_fields _ (calendar.HijriUmmAlQura c.in-HijriUmmAlQura.calendar) c.in-Err-from_fields-9.cause (bag_of c.args.fields) c.args.options c.in-HijriUmmAlQura.is c.in-Err-from_fields-9.ensures.resolved

pub returns-in-Ok-from_fields-7-clause-resolved : goal.returns-in-Ok-from_fields-7-clause-resolved
returns-in-Ok-from_fields-7-clause-resolved c = resolved_date _ (calendar.HijriSimulated c.in-HijriSimulated.calendar) (inner.HijriSimulated c.in-Ok-from_fields-7.date) (bag_of c.args.fields) c.args.options c.in-HijriSimulated.is c.in-Ok-from_fields-7.ensures.resolved

pub returns-in-Ok-from_fields-9-clause-resolved : goal.returns-in-Ok-from_fields-9-clause-resolved
returns-in-Ok-from_fields-9-clause-resolved c = resolved_date _ (calendar.HijriUmmAlQura c.in-HijriUmmAlQura.calendar) (inner.HijriUmmAlQura c.in-Ok-from_fields-9.date) (bag_of c.args.fields) c.args.options c.in-HijriUmmAlQura.is c.in-Ok-from_fields-9.ensures.resolved
