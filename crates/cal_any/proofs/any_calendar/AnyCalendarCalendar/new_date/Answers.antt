use Rattle.cal_types.specs.MonthParts.{month_parts}
use Rattle.cal_any.specs.declared.any_calendar.AnyCalendar.TheVariants as calendar
use Rattle.cal_any.specs.declared.any_calendar.AnyDateInner.TheVariants as inner
use Rattle.cal_any.proofs.AnyAnswers.{made}
use Rattle.cal_any.proofs.any_calendar.AnyCalendarCalendar.new_date.Goals as goal

pub returns-in-Ok-new_date-clause-made : goal.returns-in-Ok-new_date-clause-made
returns-in-Ok-new_date-clause-made c = made _ (calendar.Chinese c.in-Chinese.calendar) (inner.Chinese c.in-Ok-new_date.date) c.args.year (month_parts c.args.month) c.args.day c.in-Chinese.is c.in-Ok-new_date.ensures.made

pub returns-in-Ok-new_date-3-clause-made : goal.returns-in-Ok-new_date-3-clause-made
returns-in-Ok-new_date-3-clause-made c = made _ (calendar.Dangi c.in-Dangi.calendar) (inner.Dangi c.in-Ok-new_date-3.date) c.args.year (month_parts c.args.month) c.args.day c.in-Dangi.is c.in-Ok-new_date-3.ensures.made

pub returns-in-Ok-new_date-7-clause-made : goal.returns-in-Ok-new_date-7-clause-made
returns-in-Ok-new_date-7-clause-made c = made _ (calendar.HijriSimulated c.in-HijriSimulated.calendar) (inner.HijriSimulated c.in-Ok-new_date-7.date) c.args.year (month_parts c.args.month) c.args.day c.in-HijriSimulated.is c.in-Ok-new_date-7.ensures.made

pub returns-in-Ok-new_date-9-clause-made : goal.returns-in-Ok-new_date-9-clause-made
returns-in-Ok-new_date-9-clause-made c = made _ (calendar.HijriUmmAlQura c.in-HijriUmmAlQura.calendar) (inner.HijriUmmAlQura c.in-Ok-new_date-9.date) c.args.year (month_parts c.args.month) c.args.day c.in-HijriUmmAlQura.is c.in-Ok-new_date-9.ensures.made
