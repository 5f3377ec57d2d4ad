-- What recurrence rules ask of a calendar holds of any calendar, since it holds of each kind.
use Rattle.cal_any.specs.AnySystem.{any_system}
use Rattle.cal_any.specs.declared.any_calendar.AnyCalendar.{AnyCalendar}
use Rattle.cal_any.specs.declared.any_calendar.AnyCalendar.TheVariants as calendar
use Rattle.cal_east_asian.specs.TableRules as tables
use Rattle.cal_east_asian.specs.laws.TableRuleLaws.{table-years}
use Rattle.cal_hijri.specs.HijriRows as hijri_rows
use Rattle.cal_julian.specs.PersianCorrected.{corrected_years}
use Rattle.cal_rrule.specs.NearDays.{IsNearList}
use Rattle.near_years.proofs.KindNear.{table_near, tabular_near}
use Rattle.near_years.proofs.NearLists.{buddhist_near, coptic_near, east_asian_near, ethiopian_near, gregorian_near, hebrew_near, indian_near, julian_near, persian_near, roc_near}

pub any_near : (c : AnyCalendar) → IsNearList (any_system c).list
any_near (calendar.Buddhist _) = buddhist_near
any_near (calendar.Chinese c) = east_asian_near (tables.table_year c.0.table) (table-years c.0.table)
any_near (calendar.Coptic _) = coptic_near
any_near (calendar.Dangi c) = east_asian_near (tables.table_year c.0.table) (table-years c.0.table)
any_near (calendar.Ethiopian c) = ethiopian_near c.era_style
any_near (calendar.Gregorian _) = gregorian_near
any_near (calendar.Hebrew _) = hebrew_near
any_near (calendar.HijriSimulated c) = table_near (hijri_rows.years_of c.0.table.rows.now) c.0.table.accepted
any_near (calendar.HijriTabular c) = tabular_near c.0
any_near (calendar.HijriUmmAlQura c) = table_near (hijri_rows.years_of c.0.table.rows.now) c.0.table.accepted
any_near (calendar.Indian _) = indian_near
any_near (calendar.Iso _) = gregorian_near
any_near (calendar.Japanese _) = gregorian_near
any_near (calendar.JapaneseExtended _) = gregorian_near
any_near (calendar.Julian _) = julian_near
any_near (calendar.Persian c) = persian_near (corrected_years c) c.corrections.known
any_near (calendar.Roc _) = roc_near
