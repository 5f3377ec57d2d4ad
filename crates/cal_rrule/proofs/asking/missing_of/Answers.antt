use Rattle.std.proofs.Common.{◌↔◌, IsTrue, subst}
use Rattle.cal_rule.specs.Sets.{has_month, has_place, has_weekday}
use Rattle.cal_rule.specs.declared.month_set.MonthSet.{MonthSet}
use Rattle.cal_rule.specs.declared.place_set.PlaceSet.{PlaceSet}
use Rattle.cal_rule.specs.declared.weekday_places.WeekdayPlaces.{WeekdayPlaces}
use Rattle.cal_rrule.specs.Periods.{IsMissing}
use Rattle.cal_rrule.proofs.asking.missing_of.Goals as goal

pub returns : goal.returns
returns c = record {
  no_months = subst (λ (s : MonthSet). IsTrue c.is_empty.result ↔ IsMissing has_month s) c.months.ensures c.is_empty.ensures;
  no_month_days = subst (λ (s : PlaceSet 1). IsTrue c.is_empty-2.result ↔ IsMissing has_place s) c.month_days.ensures c.is_empty-2.ensures;
  no_year_days = subst (λ (s : PlaceSet 7). IsTrue c.is_empty-3.result ↔ IsMissing has_place s) c.year_days.ensures c.is_empty-3.ensures;
  no_weeks = subst (λ (s : PlaceSet 1). IsTrue c.is_empty-4.result ↔ IsMissing has_place s) c.weeks.ensures c.is_empty-4.ensures;
  no_weekdays = subst (λ (s : WeekdayPlaces). IsTrue c.is_empty-5.result ↔ IsMissing has_weekday s) c.weekdays.ensures c.is_empty-5.ensures;
  no_positions = subst (λ (s : PlaceSet 7). IsTrue c.is_empty-6.result ↔ IsMissing has_place s) c.positions.ensures c.is_empty-6.ensures;
}
