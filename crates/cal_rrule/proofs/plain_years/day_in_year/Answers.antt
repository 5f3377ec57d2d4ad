use Rattle.std.proofs.Common.{rules, ◌≡◌, ◌∙◌, refl, sym, ap, arith, FitsSigned, w32, to_z, of_z, ℤ}
use Rattle.cal_anniversary.proofs.YearLemmas.{resolved-of_year}
use Rattle.cal_days.proofs.Signed.{signed}
use Rattle.cal_types.specs.Bag.{year_month_day}
use Rattle.cal_types.specs.CalendarList.{month_at}
use Rattle.cal_types.specs.Month.{MonthParts}
use Rattle.cal_types.specs.MonthParts.{month_parts}
use Rattle.cal_types.specs.declared.leaping.Leaping.TheVariants.{Exact}
use Rattle.cal_rrule.specs.Blocks.{start_of}
use Rattle.cal_rrule.proofs.PlainYearLemmas.{start-known}
use Rattle.cal_rrule.proofs.plain_years.day_in_year.Goals as goal

pub returns-in-Ok : goal.returns-in-Ok
returns-in-Ok g c =
    let s = g.C.Calendar.system c.args.calendar.now in
    let law = g.met.C.Calendar.lawful c.args.calendar.now in
    let a = c.args.asked.now in
    let t = start_of a in
    let fits : FitsSigned w32 c.args.year = search rules in
    let same : to_z w32 (of_z w32 c.args.year) ≡ c.args.year = omega (arith, signed) in
    let bag = c.from_year_month_day-fields.ensures
    ∙ ap (λ (y : ℤ). year_month_day y (month_parts a.month.month) a.day_of_month) same
    ∙ ap (λ (m : MonthParts). year_month_day c.args.year m a.day_of_month) c.requires.asked.is_look.is_month in
    resolved-of_year s.list law s.year_names Exact (month_at s.list t.year t.month) a.day_of_month c.args.year _ _ _ _
    (start-known s.list law t c.requires.asked.is_date) c.requires.year bag refl (sym c.in-Ok.ensures.resolved)
    c.to_rata_die.ensures
