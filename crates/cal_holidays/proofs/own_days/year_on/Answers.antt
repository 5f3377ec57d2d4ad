use Rattle.std.proofs.Common.{◌≡◌, ◌∙◌, sym, ap, subst, rules, arith, FitsSigned, to_z, of_z, w32}
use Rattle.cal_days.specs.Day.{IsFieldYear}
use Rattle.cal_days.proofs.Signed.{signed}
use Rattle.cal_types.specs.CalendarList.{Date}
use Rattle.cal_types.proofs.ListLemmas.{on-unique}
use Rattle.cal_holidays.proofs.own_days.year_on.Goals as goal

pub returns-clause-year : goal.returns-clause-year
returns-clause-year g c t on =
    let s = c.args.calendar.now in
    let list = (g.C.Calendar.system s).list in
    let there = g.C.Calendar.date_of s c.from_rata_die.result in
    let fits : FitsSigned w32 c.extended_year.result = search rules in
    let held : to_z w32 (of_z w32 c.extended_year.result) ≡ c.extended_year.result = omega (arith, signed) in
    ap (λ (u : Date). u.year) (on-unique list c.args.day t there on c.from_rata_die.ensures.on) ∙ sym (held ∙ c.extended_year.ensures)

pub returns-clause-range : goal.returns-clause-range
returns-clause-range g c =
    let s = c.args.calendar.now in
    let laws = g.met.C.Calendar in
    let fits : FitsSigned w32 c.extended_year.result = search rules in
    let held : to_z w32 (of_z w32 c.extended_year.result) ≡ c.extended_year.result = omega (arith, signed) in
    subst IsFieldYear (sym (held ∙ c.extended_year.ensures)) (laws.ranged s _ (laws.dated s _ c.from_rata_die.ensures.belongs))
