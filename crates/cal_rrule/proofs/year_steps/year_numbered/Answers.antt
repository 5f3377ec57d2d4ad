use Rattle.std.proofs.Common.{◌≡◌, ◌∙◌, ℤ, sym, ap, subst}
use Rattle.cal_types.specs.CalendarList.{start_of_year}
use Rattle.cal_rrule.specs.Looks.{look_year}
use Rattle.cal_rrule.specs.Stretches.{InStretch}
use Rattle.cal_rrule.proofs.WordLemmas.{field-word, held-valid, held-word}
use Rattle.cal_rrule.proofs.YearStepLemmas.{year-starts}
use Rattle.cal_rrule.proofs.year_steps.year_numbered.Goals as goal

pub returns : goal.returns
returns g c =
    let list = (g.C.Calendar.system c.args.calendar.now).list in
    let law = g.met.C.Calendar.lawful c.args.calendar.now in
    let day = c.in_ok-first.first in
    let starts = ap (start_of_year list) (field-word c.args.number (c.requires.low, c.requires.high)) in
    let found = c.in_ok-first.ensures in
    let first : day ≡ start_of_year list c.args.number = found.0 ∙ starts in
    let same = held-word day _ found.0 found.1 ∙ sym found.0 in
    let within = subst (λ (n : ℤ). InStretch (look_year c.year_of.result) n) same c.year_of.ensures.within in
    (c.year_of.ensures.look, year-starts list law c.args.number c.year_of.result day c.year_of.ensures.look first within)

pub year_of-requires-clause-low : goal.year_of-requires-clause-low
year_of-requires-clause-low g c = (held-valid c.in_ok-first.first _ c.in_ok-first.ensures.0 c.in_ok-first.ensures.1).0

pub year_of-requires-clause-high : goal.year_of-requires-clause-high
year_of-requires-clause-high g c = (held-valid c.in_ok-first.first _ c.in_ok-first.ensures.0 c.in_ok-first.ensures.1).1
