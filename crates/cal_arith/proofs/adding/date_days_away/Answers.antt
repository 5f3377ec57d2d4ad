use Rattle.std.proofs.Common.{pos, neg_ℤ, ℤ, ◌+ℤ◌, ◌≡◌, subst, sym, ap, ◌∙◌, arith}
use Rattle.cal_days.specs.Day.{IsBetween}
use Rattle.cal_days.proofs.Signed.{signed}
use Rattle.cal_types.specs.CalendarList.{date, day_number}
use Rattle.cal_types.specs.Adding.{IsValidOn}
use Rattle.cal_types.specs.Difference.{toward}
use Rattle.cal_arith.specs.Dates.{date_of, answer_of}
use Rattle.cal_arith.specs.Directions.{is_backward}
use Rattle.cal_arith.proofs.adding.date_days_away.Goals as goal

pub days_away-requires : goal.days_away-requires
days_away-requires g c =
    let close = subst (IsBetween (neg_ℤ (pos 4000000000)) (pos 4000000000)) (sym c.to_rata_die.ensures) (g.met.C.YearShapes.near c.args.cal.now (date_of (g.C.YearShapes.years c.args.cal.now) c.args.date) c.requires.date.year.range c.requires.date.date) in
    (omega (arith, signed, close), omega (arith, signed, close))

pub returns-in-None-clause-on : goal.returns-in-None-clause-on
returns-in-None-clause-on g c =
    let list = (g.C.YearShapes.years c.args.cal.now).list in let years = g.C.YearShapes.years c.args.cal.now in
    let away = c.days_away.ensures ∙ ap (λ (n : ℤ). n +ℤ toward (is_backward c.args.direction) c.args.days) c.to_rata_die.ensures in
    subst (λ (n : ℤ). IsValidOn list n (answer_of years c.valid_date.result)) away c.valid_date.ensures.on

pub returns-in-Some-clause-on : goal.returns-in-Some-clause-on
returns-in-Some-clause-on g c =
    let list = (g.C.YearShapes.years c.args.cal.now).list in let years = g.C.YearShapes.years c.args.cal.now in
    let y = years.extended c.args.date.year in let month = c.args.date.month in
    let same : day_number list (date y month c.in-Some.day) ≡ day_number list (date y month c.args.date.day) +ℤ toward (is_backward c.args.direction) c.args.days = omega (arith, signed, c.in-Some.ensures, c.requires.date.date.day) in
    subst (λ (n : ℤ). IsValidOn list n (answer_of years c.date_in_range-in-Some.result)) same c.date_in_range-in-Some.ensures.on
