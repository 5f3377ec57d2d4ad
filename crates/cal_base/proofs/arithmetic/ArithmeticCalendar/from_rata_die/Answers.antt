use Rattle.cal_base.specs.laws.OwnYearLaws.{belongs_own}
use Rattle.cal_base.proofs.arithmetic.ArithmeticCalendar.from_rata_die.Goals as goal

pub returns-clause-belongs : goal.returns-clause-belongs
returns-clause-belongs g c =
    let s = c.args.self.now.0 in
    belongs_own (g.C.YearShapes.years s) (g.met.C.YearShapes.ranged s) (g.C.NamedYears.has_year s) (g.met.C.NamedYears.tested s)
    c.from_rata_die.result.parts c.from_rata_die.ensures.belongs
