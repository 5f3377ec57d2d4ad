use Rattle.cal_base.specs.laws.OwnYearLaws.{belongs_own}
use Rattle.cal_base.proofs.OwnAnswers.{ok_leads}
use Rattle.cal_base.proofs.arithmetic.ArithmeticCalendar.from_fields.Goals as goal

pub returns-clause-belongs : goal.returns-clause-belongs
returns-clause-belongs g c =
    let s = c.args.self.now.0 in
    ok_leads (λ a. belongs_own (g.C.YearShapes.years s) (g.met.C.YearShapes.ranged s) (g.C.NamedYears.has_year s) (g.met.C.NamedYears.tested s) a.parts)
    c.from_fields.result c.from_fields.ensures.belongs
