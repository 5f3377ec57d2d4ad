use Rattle.cal_base.specs.laws.OwnYearLaws.{own_year, own_belongs}
use Rattle.cal_base.proofs.arithmetic.own_date.Goals as goal

pub returns-clause-belongs : goal.returns-clause-belongs
returns-clause-belongs g c =
    let s = c.args.cal.now in
    rw c.copy_of.ensures
    (own_belongs (g.C.YearShapes.years s) (g.met.C.YearShapes.ranged s) (g.C.NamedYears.has_year s) (g.met.C.NamedYears.tested s) c.args.date.now.parts c.requires)

pub returns-clause-year : goal.returns-clause-year
returns-clause-year g c =
    let s = c.args.cal.now in
    rw c.copy_of.ensures
    (own_year (g.C.YearShapes.years s) (g.met.C.YearShapes.ranged s) (g.C.NamedYears.has_year s) (g.met.C.NamedYears.tested s) c.args.date.now.parts c.requires)
