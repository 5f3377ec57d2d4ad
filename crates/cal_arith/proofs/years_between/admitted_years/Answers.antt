use Rattle.cal_types.specs.Difference.{YearsSurpass}
use Rattle.cal_types.proofs.DifferenceLemmas.{years_surpass-none, greatest_if-years}
use Rattle.cal_arith.specs.Dates.{date_of}
use Rattle.cal_arith.specs.Directions.{is_backward}
use Rattle.cal_arith.proofs.years_between.admitted_years.Goals as goal

pub returns-in_default : goal.returns-in_default
returns-in_default g c =
    let list = (g.C.YearShapes.years c.args.cal.now).list in let t = date_of (g.C.YearShapes.years c.args.cal.now) c.args.from in let u = date_of (g.C.YearShapes.years c.args.cal.now) c.args.to in
    record {
      greatest = greatest_if-years (YearsSurpass list t u (is_backward c.args.direction)) c.args.unit c.in_default.not-Years;
      within = years_surpass-none list (g.met.C.YearShapes.lawful c.args.cal.now) (is_backward c.args.direction) t u c.requires.from.date c.requires.to.date c.requires.leads;
    }
