use Rattle.cal_arith.specs.Dates.{date_of}
use Rattle.cal_arith.proofs.arithmetic_date.ArithmeticDate+C.added_shifted.Goals as goal

pub added-requires-clause-range : goal.added-requires-clause-range
added-requires-clause-range g c = (g.met.C.YearShapes.ranged c.args.cal.now (date_of (g.C.YearShapes.years c.args.cal.now) c.args.self.now.parts) (record { date = c.requires.date.date; valid = c.requires.date.valid })).0
