use Rattle.cal_types.proofs.SumLaws.{sum-unique}
use Rattle.cal_arith.proofs.laws.sum_has_one_answer.Goals as goal

pub returns : goal.returns
returns g c shift t r s p q = sum-unique (g.C.YearShapes.years c.args.cal.now).list shift t c.args.duration c.args.overflow r s p q
