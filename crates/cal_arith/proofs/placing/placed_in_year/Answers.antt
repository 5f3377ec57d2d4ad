use Rattle.cal_arith.proofs.FieldLemmas.{up_to-true}
use Rattle.cal_arith.proofs.placing.placed_in_year.Goals as goal

pub placed_day-requires-clause-month : goal.placed_day-requires-clause-month
placed_day-requires-clause-month g c = record { year = c.requires.year; place = up_to-true c.is_up_to.result c.args.month c.months_in_provided_year-last.result _ c.is_up_to.ensures c.if-is_up_to.true c.months_in_provided_year-last.ensures }
