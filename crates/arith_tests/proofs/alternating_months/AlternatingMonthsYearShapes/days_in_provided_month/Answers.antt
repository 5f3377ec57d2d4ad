use Rattle.std.proofs.Common.{sym, arith}
use Rattle.arith_tests.specs.laws.AlternatingMonthLaws.{month_count-alternating, month_length-alternating}
use Rattle.arith_tests.proofs.alternating_months.AlternatingMonthsYearShapes.days_in_provided_month.Goals as goal

pub returns : goal.returns
returns c = sym (month_length-alternating c.args._year.number c.args.month c.requires.place.0 (omega (arith, c.requires.place, month_count-alternating c.args._year.number)))
