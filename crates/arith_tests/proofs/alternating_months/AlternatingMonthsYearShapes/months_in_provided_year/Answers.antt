use Rattle.std.proofs.Common.{sym}
use Rattle.arith_tests.specs.laws.AlternatingMonthLaws.{month_count-alternating}
use Rattle.arith_tests.proofs.alternating_months.AlternatingMonthsYearShapes.months_in_provided_year.Goals as goal

pub returns : goal.returns
returns c = sym (month_count-alternating c.args._year.number)
