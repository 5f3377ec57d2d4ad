use Rattle.std.proofs.Common.{refl, sym, ◌∙◌}
use Rattle.cal_types.specs.MonthParts.{month_parts}
use Rattle.arith_tests.specs.laws.AlternatingMonthLaws.{ordinal_month-alternating, ordinal_month-none}
use Rattle.arith_tests.proofs.alternating_months.AlternatingMonthsYearShapes.ordinal_from_month.Goals as goal

pub returns-then-is_plain_month : goal.returns-then-is_plain_month
returns-then-is_plain_month c =
    let found = ordinal_month-alternating c.args._year.number (month_parts c.args.month) c.args._overflow (sym c.is_plain_month.ensures ∙ c.if-is_plain_month.true) in
    let number = c.number.ensures.value in
    rw found (rw number refl)

pub returns-else-is_plain_month : goal.returns-else-is_plain_month
returns-else-is_plain_month c =
    sym (ordinal_month-none c.args._year.number (month_parts c.args.month) c.args._overflow (sym c.is_plain_month.ensures ∙ c.if-is_plain_month.false))
