use Rattle.std.proofs.Common.{◌≡◌, ◌≤◌, ℕ, min, ap, sym, ◌∙◌, false, arith}
use Rattle.cal_types.specs.Month.{MonthParts}
use Rattle.arith_tests.specs.laws.AlternatingMonthLaws.{month_at-alternating, month_count-alternating}
use Rattle.arith_tests.proofs.alternating_months.AlternatingMonthsYearShapes.month_from_ordinal.Goals as goal

of_number : ℕ → MonthParts
of_number n = record { number = n; is_leap = false }

pub returns : goal.returns
unfolding of_number
returns c =
    let most : c.args.ordinal_month ≤ 12 = omega (arith, c.requires.place, month_count-alternating c.args._year.number) in
    let small : min c.args.ordinal_month 99 ≡ c.args.ordinal_month = omega arith in
    c.new.ensures ∙ ap of_number small ∙ sym (month_at-alternating c.args._year.number c.args.ordinal_month c.requires.place.0 most)
