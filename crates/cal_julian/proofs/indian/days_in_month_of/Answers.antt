use Rattle.std.proofs.Common.{◌∙◌, ◌≤◌, Bool, refl, sym, ap, arith}
use Rattle.cal_base.specs.laws.GregorianMonths.{leap_is}
use Rattle.cal_julian.specs.IndianList.{indian_leap, indian_month_length}
use Rattle.cal_julian.proofs.IndianMonthLemmas.{month_length-others}
use Rattle.cal_julian.proofs.indian.days_in_month_of.Goals as goal

pub returns-then-month-eq1 : goal.returns-then-month-eq1
returns-then-month-eq1 c =
    let y = c.args.year.number in
    let leap = leap_is indian_leap c.is_leap.result y y refl c.is_leap.ensures in
    c.days_in_month.ensures ∙ sym (ap (λ (b : Bool). indian_month_length b c.args.month) leap)

pub returns-else-month-eq1 : goal.returns-else-month-eq1
returns-else-month-eq1 c =
    let past : 2 ≤ c.args.month = omega (arith, c.if-month-eq1.false, c.requires.month.0) in
    c.days_in_month-else-month-eq1.ensures ∙ sym (month_length-others (indian_leap c.args.year.number) c.args.month past c.requires.month.1)
