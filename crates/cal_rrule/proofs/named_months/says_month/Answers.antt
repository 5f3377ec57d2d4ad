use Rattle.std.proofs.Common.{◌∙◌, ap}
use Rattle.cal_types.specs.MonthParts.{month_parts}
use Rattle.cal_rule.specs.Sets.{has_month}
use Rattle.cal_rrule.proofs.YearMonthLemmas.{says-test}
use Rattle.cal_rrule.proofs.named_months.says_month.Goals as goal

pub returns : goal.returns
returns c =
    let a = c.args.asked.now in
    let m = month_parts c.args.month in
    says-test a.rule a.missing (month_parts a.month.month) m c.contains.result c.days.result c.is_same_month.result c.requires
    (c.contains.ensures ∙ ap (λ s. has_month s m) c.months.ensures)
    (c.days.ensures a.rule c.requires) c.is_same_month.ensures
