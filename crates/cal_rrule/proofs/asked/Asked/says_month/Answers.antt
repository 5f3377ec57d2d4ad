use Rattle.std.proofs.Common.{◌∙◌, ap}
use Rattle.cal_types.specs.MonthParts.{month_parts}
use Rattle.cal_rule.specs.Sets.{has_month}
use Rattle.cal_rrule.proofs.AskingLemmas.{says-month}
use Rattle.cal_rrule.proofs.asked.Asked.says_month.Goals as goal

pub returns : goal.returns
returns c = λ list t is.
    let a = c.args.self.now in
    let m = month_parts c.args.month in
    says-month list t a m c.contains-is_named.result c.days.result c.is_same_month-is_start.result is
    (c.contains-is_named.ensures ∙ ap (λ s. has_month s m) c.months.ensures)
    (c.days.ensures a.rule is.are_missing) c.is_same_month-is_start.ensures
