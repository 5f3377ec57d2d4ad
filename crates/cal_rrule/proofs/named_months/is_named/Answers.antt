use Rattle.std.proofs.Common.{◌&&◌, not}
use Rattle.std.proofs.lemmas.Bool.Decides.{Decides-or}
use Rattle.cal_rrule.proofs.YearMonthLemmas.{all-test}
use Rattle.cal_rrule.proofs.named_months.is_named.Goals as goal

pub returns : goal.returns
returns c =
    let a = c.args.asked.now in
    Decides-or (a.missing.months && not c.days.result) c.says_month.result
    (all-test a.rule a.missing c.days.result c.requires (c.days.ensures a.rule c.requires)) c.says_month.ensures
