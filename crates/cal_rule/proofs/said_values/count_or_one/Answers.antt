use Rattle.std.proofs.Common.{Some, sym, ap, ◌∙◌}
use Rattle.std.specs.Result.{result_ok}
use Rattle.cal_rule.proofs.CountLemmas.{count-some}
use Rattle.cal_rule.proofs.said_values.count_or_one.Goals as goal

pub returns-in-Ok-clause-some : goal.returns-in-Ok-clause-some
returns-in-Ok-clause-some c =
    count-some (Some c.args.text.now) c.in-Ok.every (ap result_ok (sym c.read_count.ensures.value ∙ c.in-Ok.is))
