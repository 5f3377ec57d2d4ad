use Rattle.std.proofs.Common.{◌∙◌, ap}
use Rattle.cal_rule.specs.Pieces.{pieces_from}
use Rattle.cal_rule.proofs.RuleLemmas.{parts-go_on}
use Rattle.cal_rule.proofs.text_table.RuleTexts.read.Goals as goal

pub parts-preserved : goal.parts-preserved
parts-preserved c =
    let first = ap (pieces_from 59) c.in-Some.is ∙ c.cut.ensures in
    parts-go_on c.args.kind c.parts.texts c.add.new.self _ _ _ _ first c.parts.invariant c.in_ok-add.ensures
