use Rattle.std.proofs.Common.{length}
use Rattle.cal_rule.specs.Pieces.{pieces_from}
use Rattle.cal_rule.specs.RuleText.{parts_of}
use Rattle.cal_rule.proofs.RuleLemmas.{IsReadingParts}
use Rattle.cal_rule.proofs.text_table.RuleTexts.read.Given as goal

abbrev pub invariant-parts : goal.invariant-parts
invariant-parts l = IsReadingParts l.kind l.texts (parts_of l.text) (pieces_from 59 l.rest)

abbrev pub decreases-parts : goal.decreases-parts
decreases-parts l = length (pieces_from 59 l.rest)
