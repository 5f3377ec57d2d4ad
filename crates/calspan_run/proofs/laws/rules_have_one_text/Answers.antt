use Rattle.calspan_run.specs.RuleLists.{ListsRule}
use Rattle.calspan_run.proofs.ListLemmas.{list_exists, list_unique}
use Rattle.calspan_run.proofs.RuleTextLemmas.{rule_list}
use Rattle.calspan_run.proofs.laws.rules_have_one_text.Goals as goal

pub returns-clause-exists : goal.returns-clause-exists
returns-clause-exists c asked = list_exists (ListsRule asked) (rule_list asked)

pub returns-clause-unique : goal.returns-clause-unique
returns-clause-unique c asked = list_unique (ListsRule asked) (rule_list asked)
