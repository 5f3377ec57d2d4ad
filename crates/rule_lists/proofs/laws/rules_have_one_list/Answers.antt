use Rattle.rule_lists.proofs.Deciding.{one_of_two}
use Rattle.rule_lists.proofs.ListLemmas.{list-exists, list-unique, rule-decided}
use Rattle.rule_lists.proofs.NearOccurrences.{on-days}
use Rattle.rule_lists.proofs.laws.rules_have_one_list.Goals as goal

pub returns-clause-decided : goal.returns-clause-decided
returns-clause-decided c list rule t law is n = one_of_two (rule-decided list rule t law is n)

pub returns-clause-exists : goal.returns-clause-exists
returns-clause-exists c list rule t = list-exists list rule t

pub returns-clause-unique : goal.returns-clause-unique
returns-clause-unique c list rule t = list-unique list rule t

pub returns-clause-days : goal.returns-clause-days
returns-clause-days c list rule t law is first last xs are = on-days list law rule t is first last xs are
