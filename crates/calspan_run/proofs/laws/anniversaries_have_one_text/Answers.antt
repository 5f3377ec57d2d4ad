use Rattle.calspan_run.specs.ListTexts.{ListsAnniversaries}
use Rattle.calspan_run.proofs.ListLemmas.{list_exists, list_unique}
use Rattle.calspan_run.proofs.ListTextLemmas.{anniversary_list}
use Rattle.calspan_run.proofs.laws.anniversaries_have_one_text.Goals as goal

pub returns-clause-exists : goal.returns-clause-exists
returns-clause-exists c asked = list_exists (ListsAnniversaries asked) (anniversary_list asked)

pub returns-clause-unique : goal.returns-clause-unique
returns-clause-unique c asked = list_unique (ListsAnniversaries asked) (anniversary_list asked)
