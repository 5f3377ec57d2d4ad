use Rattle.calspan_run.specs.ListTexts.{ListsAnniversaries, ListsOccurrences}
use Rattle.calspan_run.proofs.HolidayLemmas.{holiday_ends}
use Rattle.calspan_run.proofs.ListLemmas.{list_ends}
use Rattle.calspan_run.proofs.laws.runs_of_lists_end.Goals as goal

pub returns-clause-anniversary : goal.returns-clause-anniversary
returns-clause-anniversary c asked = list_ends (ListsAnniversaries asked)

pub returns-clause-recur : goal.returns-clause-recur
returns-clause-recur c asked = list_ends (ListsOccurrences asked)

pub returns-clause-holidays : goal.returns-clause-holidays
returns-clause-holidays c asked status before now h = holiday_ends asked before now status h
