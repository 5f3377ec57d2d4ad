use Rattle.published_years.proofs.PersianLemmas.{corrections-accepted}
use Rattle.published_years.proofs.persian_years.persian_corrections.Goals as goal

pub new-requires : goal.new-requires
new-requires c = corrections-accepted

pub returns-clause-accepted : goal.returns-clause-accepted
returns-clause-accepted c = corrections-accepted
