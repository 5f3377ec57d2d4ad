use Rattle.published_years.proofs.HijriLemmas.{umm_al_qura-accepted, umm_al_qura-years}
use Rattle.published_years.proofs.hijri_years.umm_al_qura_table.Goals as goal

pub new-requires : goal.new-requires
new-requires c = umm_al_qura-accepted

pub returns-clause-accepted : goal.returns-clause-accepted
returns-clause-accepted c = umm_al_qura-accepted

pub returns-clause-years : goal.returns-clause-years
returns-clause-years c = umm_al_qura-years
