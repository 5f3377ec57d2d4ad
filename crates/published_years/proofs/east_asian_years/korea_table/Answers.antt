use Rattle.published_years.proofs.EastAsianLemmas.{korea-accepted, korea-years}
use Rattle.published_years.proofs.east_asian_years.korea_table.Goals as goal

pub with_leap_rows-requires-clause-accepted : goal.with_leap_rows-requires-clause-accepted
with_leap_rows-requires-clause-accepted c = korea-accepted

pub returns-clause-accepted : goal.returns-clause-accepted
returns-clause-accepted c = korea-accepted

pub returns-clause-years : goal.returns-clause-years
returns-clause-years c = korea-years
