use Rattle.cal_holidays.proofs.NamedDaysLemmas.{holidays-meant}
use Rattle.calspan_run.proofs.laws.holidays_are_meant.Goals as goal

pub returns : goal.returns
returns c a tables rules order = holidays-meant tables rules a.first a.last 0 order
