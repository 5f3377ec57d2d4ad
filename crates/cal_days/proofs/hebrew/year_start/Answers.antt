use Rattle.cal_days.proofs.HebrewLemmas.{hebrew_start-next}
use Rattle.cal_days.proofs.hebrew.year_start.Goals as goal

pub returns-clause-joins : goal.returns-clause-joins
returns-clause-joins c = hebrew_start-next c.args.year
