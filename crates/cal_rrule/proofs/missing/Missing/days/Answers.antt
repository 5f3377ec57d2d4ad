use Rattle.cal_rrule.proofs.YearLookLemmas.{no-days}
use Rattle.cal_rrule.proofs.missing.Missing.days.Goals as goal

pub returns : goal.returns
returns c = λ rule are. no-days rule c.args.self.now are
