use Rattle.cal_hijri.proofs.LengthBits.{month_days-bit}
use Rattle.cal_hijri.proofs.hijri_year.days_in_month.Goals as goal

pub returns-clause-value : goal.returns-clause-value
returns-clause-value c = month_days-bit c.args.long_months c.args.month c.requires.0 c.requires.1
