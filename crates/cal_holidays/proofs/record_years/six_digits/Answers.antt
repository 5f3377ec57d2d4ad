use Rattle.cal_holidays.proofs.NumberLemmas.{small-if}
use Rattle.cal_holidays.proofs.record_years.six_digits.Goals as goal

pub returns-clause-small : goal.returns-clause-small
returns-clause-small c = small-if 6 c.args.text.now c.read_number.result c.read_number.ensures.value
