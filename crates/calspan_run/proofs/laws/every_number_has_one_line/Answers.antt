use Rattle.calspan_run.proofs.GeneratorLemmas.{line_exists, line_unique}
use Rattle.calspan_run.proofs.laws.every_number_has_one_line.Goals as goal

pub returns : goal.returns
returns c n = (line_exists n, line_unique n)
