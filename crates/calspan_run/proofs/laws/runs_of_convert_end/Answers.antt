use Rattle.calspan_run.proofs.ConvertEndLemmas.{convert_ends}
use Rattle.calspan_run.proofs.laws.runs_of_convert_end.Goals as goal

pub returns : goal.returns
returns c asked status before now h = convert_ends asked before now status h
