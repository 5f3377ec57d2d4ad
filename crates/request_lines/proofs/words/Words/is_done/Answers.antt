use Rattle.request_lines.proofs.TakingLemmas.{done_or_not}
use Rattle.request_lines.proofs.words.Words.is_done.Goals as goal

pub returns : goal.returns
returns c = done_or_not c.args.self.now.rest c.is_none.result c.is_none.ensures
