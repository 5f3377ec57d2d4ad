use Rattle.record_faults.proofs.FieldTextLemmas.{texts_stand}
use Rattle.record_faults.proofs.laws.texts_that_may_stand.Goals as goal

pub returns : goal.returns
returns c = texts_stand
