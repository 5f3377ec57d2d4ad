use Rattle.cal_types.proofs.TextLemmas.{HoldsText-copied}
use Rattle.cal_types.proofs.tiny.TinyAsciiStr.of_text.Goals as goal

pub invariant_of-result : goal.invariant_of-result
invariant_of-result g c =
    rw c.copy_from_slice.ensures.after (HoldsText-copied _ _ c.requires.fits c.requires.text)
