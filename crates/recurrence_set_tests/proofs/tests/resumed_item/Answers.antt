use Rattle.std.proofs.Common.{◌∙◌, sym}
use Rattle.recurrence_set_tests.proofs.tests.resumed_item.Goals as goal

pub resume-resumed-requires : goal.resume-resumed-requires
resume-resumed-requires c =
    let counted = c.next_index.ensures c.in_ok-rest.rest (sym c.rest.ensures ∙ c.in_ok-rest.was) in
    rw (c.requires.periods, c.requires.bounds) at counted
