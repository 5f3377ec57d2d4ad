use Rattle.std.proofs.Common.{◌∙◌, sym}
use Rattle.doc_examples.proofs.tests.over_any.iso.show_last_fridays.Goals as goal

pub resume_rrule-others-requires : goal.resume_rrule-others-requires
resume_rrule-others-requires g c =
    let stays = c.next-2.ensures.steps in
    let w = c.in_ok-rest.field-0 in
    let counted = c.next_index.ensures w (sym c.rest.ensures ∙ c.in_ok-rest.was) in
    c.rrule-items-2.ensures.counts w.first c.next_index.result (rw (stays.1, stays.2) at counted)
