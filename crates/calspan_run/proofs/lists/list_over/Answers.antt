use Rattle.std.proofs.Common.{inl, inr, refl, sym, ap}
use Rattle.calspan_run.specs.Refusals.{status_of}
use Rattle.calspan_run.specs.TableTexts.{table_refusal}
use Rattle.calspan_run.specs.declared.status.Status.TheVariants.{Done, Refused, TableRefused}
use Rattle.calspan_run.proofs.ListRunLemmas.{ends_as, ends_at, refused_over}
use Rattle.calspan_run.proofs.lists.list_over.Goals as goal

pub returns-in-Err : goal.returns-in-Err
returns-in-Err g c = (table_refusal c.in-Err.refusal.table c.in-Err.refusal.fault, TableRefused, inr ((c.in-Err.refusal.table, c.in-Err.refusal.fault, c.in-Err.ensures, refl), refl), refused_over _ _ _ _ _ _ c.refuse_table.ensures)

pub returns-in-Ok-true : goal.returns-in-Ok-true
returns-in-Ok-true g c =
    let (text, ends, wrote) = c.in-Ok-true.ensures.listed in
    (text, Refused, inl (c.in-Ok.ensures.0, ends_as (g.L.TableList.ends c.args.list.now) _ _ text _ Refused c.in-Ok.ensures.1 (ap status_of c.in-Ok-true.field-0-test) ends), inl (inr (inl refl), refl, wrote))

pub returns-in-Ok-false : goal.returns-in-Ok-false
returns-in-Ok-false g c =
    let (text, ends, wrote) = c.in-Ok-false.ensures.listed in
    (text, Done, inl (c.in-Ok.ensures.0, ends_as (g.L.TableList.ends c.args.list.now) _ _ text _ Done c.in-Ok.ensures.1 (ap status_of c.in-Ok-false.field-0-test) ends), inl (inl refl, refl, wrote))

pub returns-in-Err-write : goal.returns-in-Err-write
returns-in-Err-write g c =
    let (text, status, ends, wrote) = c.in-Err-write.ensures.listed in
    (text, status, inl (c.in-Ok.ensures.0, ends_at (g.L.TableList.ends c.args.list.now) _ _ text status c.in-Ok.ensures.1 ends), inr (refl, wrote, c.in-Err-write.ensures.cause.failed))
