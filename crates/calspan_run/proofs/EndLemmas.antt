-- A run that wrote one text, and ended with it.
use Rattle.std.proofs.Common.{◌≡◌, ℕ, ◌≤◌, Bool, true, false, List, length, take, drop, Option, ◌⊎◌, inl, inr, refl, sym, subst}
use Rattle.std.proofs.lemmas.List.{take_all, take-append-drop}
use Rattle.std.specs.Io.KnownBytes.{Appends, IsAtEnd}
use Rattle.byte_io.specs.Faults.{Rose}
use Rattle.calspan_run.specs.Endings.{EndsOver, EndsWith, IsEnd, MayEnd}
use Rattle.calspan_run.specs.Laws.{AreLasting}
use Rattle.calspan_run.specs.Run.{outside, limit}
use Rattle.calspan_run.specs.Serving.{Rules, Answered, StoppedWriting, Serves}
use Rattle.calspan_run.specs.Written.{WrotePrefix}
use Rattle.calspan_run.specs.declared.status.Status.{Status}
use Rattle.calspan_run.specs.declared.status.Status.TheVariants.{Done, Refused, TableRefused}

module _ (c : Rules) (lasting : AreLasting c) (left l t t2 : Option (List ℕ)) (faults reads w w2 : ℕ) (text : List ℕ) (status : Status) (h : MayEnd c left l text status) where
  answered : Appends t t2 text → Answered c (outside left t faults w) (outside l t2 reads w2) status
  answered wrote = record {
    bytes = h.bytes;
    text = text;
    whole = h.whole;
    exchanged = record { took = h.took; wrote = wrote };
    says = h.says;
    at_end = h.at_end;
    at_line = h.at_line;
  }

  -- what is said of the bytes within the limit is said of all that were taken
  of_all : (whole : Bool) → (whole ≡ true → IsAtEnd l × (length h.bytes ≤ limit)) → (whole ≡ false → c.EndsAtLine status) → c.Says (take limit h.bytes) whole text status → c.Says h.bytes whole text status
  of_all true at_end at_line says = subst (λ (b : List ℕ). c.Says b true text status) (take_all limit h.bytes (at_end refl).1) says
  of_all false at_end at_line says =
      subst (λ (b : List ℕ). c.Says b false text status) (take-append-drop limit h.bytes) (lasting.ends (take limit h.bytes) (drop limit h.bytes) false text status (at_line refl) says)

  stopped_writing : WrotePrefix t t2 text → Rose w w2 → StoppedWriting c (outside left t faults w) (outside l t2 reads w2)
  stopped_writing (prefix, wrote, begins) rose = record {
    bytes = h.bytes;
    prefix = prefix;
    text = text;
    whole = h.whole;
    status = status;
    rose = rose;
    exchanged = record { took = h.took; wrote = wrote };
    begins = begins;
    says = of_all h.whole h.at_end h.at_line h.says;
    at_end = λ e. (h.at_end e).0;
  }

  answered_serves : IsEnd status → Appends t t2 text → Serves c status (outside left t faults w) (outside l t2 reads w2)
  answered_serves end wrote = by status end (answered wrote)
    where
      by : (s : Status) → IsEnd s → Answered c (outside left t faults w) (outside l t2 reads w2) s → Serves c s (outside left t faults w) (outside l t2 reads w2)
      by s (inl e) a = subst (λ (x : Status). Serves c x (outside left t faults w) (outside l t2 reads w2)) (sym e) (subst (λ (x : Status). Answered c (outside left t faults w) (outside l t2 reads w2) x) e a)
      by s (inr (inl e)) a = subst (λ (x : Status). Serves c x (outside left t faults w) (outside l t2 reads w2)) (sym e) (subst (λ (x : Status). Answered c (outside left t faults w) (outside l t2 reads w2) x) e a)
      by s (inr (inr e)) a = subst (λ (x : Status). Serves c x (outside left t faults w) (outside l t2 reads w2)) (sym e) (subst (λ (x : Status). Answered c (outside left t faults w) (outside l t2 reads w2) x) e a)

  -- the last text of a run was written, or a prefix of it
  pub ends_serve : (result : Status) → IsEnd status → EndsWith result status t t2 w w2 text → Serves c result (outside left t faults w) (outside l t2 reads w2)
  ends_serve result end (inl (e, wrote)) = subst (λ (x : Status). Serves c x (outside left t faults w) (outside l t2 reads w2)) (sym e) (answered_serves end wrote)
  ends_serve result end (inr (e, wrote, rose)) = subst (λ (x : Status). Serves c x (outside left t faults w) (outside l t2 reads w2)) (sym e) (stopped_writing wrote rose)

  -- the same where how it ended says which
  pub ends_over : (result : Status) → EndsOver result status t t2 w w2 text → Serves c result (outside left t faults w) (outside l t2 reads w2)
  ends_over result (inl (end, e, wrote)) = ends_serve result end (inl (e, wrote))
  ends_over result (inr (e, wrote, rose)) = subst (λ (x : Status). Serves c x (outside left t faults w) (outside l t2 reads w2)) (sym e) (stopped_writing wrote rose)
