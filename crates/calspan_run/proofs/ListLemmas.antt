-- A list over the tables has one text for every input, and ends as its eight ends say.
use Rattle.std.proofs.Common.{◌≡◌, ℕ, ◌≤◌, Bool, true, false, List, [], length, take, ◌⊎◌, inl, inr, refl, ◌∙◌, sym, ap, subst}
use Rattle.std.proofs.lemmas.List.{take_all}
use Rattle.std.specs.Io.KnownBytes.{IsAtEnd}
use Rattle.cal_tables.specs.Kinds.{TableContents}
use Rattle.byte_io.specs.Lines.{lines_in}
use Rattle.calspan_run.specs.Refusals.{status_of}
use Rattle.calspan_run.specs.BehindRows.{OverTables, SaysAt, SaysBehindRows}
use Rattle.calspan_run.specs.ListAnswers.{end_behind, line_refusal, list_behind, list_end}
use Rattle.calspan_run.specs.ListEnds.{AllListed, MetOther, MetFaultyRow, TablesRefused, ListEnds}
use Rattle.calspan_run.specs.Laws.{EveryInputHas, IsUnique, IsList, AreLasting}
use Rattle.table_rows.specs.RowLines.{AreRows, RowsEnd, WithLines, AtFaultyRow, AtRequest, EndRows}
use Rattle.calspan_run.specs.Rules.{end_rules, list_rules}
use Rattle.calspan_run.specs.Run.{Outside, Exchanged, limit}
use Rattle.calspan_run.specs.Serving.{Answered, StoppedReading, TookTooMuch, Serves}
use Rattle.table_rows.specs.TableRows.{TableRows, contents_of}
use Rattle.calspan_run.specs.declared.status.Status.{Status}
use Rattle.calspan_run.specs.declared.status.Status.TheVariants.{Done, Refused, Words, ReadFault, WriteFault, NoMemory, TableRefused, TooLong}
use Rattle.calspan_run.proofs.BehindRowsLemmas.{behind_exists, behind_unique, behind_ends}
use Rattle.table_rows.proofs.RowMemoryLemmas.{row_lacks}

refused_is_not : (c : Bool) (s : Status) → s ≡ status_of c → s ≡ TableRefused → ⊥
refused_is_not true s e f = cc
refused_is_not false s e f = cc

-- a run that goes on is done with no line
pub list_lasts-done : ((◌≡◌ {A = Status} Done Refused) ⊎ (◌≡◌ {A = Status} Done TableRefused)) → ⊥
list_lasts-done (inl e) = cc
list_lasts-done (inr e) = cc

pub end_lasts : (Ends : TableContents → List ℕ → Status → Type 0) → AreLasting (end_rules Ends)
end_lasts Ends = record {
  ends = behind_ends (end_behind Ends) (λ status. (status ≡ Refused) ⊎ (status ≡ TableRefused)) (record {
    done = list_lasts-done;
    at_line = λ rows n request others more text status ends h. h;
  });
  lacks = row_lacks;
}

module _ (Lists : TableContents → List ℕ → Bool → Type 0) where
  pub list_exists : IsList Lists → EveryInputHas (SaysBehindRows (list_behind Lists))
  list_exists list = behind_exists (list_behind Lists) (record {
    at_end = λ rows accepted. let (text, refused, lists) = list.exists (contents_of rows) in (text, status_of refused, (refused, lists, refl));
    at_line = λ rows n request others. (line_refusal n request, Refused, (refl, refl));
  })

  pub list_unique : IsList Lists → IsUnique (SaysBehindRows (list_behind Lists))
  list_unique list = behind_unique (list_behind Lists) (record {
    at_end = λ tables x y s t (p, h, e) (q, k, f). let (text, refused) = list.unique tables x y p q h k in (text, e ∙ (ap status_of refused ∙ sym f));
    at_line = λ rows n request others x y s t (e, d) (f, g). (e ∙ sym f, d ∙ sym g);
  })

  pub list_lasts : AreLasting (list_rules Lists)
  list_lasts = end_lasts (list_end Lists)

  -- where no line ended the run, nothing is written, and all whole lines are rows
  goes_on : (lines : List (List ℕ)) (rows : TableRows) (end : RowsEnd) (text : List ℕ) (status : Status) → EndRows end lines rows → SaysAt (list_behind Lists) end false rows text status → ((status ≡ Refused) ⊎ (status ≡ TableRefused) → ⊥) → (text ≡ []) × AreRows lines rows
  goes_on lines rows WithLines text status are (x, e) on = (x, are)
  goes_on lines rows (AtFaultyRow n why) text status h (x, e) on = absurd (on (inr e))
  goes_on lines rows (AtRequest n request others) text status h (x, e) on = absurd (on (inl e))

  stopped : (before now : Outside) → StoppedReading (list_rules Lists) before now → ListEnds Lists ReadFault before now
  stopped before now h =
      let (none, are) = goes_on (lines_in h.bytes false) h.says.rows h.says.end h.text h.status h.says.ends h.says.says h.goes_on in
      (h.bytes, h.says.rows, h.rose, subst (λ (t : List ℕ). Exchanged before now h.bytes t) none h.exchanged, are)

  too_much : (before now : Outside) → TookTooMuch (list_rules Lists) before now → ListEnds Lists TooLong before now
  too_much before now h =
      let (none, are) = goes_on (lines_in (take limit h.bytes) false) h.says.rows h.says.end h.text h.status h.says.ends h.says.says h.goes_on in
      (h.bytes, h.says.rows, h.more, subst (λ (t : List ℕ). Exchanged before now h.bytes t) none h.exchanged, are)

  -- what a run that answered comes to
  abbrev Came : Outside → Outside → Status → Type 0
  Came before now status = ((refused : Bool) × (status ≡ status_of refused) × AllListed Lists before now refused) ⊎ (((status ≡ Refused) × MetOther before now) ⊎ ((status ≡ TableRefused) × (MetFaultyRow before now ⊎ TablesRefused before now)))

  at_whole : (before now : Outside) (bytes text : List ℕ) (status : Status) (rows : TableRows) → Exchanged before now bytes text → IsAtEnd now.left × (length bytes ≤ limit) → AreRows (lines_in (take limit bytes) true) rows
      → OverTables (list_behind Lists).AtEnd rows text status → Came before now status
  at_whole before now bytes text status rows exchanged (end, within) are (inl (accepted, (refused, lists, e))) = inl (
    refused,
    e,
    record {
      bytes = bytes;
      text = text;
      rows = rows;
      within = within;
      exchanged = exchanged;
      at_end = end;
      are_rows = subst (λ (b : List ℕ). AreRows (lines_in b true) rows) (take_all limit bytes within) are;
      accepted = accepted;
      lists = lists;
    },
  )
  at_whole before now bytes text status rows exchanged (end, within) are (inr (refuses, e)) = inr (inr (
    e,
    inr (record {
      bytes = bytes;
      text = text;
      rows = rows;
      within = within;
      exchanged = exchanged;
      at_end = end;
      are_rows = subst (λ (b : List ℕ). AreRows (lines_in b true) rows) (take_all limit bytes within) are;
      refuses = refuses;
    }),
  ))

  came : (before now : Outside) (bytes text : List ℕ) (whole : Bool) (status : Status) (rows : TableRows) (end : RowsEnd) → Exchanged before now bytes text → (whole ≡ true → IsAtEnd now.left × (length bytes ≤ limit)) → (whole ≡ false → (status ≡ Refused) ⊎ (status ≡ TableRefused))
      → EndRows end (lines_in (take limit bytes) whole) rows → SaysAt (list_behind Lists) end whole rows text status → Came before now status
  came before now bytes text true status rows WithLines exchanged at_end at_line are says = at_whole before now bytes text status rows exchanged (at_end refl) are says
  came before now bytes text false status rows WithLines exchanged at_end at_line are (x, e) = absurd (list_lasts-done (subst (λ (s : Status). (s ≡ Refused) ⊎ (s ≡ TableRefused)) e (at_line refl)))
  came before now bytes text whole status rows (AtFaultyRow n why) exchanged at_end at_line h (x, e) = inr (inr (
    e,
    inl (record {
      bytes = bytes;
      whole = whole;
      rows = rows;
      number = n;
      why = why;
      exchanged = subst (λ (t : List ℕ). Exchanged before now bytes t) x exchanged;
      ends = h;
      at_end = at_end;
    }),
  ))
  came before now bytes text whole status rows (AtRequest n request others) exchanged at_end at_line h (x, e) = inr (inl (
    e,
    record {
      bytes = bytes;
      whole = whole;
      rows = rows;
      number = n;
      said = request;
      others = others;
      exchanged = subst (λ (t : List ℕ). Exchanged before now bytes t) x exchanged;
      ends = h;
      at_end = at_end;
    },
  ))

  done_is : (before now : Outside) → Came before now Done → ListEnds Lists Done before now
  done_is before now (inl (true, e, h)) = absurd (differ e)
    where
      differ : ◌≡◌ {A = Status} Done Refused → ⊥
      differ e = cc
  done_is before now (inl (false, e, h)) = h
  done_is before now (inr (inl (e, h))) = absurd (list_lasts-done (inl e))
  done_is before now (inr (inr (e, h))) = absurd (list_lasts-done (inr e))

  refused_is : (before now : Outside) → Came before now Refused → ListEnds Lists Refused before now
  refused_is before now (inl (true, e, h)) = inl h
  refused_is before now (inl (false, e, h)) = absurd (differ e)
    where
      differ : ◌≡◌ {A = Status} Refused Done → ⊥
      differ e = cc
  refused_is before now (inr (inl (e, h))) = inr h
  refused_is before now (inr (inr (e, h))) = absurd (differ e)
    where
      differ : ◌≡◌ {A = Status} Refused TableRefused → ⊥
      differ e = cc

  table_is : (before now : Outside) → Came before now TableRefused → ListEnds Lists TableRefused before now
  table_is before now (inl (refused, e, h)) = absurd (refused_is_not refused TableRefused e refl)
  table_is before now (inr (inl (e, h))) = absurd (differ e)
    where
      differ : ◌≡◌ {A = Status} TableRefused Refused → ⊥
      differ e = cc
  table_is before now (inr (inr (e, h))) = h

  answered : (before now : Outside) (status : Status) → Answered (list_rules Lists) before now status → Came before now status
  answered before now status h = came before now h.bytes h.text h.whole status h.says.rows h.says.end h.exchanged h.at_end h.at_line h.says.ends h.says.says

  pub list_ends : (status : Status) (before now : Outside) → Serves (list_rules Lists) status before now → ListEnds Lists status before now
  list_ends Done before now h = done_is before now (answered before now Done h)
  list_ends Refused before now h = refused_is before now (answered before now Refused h)
  list_ends Words before now h = h
  list_ends ReadFault before now h = stopped before now h
  list_ends WriteFault before now h = h
  list_ends NoMemory before now h = h
  list_ends TableRefused before now h = table_is before now (answered before now TableRefused h)
  list_ends TooLong before now h = too_much before now h
