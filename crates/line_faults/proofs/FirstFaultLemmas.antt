-- The fault that a walk over words finds is the first one.
use Rattle.std.proofs.Common.{◌≡◌, ℕ, ◌+◌, Bool, true, false, cond, List, [], ◌∷◌, ◌++◌, Option, Some, None, MatchOption, length, inl, inr, refl, ◌∙◌, sym, ap, subst, codes, arith}
use Rattle.std.proofs.lemmas.Bool.{false≢true}
use Rattle.std.proofs.lemmas.List.{append_assoc, append-nil, length-append}
use Rattle.std.specs.List.{list_all}
use Rattle.cal_types.specs.Bag.{Bag}
use Rattle.request_lines.specs.Words.{is_text}
use Rattle.request_lines.specs.Bags.{is_word_byte, no_fields}
use Rattle.request_lines.proofs.BagLemmas.{same_text}
use Rattle.line_faults.specs.Places.{may_end, step, with_bag}
use Rattle.line_faults.specs.Faults.{fault_at, fault_in}
use Rattle.line_faults.specs.FirstFaults.{AreWords, Begins, FaultsAreFirst, IsFirstFault, IsWellFormed}
use Rattle.line_faults.proofs.PassLemmas.{are_both, completes, completion, completion_words, passes, start}
use Rattle.line_faults.proofs.RequestLemmas.{is_span, request_passes}
use Rattle.line_faults.proofs.RowLemmas.{is_table_row, row_passes}
use Rattle.line_faults.specs.declared.expected.Expected.{Expected}
use Rattle.line_faults.specs.declared.expected.Expected.TheVariants.{First, Calendar, Table}

-- the words lead to an end where they are well-formed
well_formed : (words : List (List ℕ)) → passes start words ≡ true → IsWellFormed words
well_formed [] e = absurd (false≢true e)
well_formed (word ∷ words) e = span (is_text word (codes "span")) refl e
  where
    row : (t : Bool) → is_text word (codes "row") ≡ t → passes (with_bag (cond t (Some Table) None) no_fields) words ≡ true → IsWellFormed (word ∷ words)
    row true q e =
        let h = is_table_row words e in
        subst (λ w. IsWellFormed (w ∷ words)) (sym (same_text word (codes "row") q)) (inr (h.row, h.form))
    row false q e = absurd (false≢true e)

    span : (t : Bool) → is_text word (codes "span") ≡ t
        → passes (with_bag (cond t (Some Calendar) (cond (is_text word (codes "row")) (Some Table) None)) no_fields) words ≡ true
        → IsWellFormed (word ∷ words)
    span true q e =
        let h = is_span words e in
        subst (λ w. IsWellFormed (w ∷ words)) (sym (same_text word (codes "span") q)) (inl (h.request, h.form))
    span false q e = row (is_text word (codes "row")) refl e

form_passes : (words : List (List ℕ)) → AreWords words → IsWellFormed words → passes start words ≡ true
form_passes words plain (inl (r, f)) = request_passes words r plain f
form_passes words plain (inr (r, f)) = row_passes words r f

-- the words before lead to a place
abbrev LeadTo : List (List ℕ) → Expected → Bag → Type 0
LeadTo before at bag = (more : List (List ℕ)) → passes start (before ++ more) ≡ passes (Some (at, bag)) more

-- words that lead to a place begin a well-formed line
begins : (before : List (List ℕ)) (at : Expected) (bag : Bag) → LeadTo before at bag → Begins before
begins before at bag lead = record {
  more = completion at;
  are_words = completion_words at;
  well_formed = well_formed (before ++ completion at) (lead (completion at) ∙ completes at bag);
}

-- no well-formed line goes on with a word that leads nowhere
goes_wrong : (before : List (List ℕ)) (word : List ℕ) (at : Expected) (bag : Bag) → LeadTo before at bag → AreWords before
    → list_all is_word_byte word ≡ true → step at bag word ≡ None → Begins (before ++ word ∷ []) → ⊥
goes_wrong before word at bag lead plain here none b =
    let again : (before ++ word ∷ []) ++ b.more ≡ before ++ word ∷ b.more = append_assoc before (word ∷ []) b.more in
    let all : AreWords ((before ++ word ∷ []) ++ b.more) = are_both (before ++ word ∷ []) b.more (are_both before (word ∷ []) plain (here, tt)) b.are_words in
    let ends = form_passes ((before ++ word ∷ []) ++ b.more) all b.well_formed in
    false≢true (sym (ap (passes start) again ∙ (lead (word ∷ b.more) ∙ ap (λ s. passes s b.more) none)) ∙ ends)

lead_further : (before : List (List ℕ)) (word : List ℕ) (at next : Expected) (bag with : Bag) → LeadTo before at bag
    → step at bag word ≡ Some (next, with) → LeadTo (before ++ word ∷ []) next with
lead_further before word at next bag with lead e more =
    ap (passes start) (append_assoc before (word ∷ []) more) ∙ (lead (word ∷ more) ∙ ap (λ s. passes s more) e)

-- the walk goes on behind these words
found : (words before all : List (List ℕ)) (n : ℕ) (at last : Expected) (bag : Bag) → all ≡ before ++ words → n ≡ length before
    → LeadTo before at bag → AreWords before → AreWords words
    → MatchOption (fault_in (Some (at, bag)) last n words) (IsWellFormed all) (λ fault. IsFirstFault all fault)
found [] before all n at last bag is count lead plain more = by (may_end at) refl
  where
    whole : all ≡ before
    whole = is ∙ append-nil before

    by : (t : Bool) → may_end at ≡ t → MatchOption (cond t None (Some (fault_at (n + 1) at))) (IsWellFormed all) (λ fault. IsFirstFault all fault)
    by true e = subst IsWellFormed (sym is) (well_formed (before ++ []) (lead [] ∙ e))
    by false e = record {
      before = before;
      behind = [];
      parts = is;
      counted = ap (λ k. k + 1) count;
      begins = begins before at bag lead;
      wrong = λ w. false≢true (sym (lead [] ∙ e) ∙ (ap (passes start) (append-nil before) ∙ form_passes before plain w));
    }
found (word ∷ words) before all n at last bag is count lead plain more =
    by (λ next with e. found words (before ++ word ∷ []) all (n + 1) next at with (is ∙ sym (append_assoc before (word ∷ []) words)) (further) (lead_further before word at next bag with lead e) (are_both before (word ∷ []) plain (more.0, tt)) more.1) (step at bag word) refl
  where
    further : n + 1 ≡ length (before ++ word ∷ [])
    further = omega (arith, count, length-append before (word ∷ []))

    by : ((next : Expected) (with : Bag) → step at bag word ≡ Some (next, with) → MatchOption (fault_in (Some (next, with)) at (n + 1) words) (IsWellFormed all) (λ fault. IsFirstFault all fault))
        → (o : Option (Expected × Bag)) → step at bag word ≡ o
        → MatchOption (fault_in o at (n + 1) words) (IsWellFormed all) (λ fault. IsFirstFault all fault)
    by others None e = record {
      before = before;
      behind = word ∷ words;
      parts = is;
      counted = ap (λ k. k + 1) count;
      begins = begins before at bag lead;
      wrong = goes_wrong before word at bag lead plain more.0 e;
    }
    by others (Some (next, with)) e = others next with e

pub first_faults : FaultsAreFirst
first_faults words plain = found words [] words 0 First First no_fields refl refl (λ more. refl) tt plain
