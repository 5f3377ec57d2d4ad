-- The malformed words of row lines.
use Rattle.std.proofs.Common.{◌≡◌, ℕ, ◌+◌, Bool, true, false, cond, ◌||◌, List, [], ◌∷◌, ◌++◌, length, take, drop, Option, Some, None, inl, inr, refl, sym, ap, subst, ◌∙◌, codes}
use Rattle.std.specs.List.{starts_with}
use Rattle.std.proofs.lemmas.Bool.{false≢true}
use Rattle.std.specs.Prelude.{nat_eq}
use Rattle.std.proofs.lemmas.List.{take-append-drop}
use Rattle.cal_types.specs.Bag.{Bag}
use Rattle.request_lines.specs.Bags.{no_fields}
use Rattle.request_lines.specs.Lines.{GivesRow, Line, Requests, Nothing, Long, Asks, Malformed, RequestLine, SaysAs, is_row}
use Rattle.request_lines.specs.RowForms.{IsRow}
use Rattle.request_lines.specs.Rows.{Row, row_read}
use Rattle.request_lines.specs.Words.{is_text, words_of}
use Rattle.request_lines.proofs.BagLemmas.{same_text}
use Rattle.request_lines.proofs.RowFormLemmas.{one_form}
use Rattle.request_lines.proofs.TakingLemmas.{key_before}
use Rattle.line_faults.specs.Faults.{fault_at, fault_in, first_fault}
use Rattle.line_faults.specs.Places.{may_end, step}
use Rattle.line_faults.proofs.PassLemmas.{passes, start}
use Rattle.line_faults.proofs.RowLemmas.{is_table_row, row_passes}
use Rattle.line_faults.specs.declared.expected.Expected.{Expected}
use Rattle.line_faults.specs.declared.expected.Expected.TheVariants.{First}
use Rattle.line_faults.specs.declared.faults.LineFault.{LineFault}

-- words that lead to an end have no fault
no_fault : (words : List (List ℕ)) (s : Option (Expected × Bag)) (last : Expected) (n : ℕ) → passes s words ≡ true → fault_in s last n words ≡ None
no_fault words None last n e = absurd (false≢true e)
no_fault [] (Some (at, bag)) last n e = ap (λ t. cond t None (Some (fault_at (n + 1) at))) e
no_fault (word ∷ words) (Some (at, bag)) last n e = no_fault words (step at bag word) at (n + 1) e

-- and words without a fault lead to one
no_fault_passes : (words : List (List ℕ)) (s : Option (Expected × Bag)) (last : Expected) (n : ℕ) → fault_in s last n words ≡ None → passes s words ≡ true
no_fault_passes words None last n e = cc
no_fault_passes [] (Some (at, bag)) last n e = by (may_end at) e
  where
    by : (t : Bool) → cond t None (Some (fault_at (n + 1) at)) ≡ None → t ≡ true
    by true e = refl
    by false e = cc
no_fault_passes (word ∷ words) (Some (at, bag)) last n e = no_fault_passes words (step at bag word) at (n + 1) e

-- the words of a row are well-formed
pub row_well_formed : (words : List (List ℕ)) (r : Row) → row_read words ≡ Some r → first_fault words ≡ None
row_well_formed words r e = no_fault words start First 0 (row_passes words r ((one_form words r).0 e))

pub form_is : (words : List (List ℕ)) (r : Row) → row_read words ≡ Some r → IsRow words r
form_is words r e = (one_form words r).0 e

-- other words behind `row` aren't
abbrev pub HasFault : Option LineFault → Type 0
HasFault o = (fault : LineFault) × (o ≡ Some fault)

pub row_malformed : (words rest : List (List ℕ)) → words ≡ codes "row" ∷ rest → row_read words ≡ None → HasFault (first_fault words)
row_malformed words rest first none = by (first_fault words) refl
  where
    by : (o : Option LineFault) → first_fault words ≡ o → HasFault o
    by (Some fault) e = (fault, refl)
    by None e =
        let h = is_table_row rest (no_fault_passes (codes "row" ∷ rest) start First 0 (ap first_fault (sym first) ∙ e)) in
        let read : row_read words ≡ Some h.row = ap row_read first ∙ (one_form (codes "row" ∷ rest) h.row).1 h.form in
        let no : None ≡ Some h.row = sym none ∙ read in
        absurd cc

-- the first word of a row line is `row`
pub first_is_row : (text : List ℕ) → is_row text ≡ true → (rest : List (List ℕ)) × (words_of text ≡ codes "row" ∷ rest)
first_is_row text e = by (is_text text (codes "row")) refl e
  where
    behind : List ℕ
    behind = drop 4 text

    spaced : starts_with nat_eq text (codes "row ") ≡ true → text ≡ codes "row" ++ 32 ∷ behind
    spaced e = sym (take-append-drop 4 text) ∙ ap (λ l. l ++ behind) (sym (same_text (codes "row ") (take 4 text) e))

    by : (t : Bool) → is_text text (codes "row") ≡ t → (t || starts_with nat_eq text (codes "row ")) ≡ true → (rest : List (List ℕ)) × (words_of text ≡ codes "row" ∷ rest)
    by true q e = ([], ap words_of (same_text text (codes "row") q))
    by false q e = (words_of behind, ap words_of (spaced e) ∙ key_before (codes "row") (32 ∷ behind) [] (words_of behind) refl refl)

-- what a row line says
pub says_row : (text : List ℕ) (row : Option Row) (silent long is : Bool) → SaysAs silent long is text (GivesRow row) → (is ≡ true) × (row ≡ row_read (words_of text))
says_row text row true long is h = cc
says_row text row false true is h = cc
says_row text row false false true h = (refl, cc)
says_row text row false false false h = absurd (neither h)
  where
    neither : SaysAs false false false text (GivesRow row) → ⊥
    neither (inl h) = let e = h.asks_it in cc
    neither (inr h) = let e = h.malformed in cc
