-- The lines about some records and one more.
use Rattle.std.proofs.Common.{◌≡◌, ℕ, ◌+◌, ◌||◌, Bool, true, false, List, [], ◌∷◌, ◌++◌, length, refl, sym, ap, ap₂, ◌∙◌, append_assoc, arith}
use Rattle.std.proofs.lemmas.List.{append-nil}
use Rattle.calspan_run.specs.RecordsExplained.{any_invalid, record_line, record_lines, records_explained}
use Rattle.calspan_run.proofs.BookLemmas.{no_records}

pub lines_behind : (number : ℕ) (rows : List (List (List ℕ))) (row : List (List ℕ)) → record_lines number (rows ++ row ∷ []) ≡ record_lines number rows ++ (record_line (number + length rows) row).0
lines_behind number [] row = append-nil (record_line number row).0 ∙ ap (λ n. (record_line n row).0) (omega arith)
lines_behind number (first ∷ rows) row =
    ap (λ t. (record_line number first).0 ++ t) (lines_behind (number + 1) rows row ∙ ap (λ n. record_lines (number + 1) rows ++ (record_line n row).0) (omega arith))
    ∙ sym (append_assoc (record_line number first).0 (record_lines (number + 1) rows) (record_line (number + length (first ∷ rows)) row).0)

or_assoc : (a b c : Bool) → (a || (b || c)) ≡ ((a || b) || c)
or_assoc true b c = refl
or_assoc false b c = refl

or_false : (b : Bool) → (b || false) ≡ b
or_false true = refl
or_false false = refl

pub invalid_behind : (number : ℕ) (rows : List (List (List ℕ))) (row : List (List ℕ)) → any_invalid number (rows ++ row ∷ []) ≡ (any_invalid number rows || (record_line (number + length rows) row).1)
invalid_behind number [] row = or_false (record_line number row).1 ∙ ap (λ n. (record_line n row).1) (omega arith)
invalid_behind number (first ∷ rows) row =
    ap (λ b. (record_line number first).1 || b) (invalid_behind (number + 1) rows row ∙ ap (λ n. any_invalid (number + 1) rows || (record_line n row).1) (omega arith))
    ∙ or_assoc (record_line number first).1 (any_invalid (number + 1) rows) (record_line (number + length (first ∷ rows)) row).1

-- an empty book has no invalid record
pub empty_explained : (book : List ℕ) → book ≡ [] → records_explained book ≡ ([], false)
empty_explained book e = ap records_explained e ∙ ap (λ rows. (record_lines 1 rows, any_invalid 1 rows)) no_records
