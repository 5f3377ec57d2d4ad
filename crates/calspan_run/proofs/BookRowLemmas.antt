-- The rows before a book, line by line.
use Rattle.std.proofs.Common.{◌≡◌, Option, cond, ℕ, zero, suc, ◌+◌, ◌-◌, ◌<◌, ◌==◌, ◌&&◌, ◌⊎◌, Bool, true, false, nat_lt, List, [], ◌∷◌, ◌++◌, length, take, drop, Some, None, position, Ok, Err, inl, inr, refl, sym, ap, ◌∙◌, subst, arith, ltb}
use Rattle.std.specs.List.{position_or_len}
use Rattle.std.proofs.lemmas.Bool.{lt-ltb}
use Rattle.std.proofs.lemmas.List.{append_assoc, append-nil, length-append}
use Rattle.std.proofs.lemmas.List.Splits.{slice_split_first, slice_split_none}
use Rattle.std.proofs.lemmas.Option.{cond_some}
use Rattle.std.proofs.lemmas.List.Sums.{fails_before_first}
use borrow.Author.Tests.{ltb-true, ltb-false}
use Rattle.byte_io.specs.Lines.{closed_lines, last_of, lines_in, open_line, parts_of, prefix_of}
use Rattle.byte_io.proofs.PartLemmas.{length-parts_of}
use Rattle.table_rows.specs.Reading.{IsLineTaken, IsOtherLine}
use Rattle.table_rows.specs.RowLines.{AddRows, AreRows, AtRequest, KeepsLine, WithLines}
use Rattle.table_rows.specs.TableRows.{TableRows, no_rows}
use Rattle.table_rows.specs.declared.errors.RowError.{RowError}
use Rattle.table_rows.specs.declared.errors.RowError.TheVariants as error
use Rattle.table_rows.specs.declared.table.RowFault.{RowFault}
use Rattle.calspan_run.specs.BookRows.{HasBook, HasFaultyRow, HasHead, behind_line, behind_lines}

-- the parts at the first LF, and without one
pub parts_at : (bytes : List ℕ) (i : ℕ) → position (λ b. b == 10) bytes ≡ Some i → parts_of bytes ≡ take i bytes ∷ parts_of (drop (i + 1) bytes)
parts_at bytes i h =
    let found = cond_some (ltb (position_or_len (λ b. b == 10) bytes) (length bytes)) (position_or_len (λ b. b == 10) bytes) i h in
    let within : position_or_len (λ b. b == 10) bytes < length bytes = ltb-true (position_or_len (λ b. b == 10) bytes) (length bytes) found.0 in
    let split = slice_split_first (λ b. b == 10) bytes 0 within in
    rw found.1 at split

cond_none : (b : Bool) (n : ℕ) → ◌≡◌ {A = Option ℕ} (cond b (Some n) None) None → b ≡ false
cond_none true n h = cc
cond_none false n h = refl

pub one_part : (bytes : List ℕ) → position (λ b. b == 10) bytes ≡ None → parts_of bytes ≡ bytes ∷ []
one_part bytes h =
    let past = ltb-false (position_or_len (λ b. b == 10) bytes) (length bytes) (cond_none (ltb (position_or_len (λ b. b == 10) bytes) (length bytes)) (position_or_len (λ b. b == 10) bytes) h) in
    slice_split_none (λ b. b == 10) bytes (λ k d lt. fails_before_first (λ b. b == 10) bytes k d (omega (arith, past)))

-- the lines behind the first one
prefix_more : (x : List ℕ) (s : List (List ℕ)) → 0 < length s → prefix_of (x ∷ s) ≡ x ∷ prefix_of s
prefix_more x [] h = absurd (omega arith)
prefix_more x (y ∷ s) h = refl

last_more : (x : List ℕ) (s : List (List ℕ)) → 0 < length s → last_of (x ∷ s) ≡ last_of s
last_more x [] h = absurd (omega arith)
last_more x (y ∷ s) h = refl

lines_by : (c : Bool) (line last : List ℕ) (closed : List (List ℕ)) → cond c ((line ∷ closed) ++ last ∷ []) (line ∷ closed) ≡ line ∷ cond c (closed ++ last ∷ []) closed
lines_by true line last closed = refl
lines_by false line last closed = refl

pub lines_more : (bytes line behind : List ℕ) → parts_of bytes ≡ line ∷ parts_of behind → lines_in bytes true ≡ line ∷ lines_in behind true
lines_more bytes line behind h =
    let closed : closed_lines bytes ≡ line ∷ closed_lines behind = ap prefix_of h ∙ prefix_more line (parts_of behind) (length-parts_of behind) in
    let last : open_line bytes ≡ open_line behind = ap last_of h ∙ last_more line (parts_of behind) (length-parts_of behind) in
    ap (λ o. cond (true && nat_lt 0 (length o)) (closed_lines bytes ++ o ∷ []) (closed_lines bytes)) last
    ∙ (ap (λ c. cond (true && nat_lt 0 (length (open_line behind))) (c ++ open_line behind ∷ []) c) closed
    ∙ lines_by (true && nat_lt 0 (length (open_line behind))) line (open_line behind) (closed_lines behind))

pub no_lines : lines_in [] true ≡ []
no_lines = refl

pub one_line : (bytes : List ℕ) → 0 < length bytes → parts_of bytes ≡ bytes ∷ [] → lines_in bytes true ≡ bytes ∷ []
one_line bytes some h =
    let last : open_line bytes ≡ bytes = ap last_of h in
    let closed : closed_lines bytes ≡ [] = ap prefix_of h in
    ap (λ o. cond (true && nat_lt 0 (length o)) (closed_lines bytes ++ o ∷ []) (closed_lines bytes)) last
    ∙ (ap (λ c. cond (true && nat_lt 0 (length bytes)) (c ++ bytes ∷ []) c) closed
    ∙ ap (λ b. cond (true && b) (bytes ∷ []) []) (lt-ltb 0 (length bytes) some))

-- what follows one line more
pub behind_one_more : (n : ℕ) (bytes : List ℕ) → behind_lines (n + 1) bytes ≡ behind_line (behind_lines n bytes)
behind_one_more zero bytes = refl
behind_one_more (suc n) bytes =
    let next : suc n + 1 ≡ suc (n + 1) = omega arith in
    ap (λ k. behind_lines k bytes) next ∙ behind_one_more n (behind_line bytes)

pub behind_none : (n : ℕ) → behind_lines n [] ≡ []
behind_none zero = refl
behind_none (suc n) = behind_none n

-- one row line more
add_row : (lines : List (List ℕ)) (line : List ℕ) (rows mid end : TableRows) → AddRows lines rows mid → KeepsLine line mid end → AddRows (lines ++ line ∷ []) rows end
add_row [] line rows mid end h keeps = (end, subst (λ r. KeepsLine line r end) h keeps, refl)
add_row (first ∷ lines) line rows mid end (next, kept, more) keeps = (next, kept, add_row lines line next mid end more keeps)

pub taken_keeps : (b : Bool) (line : List ℕ) (rows next : TableRows) → IsLineTaken (Ok b) line rows next → KeepsLine line rows next
taken_keeps true line rows next h = inr h
taken_keeps false line rows next h = inl h

pub head_begins : (bytes : List ℕ) (rows : TableRows) → rows ≡ no_rows → HasHead bytes rows bytes 1
head_begins bytes rows none = record {
  lines = [];
  are_rows = none;
  number_is = refl;
  all = refl;
  behind = refl;
  few = omega arith;
}

pub head_goes_on : (bytes rest line behind : List ℕ) (rows next : TableRows) (number : ℕ) → HasHead bytes rows rest number → KeepsLine line rows next
    → lines_in rest true ≡ line ∷ lines_in behind true → behind ≡ behind_line rest → length behind < length rest → HasHead bytes next behind (number + 1)
head_goes_on bytes rest line behind rows next number h keeps lines is fewer =
    let count : length (h.lines ++ line ∷ []) ≡ length h.lines + 1 = length-append h.lines (line ∷ []) in
    record {
      lines = h.lines ++ line ∷ [];
      are_rows = add_row h.lines line no_rows rows next h.are_rows keeps;
      number_is = omega (arith, h.number_is, count);
      all = h.all ∙ (ap (λ x. h.lines ++ x) lines ∙ sym (append_assoc h.lines (line ∷ []) (lines_in behind true)));
      behind = is ∙ (ap behind_line h.behind ∙ (sym (behind_one_more (length h.lines) bytes) ∙ ap (λ k. behind_lines k bytes) (sym count)));
      few = omega (arith, h.few, count, fewer);
    }

-- the input ends with its rows
pub head_ends : (bytes rest : List ℕ) (rows : TableRows) (number : ℕ) → HasHead bytes rows rest number → rest ≡ [] → HasBook bytes rows rest
head_ends bytes rest rows number h none =
    let all : lines_in bytes true ≡ h.lines = h.all ∙ (ap (λ x. h.lines ++ lines_in x true) none ∙ append-nil h.lines) in
    (WithLines, subst (λ (x : List (List ℕ)). AreRows x rows) (sym all) h.are_rows, none)

-- the book begins with a line
head_met : (bytes rest line behind : List ℕ) (rows : TableRows) (long : Bool) (number : ℕ) → HasHead bytes rows rest number → IsOtherLine line long
    → lines_in rest true ≡ line ∷ lines_in behind true → HasBook bytes rows rest
head_met bytes rest line behind rows long number h (request, is, e) lines =
    let before : number - 1 ≡ length h.lines = omega (arith, h.number_is) in (
      AtRequest number request (line ∷ lines_in behind true),
      (
        line,
        lines_in behind true,
        record { before = h.lines; are_rows = h.are_rows; number = h.number_is; all = h.all ∙ ap (λ x. h.lines ++ x) lines },
        is,
        refl,
      ),
      h.behind ∙ ap (λ k. behind_lines k bytes) (sym before),
    )

-- the first line that isn't a row line was met
other_of : (fault : RowError) (line : List ℕ) (rows next : TableRows) → (fault ≡ error.NoRow) ⊎ (fault ≡ error.LongLine) → IsLineTaken (Err fault) line rows next → (long : Bool) × IsOtherLine line long × (next ≡ rows)
other_of fault line rows next (inl e) h = let (other, same) = subst (λ x. IsLineTaken (Err x) line rows next) e h in (false, other, same)
other_of fault line rows next (inr e) h = let (other, same) = subst (λ x. IsLineTaken (Err x) line rows next) e h in (true, other, same)

pub head_stops : (bytes rest line behind : List ℕ) (rows next : TableRows) (fault : RowError) (number : ℕ) → HasHead bytes rows rest number → (fault ≡ error.NoRow) ⊎ (fault ≡ error.LongLine) → IsLineTaken (Err fault) line rows next
    → lines_in rest true ≡ line ∷ lines_in behind true → HasBook bytes next rest
head_stops bytes rest line behind rows next fault number h why taken lines =
    let (long, other, same) = other_of fault line rows next why taken in
    subst (λ r. HasBook bytes r rest) (sym same) (head_met bytes rest line behind rows long number h other lines)

-- a row line is invalid
pub head_faulty : (bytes rest line behind : List ℕ) (rows next : TableRows) (why : RowFault) (number : ℕ) → HasHead bytes rows rest number → IsLineTaken (Err (error.Row why)) line rows next
    → lines_in rest true ≡ line ∷ lines_in behind true → HasFaultyRow bytes number why
head_faulty bytes rest line behind rows next why number h ((row, is, takes), same) lines = (
  rows,
  (
    line,
    lines_in behind true,
    record { before = h.lines; are_rows = h.are_rows; number = h.number_is; all = h.all ∙ ap (λ x. h.lines ++ x) lines },
    row,
    is,
    takes,
  ),
)
