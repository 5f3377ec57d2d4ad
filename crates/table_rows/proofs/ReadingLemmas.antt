-- Rows of a caller's own: a line of them, and a whole text.
use Rattle.std.proofs.Common.{◌≡◌, ℕ, zero, suc, ◌+◌, ◌<◌, ◌≤◌, Bool, true, false, cond, nat_le, nat_lt, List, [], ◌∷◌, ◌++◌, length, take, Option, Some, Result, Ok, Err, ◌↔◌, inl, inr, refl, arith, ◌∙◌, sym, ap, ap₂, subst}
use Rattle.std.proofs.lemmas.Bool.{le-leb}
use Rattle.std.proofs.lemmas.List.{append-nil, take_all, take-append-le, length-append}
use Rattle.std.specs.Prelude.{IsOk}
use Rattle.byte_io.specs.Buffer.{Holds}
use Rattle.byte_io.specs.Lines.{lines_in}
use Rattle.byte_io.specs.Reader.{limit}
use Rattle.byte_io.specs.declared.buffer.LineBuffer.{LineBuffer}
use Rattle.request_lines.specs.Lines.{Nothing, GivesRow, Requests, RequestLine, Long, Asks, Malformed, IsLine, SaysAs}
use Rattle.request_lines.specs.Rows.{Row}
use Rattle.table_rows.specs.Gathering.{MetEnd, MetFaulty, MetOther, Stops}
use Rattle.table_rows.specs.Reading.{is_long, lines_read, EndsAtOther, IsLineTaken, IsOtherLine, IsRowText, IsTextRead}
use Rattle.table_rows.specs.RowLines.{RowTakesMemory, AreRows, WithLines, AtFaultyRow, AtRequest, EndRows}
use Rattle.table_rows.specs.TableRows as rows
use Rattle.table_rows.specs.RowsSaid.{rows_said}
use Rattle.table_rows.specs.declared.errors.RowError.TheVariants as line
use Rattle.table_rows.specs.declared.errors.RowsError.{RowsError}
use Rattle.table_rows.specs.declared.errors.RowsError.TheVariants as text
use Rattle.table_rows.specs.declared.gathering.Stop.TheVariants.{NoMemory, TooLong}
use Rattle.table_rows.specs.declared.rows.TableRows.{TableRows}
use Rattle.table_rows.specs.declared.table.RowFault.{RowFault}
use Rattle.table_rows.proofs.InputLemmas.{lines_in-prefix}
use Rattle.table_rows.proofs.RowMemoryLemmas.{memory_more}
use Rattle.table_rows.proofs.RowLineLemmas.{end_before}
use Rattle.table_rows.proofs.RowUniqueLemmas.{rows_end-unique}

-- a line that is no row line is long where it has more than 512 bytes
long_as : (silent long row : Bool) (said : List ℕ) (request : RequestLine) → SaysAs silent long row said (Requests request) → is_long request ≡ long
long_as true long row said request e = absurd (differ e)
  where
    differ : Requests request ≡ Nothing → ⊥
    differ e = cc
long_as false true row said request e = ap is_long (same e)
  where
    same : Requests request ≡ Requests Long → request ≡ Long
    same e = cc
long_as false false true said request e = absurd (differ _ e)
  where
    differ : (row : Option Row) → Requests request ≡ GivesRow row → ⊥
    differ row e = cc
long_as false false false said request (inl h) = ap is_long (same h.asks_it)
  where
    same : Requests request ≡ Requests (Asks h.request) → request ≡ Asks h.request
    same e = cc
long_as false false false said request (inr h) = ap is_long (same h.malformed)
  where
    same : Requests request ≡ Requests Malformed → request ≡ Malformed
    same e = cc

pub long_is : (whole : List ℕ) (buffer : LineBuffer) (request : RequestLine) → IsLine whole (Requests request) → Holds buffer whole → is_long request ≡ buffer.over
long_is whole buffer request says holds = long_as _ (nat_lt 512 (length whole)) _ _ request says ∙ sym holds.over

pub other_taken : (whole : List ℕ) (long : Bool) (old new : rows.TableRows) → IsOtherLine whole long → new ≡ old → IsLineTaken (Err (cond long line.LongLine line.NoRow)) whole old new
other_taken whole true old new other same = (other, same)
other_taken whole false old new other same = (other, same)

-- all bytes of a text came
all_came : (whole rest bytes : List ℕ) → whole ≡ bytes ++ rest → rest ≡ [] → whole ≡ bytes
all_came whole rest bytes e none = e ∙ (ap (λ r. bytes ++ r) none ∙ append-nil bytes)

pub text_rows : (whole rest : List ℕ) (kept : rows.TableRows) → MetEnd (Some whole) (Some rest) kept → AreRows (lines_in whole true) kept × (length whole ≤ limit)
text_rows whole rest kept h =
    let all = sym (all_came whole rest h.bytes h.took h.at_end) in
    (subst (λ (b : List ℕ). AreRows (lines_in b true) kept) all h.are_rows, subst (λ (b : List ℕ). length b ≤ limit) all h.within)

-- a text within the limit is read as a whole
read_whole : (whole : List ℕ) → length whole ≤ limit → lines_read whole ≡ lines_in whole true
read_whole whole size = ap₂ lines_in (take_all limit whole size) (le-leb (length whole) limit size)

-- the first bytes of what came within the limit begin those of the text within it
take_more : (n : ℕ) (bytes rest : List ℕ) → (more : List ℕ) × (take n (bytes ++ rest) ≡ take n bytes ++ more)
take_more zero [] rest = ([], refl)
take_more zero (b ∷ bytes) rest = ([], refl)
take_more (suc n) [] rest = (take (suc n) rest, refl)
take_more (suc n) (b ∷ bytes) rest = let (more, e) = take_more n bytes rest in (more, ap (λ t. b ∷ t) e)

-- the lines of a text as far as it is read begin with those of what came of it within the limit
lines_of_text : (whole rest bytes : List ℕ) (ended : Bool) → whole ≡ bytes ++ rest → (ended ≡ true → (rest ≡ []) × (length bytes ≤ limit))
    → (others : List (List ℕ)) × (lines_read whole ≡ lines_in (take limit bytes) ended ++ others)
lines_of_text whole rest bytes true e end =
    let (none, size) = end refl in
    let all = all_came whole rest bytes e none in
    let within : length whole ≤ limit = subst (λ (b : List ℕ). length b ≤ limit) (sym all) size in
    ([], read_whole whole within ∙ (ap (λ b. lines_in b true) (all ∙ sym (take_all limit bytes size)) ∙ sym (append-nil _)))
lines_of_text whole rest bytes false e end =
    let (more, first) = take_more limit bytes rest in
    let (others, lines) = lines_in-prefix (take limit bytes) more (nat_le (length whole) limit) in
    (others, ap (λ b. lines_in b (nat_le (length whole) limit)) (ap (take limit) e ∙ first) ∙ lines)

pub text_faulty : (whole rest : List ℕ) (n : ℕ) (why : RowFault) → MetFaulty (Some whole) (Some rest) n why → (kept : rows.TableRows) × EndRows (AtFaultyRow n why) (lines_read whole) kept
text_faulty whole rest n why h =
    let (others, lines) = lines_of_text whole rest h.bytes h.whole h.took h.at_end in
    let (at, more, before, row, says, takes) = h.ends in
    (h.rows, subst (λ (y : List (List ℕ)). EndRows (AtFaultyRow n why) y h.rows) (sym lines) (at, more ++ others, end_before (lines_in (take limit h.bytes) h.whole) others h.rows n at more before, row, says, takes))

text_other : (whole rest : List ℕ) (n : ℕ) (request : RequestLine) (kept : rows.TableRows) (long : Bool) → MetOther (Some whole) (Some rest) n request kept → is_long request ≡ long → EndsAtOther whole n long
text_other whole rest n request kept long h is =
    let (others, lines) = lines_of_text whole rest h.bytes h.whole h.took h.at_end in
    let (at, more, before, says, same) = h.ends in (
      kept,
      request,
      h.others ++ others,
      subst (λ (y : List (List ℕ)). EndRows (AtRequest n request (h.others ++ others)) y kept) (sym lines)
          (at, more ++ others, end_before (lines_in (take limit h.bytes) h.whole) others kept n at more before, says, ap (λ t. t ++ others) same),
      is,
    )

other_read : (whole : List ℕ) (n : ℕ) (long : Bool) → EndsAtOther whole n long → IsTextRead (Err (cond long (text.LongLine n) (text.NoRow n))) whole
other_read whole n true h = h
other_read whole n false h = h

-- at a line that the buffer holds
pub text_ends : (whole rest : List ℕ) (n : ℕ) (request : RequestLine) (kept : rows.TableRows) (at : List ℕ) (buffer : LineBuffer) → MetOther (Some whole) (Some rest) n request kept → IsLine at (Requests request) → Holds buffer at
    → IsTextRead (Err (cond buffer.over (text.LongLine n) (text.NoRow n))) whole
text_ends whole rest n request kept at buffer h says holds = other_read whole n buffer.over (text_other whole rest n request kept buffer.over h (long_is at buffer request says holds))

pub text_lacks : (whole rest : List ℕ) (faults more : ℕ) → Stops NoMemory (Some whole) (Some rest) faults more → RowTakesMemory (lines_read whole)
text_lacks whole rest faults more (bytes, ended, took, takes, at_end) =
    let (others, lines) = lines_of_text whole rest bytes ended took at_end in
    subst RowTakesMemory (sym lines) (memory_more (lines_in (take limit bytes) ended) others takes)

pub text_too_long : (whole rest : List ℕ) (faults more : ℕ) → Stops TooLong (Some whole) (Some rest) faults more → (kept : rows.TableRows) × (limit < length whole) × AreRows (lines_in (take limit whole) false) kept
text_too_long whole rest faults more (bytes, kept, size, took, are) =
    let count : length whole ≡ length bytes + length rest = ap length took ∙ length-append bytes rest in
    let within : take limit whole ≡ take limit bytes = ap (take limit) took ∙ take-append-le limit bytes rest (omega (arith, size)) in
    (kept, omega (arith, size, count), subst (λ (b : List ℕ). AreRows (lines_in b false) kept) (sym within) are)

-- rows are read exactly where each line gives nothing or a row that is kept
not_faulty : (whole : List ℕ) (kept : rows.TableRows) (n : ℕ) (why : RowFault) → length whole ≤ limit → EndRows (AtFaultyRow n why) (lines_read whole) kept → IsRowText whole → ⊥
not_faulty whole kept n why size at (all, are) =
    differ (rows_end-unique (lines_in whole true) WithLines (AtFaultyRow n why) all kept are (subst (λ (y : List (List ℕ)). EndRows (AtFaultyRow n why) y kept) (read_whole whole size) at)).0
  where
    differ : WithLines ≡ AtFaultyRow n why → ⊥
    differ e = cc

not_other : (whole : List ℕ) (n : ℕ) (long : Bool) → length whole ≤ limit → EndsAtOther whole n long → IsRowText whole → ⊥
not_other whole n long size (kept, request, others, at, is) (all, are) =
    differ (rows_end-unique (lines_in whole true) WithLines (AtRequest n request others) all kept are (subst (λ (y : List (List ℕ)). EndRows (AtRequest n request others) y kept) (read_whole whole size) at)).0
  where
    differ : WithLines ≡ AtRequest n request others → ⊥
    differ e = cc

pub read_exact : (r : Result TableRows RowsError) (whole : List ℕ) → IsTextRead r whole → length whole ≤ limit → (r ≡ Err text.NoMemory → ⊥) → IsOk r ↔ IsRowText whole
read_exact (Ok r) whole (reads, within) size lacks = (λ _. (rows_said r, reads), λ _. refl)
read_exact (Err (text.Row n why)) whole (kept, at) size lacks = (λ e. cc, λ is. absurd (not_faulty whole kept n why size at is))
read_exact (Err (text.NoRow n)) whole at size lacks = (λ e. cc, λ is. absurd (not_other whole n false size at is))
read_exact (Err (text.LongLine n)) whole at size lacks = (λ e. cc, λ is. absurd (not_other whole n true size at is))
read_exact (Err text.NoMemory) whole reads size lacks = absurd (lacks refl)
read_exact (Err text.TooLong) whole (kept, more, are) size lacks = absurd (omega (arith, more, size))
