-- The reader, by what was looked at.
use Rattle.std.proofs.Common.{◌≡◌, ℕ, ◌+◌, ◌-◌, ◌≤◌, List, [], ◌∷◌, ◌++◌, length, take, drop, arith, ◌∙◌, sym, ap, subst}
use Rattle.std.proofs.lemmas.List.{append_assoc, append-nil, take-append-drop, drop-drop, drop-take, length-take}
use Rattle.byte_io.specs.Lines.{closed_lines, open_line}
use Rattle.byte_io.specs.Reader.{unseen}
use Rattle.long_lines.specs.declared.buffer.LongLine.{LongLine}
use Rattle.long_lines.specs.declared.reader.LineReader.{LineReader}
use Rattle.long_lines.specs.Buffer.{Holds}
use Rattle.long_lines.specs.Looks.{EndsLine, GoesOn}
use Rattle.long_lines.specs.Reader.{IsAt, GivesLine, GivesAll}

unseen-add : (chunk : List ℕ) (at end n : ℕ) → n ≤ length (unseen chunk at end) → unseen chunk (at + n) end ≡ drop n (unseen chunk at end)
unseen-add chunk at end n h =
    let k : end - at ≡ n + (end - (at + n)) = omega (arith, length-take (end - at) (drop at chunk)) in
    sym (ap (λ (m : ℕ). drop n (take m (drop at chunk))) k ∙ (drop-take n (end - (at + n)) (drop at chunk) ∙ ap (λ r. take (end - (at + n)) r) (drop-drop n at chunk)))

unseen-none : (chunk : List ℕ) (at : ℕ) → unseen chunk at at ≡ []
unseen-none chunk at = let none : at - at ≡ 0 = omega arith in ap (λ (m : ℕ). take m (drop at chunk)) none

-- an LF was found
pub gives_line : (r q : LineReader) (old new : LongLine) (bytes : List ℕ) (lines : List (List ℕ)) (before : List ℕ) (n : ℕ)
    → q.chunk ≡ r.chunk → q.at ≡ r.at + n → q.end ≡ r.end → n ≤ length (unseen r.chunk r.at r.end)
    → (m : IsAt r bytes lines before) → EndsLine new (take n (unseen r.chunk r.at r.end)) m.looked → GivesLine q new bytes lines
gives_line r q old new bytes lines before n chunk at end le m e =
    let all = unseen r.chunk r.at r.end in
    let rest : unseen q.chunk q.at q.end ≡ drop n all =
    ap (λ c. unseen c q.at q.end) chunk ∙ (ap (λ k. unseen r.chunk k q.end) at ∙ (ap (λ k. unseen r.chunk (r.at + n) k) end ∙ unseen-add r.chunk r.at r.end n le)) in
    let seen : (m.looked ++ take n all) ++ drop n all ≡ bytes = append_assoc m.looked (take n all) (drop n all) ∙ (ap (λ y. m.looked ++ y) (take-append-drop n all) ∙ m.parts) in
    record {
      line = e.line;
      holds = e.holds;
      at = record {
        looked = m.looked ++ take n all;
        parts = ap (λ y. (m.looked ++ take n all) ++ y) rest ∙ seen;
        given = e.closed ∙ ap (λ y. y ++ e.line ∷ []) m.given;
        behind = e.rest;
      };
    }

-- no LF was found, and all bytes that came were looked at
pub gives_all : (r q : LineReader) (new : LongLine) (bytes : List ℕ) (lines : List (List ℕ)) (before : List ℕ) → q.at ≡ q.end → (m : IsAt r bytes lines before)
    → GoesOn new (unseen r.chunk r.at r.end) m.looked → GivesAll q new bytes lines
gives_all r q new bytes lines before used m e =
    let given : closed_lines bytes ≡ lines = ap closed_lines (sym m.parts) ∙ (e.closed ∙ m.given) in
    record {
      at = record {
        looked = bytes;
        parts = ap (λ y. bytes ++ y) (ap (λ k. unseen q.chunk k q.end) used ∙ unseen-none q.chunk q.end) ∙ append-nil bytes;
        given = given;
        behind = ap open_line (sym m.parts) ∙ ap open_line m.parts;
      };
      holds = subst (λ (y : List ℕ). Holds new (open_line y)) m.parts e.holds;
      all = given;
    }

-- the reader behind a read
pub filled : (r q : LineReader) (count : ℕ) (bytes : List ℕ) (lines : List (List ℕ)) (before : List ℕ) → r.at ≡ r.end → q.at ≡ 0 → q.end ≡ count
    → IsAt r bytes lines before → IsAt q (bytes ++ take count q.chunk) lines before
filled r q count bytes lines before spent at end m =
    let all : m.looked ≡ bytes = sym (append-nil m.looked) ∙ (ap (λ y. m.looked ++ y) (sym (ap (λ k. unseen r.chunk k r.end) spent ∙ unseen-none r.chunk r.end)) ∙ m.parts) in
    let zero : count - 0 ≡ count = omega arith in
    record {
      looked = m.looked;
      parts = ap (λ k. m.looked ++ unseen q.chunk k q.end) at ∙ (ap (λ k. m.looked ++ unseen q.chunk 0 k) end ∙ (ap (λ (n : ℕ). m.looked ++ take n q.chunk) zero ∙ ap (λ y. y ++ take count q.chunk) all));
      given = m.given;
      behind = m.behind;
    }
