-- The lines that were given are the first of all.
use Rattle.std.proofs.Common.{◌≡◌, ℕ, List, ◌++◌, take, drop, ◌∙◌, sym, ap}
use Rattle.std.proofs.lemmas.List.{append_assoc, take-append-drop}
use Rattle.byte_io.specs.declared.reader.Reader.{Reader}
use Rattle.byte_io.specs.Lines.{closed_lines}
use Rattle.byte_io.specs.Reader.{IsAt, unseen, limit}
use Rattle.byte_io.proofs.PartLemmas.{closed_lines-prefix}

-- of the bytes within the limit
pub given_within : (r : Reader) (bytes : List ℕ) (lines : List (List ℕ)) (before : List ℕ) → IsAt r bytes lines before → (others : List (List ℕ)) × (closed_lines (take limit bytes) ≡ lines ++ others)
given_within r bytes lines before m =
    let (others, e) = closed_lines-prefix m.looked (unseen r.chunk r.at r.end) in
    (others, ap closed_lines (sym m.seen.parts) ∙ (e ∙ ap (λ y. y ++ others) m.given))

-- of all bytes that came
pub given_in_all : (r : Reader) (bytes : List ℕ) (lines : List (List ℕ)) (before : List ℕ) → IsAt r bytes lines before → (others : List (List ℕ)) × (closed_lines bytes ≡ lines ++ others)
given_in_all r bytes lines before m =
    let rest = unseen r.chunk r.at r.end ++ drop limit bytes in
    let all : m.looked ++ rest ≡ bytes = sym (append_assoc m.looked (unseen r.chunk r.at r.end) (drop limit bytes)) ∙ (ap (λ y. y ++ drop limit bytes) m.seen.parts ∙ take-append-drop limit bytes) in
    let (others, e) = closed_lines-prefix m.looked rest in
    (others, ap closed_lines (sym all) ∙ (e ∙ ap (λ y. y ++ others) m.given))
