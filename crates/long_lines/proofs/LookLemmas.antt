-- A look for an LF.
use Rattle.std.proofs.Common.{◌≡◌, ℕ, ◌+◌, ◌<◌, List, [], ◌∷◌, ◌++◌, take, get_or, Some, None, position, ◌∙◌, sym, ap, subst, eqb, ◌==◌, arith}
use Rattle.std.proofs.lemmas.List.{append_assoc, take_more, get_or-take, length-take}
use Rattle.std.proofs.lemmas.List.Quantifiers.{position-Some}
use Rattle.std.proofs.lemmas.Bool.{eqb-true}
use Rattle.long_lines.specs.declared.buffer.LongLine.{LongLine}
use Rattle.long_lines.specs.Buffer.{Holds}
use Rattle.byte_io.specs.Lines.{closed_lines, open_line}
use Rattle.long_lines.specs.Looks.{EndsLine, GoesOn}
use Rattle.byte_io.proofs.FirstLemmas.{none_passes}
use Rattle.byte_io.proofs.PartLemmas.{HasNoLf, closed_lines-push_lf, open_line-push_lf, closed_lines-append, open_line-append}

-- bytes without an LF
pub goes_on : (old new : LongLine) (bytes before : List ℕ) → HasNoLf bytes → Holds old (open_line before) → ((line : List ℕ) → Holds old line → Holds new (line ++ bytes)) → GoesOn new bytes before
goes_on old new bytes before none h more = record {
  holds = subst (λ (y : List ℕ). Holds new y) (sym (open_line-append before bytes none)) (more (open_line before) h);
  closed = closed_lines-append before bytes none;
}

pub HasNoLf-position : (bytes : List ℕ) → position (λ (b : ℕ). b == 10) bytes ≡ None → HasNoLf bytes
HasNoLf-position bytes h = record { none = none_passes (λ (b : ℕ). b == 10) bytes h }

-- bytes up to the first LF
pub ends_line : (old new : LongLine) (bytes before : List ℕ) (n : ℕ) → position (λ (b : ℕ). b == 10) bytes ≡ Some n → Holds old (open_line before)
    → ((line : List ℕ) → Holds old line → Holds new (line ++ take n bytes)) → EndsLine new (take (n + 1) bytes) before
ends_line old new bytes before n at h more =
    let found = position-Some (λ (b : ℕ). b == 10) bytes n 0 at in
    let lf : get_or bytes n 0 ≡ 10 = eqb-true (get_or bytes n 0) 10 found.1 in
    let none : HasNoLf (take n bytes) = record { none = λ k lt. let within : k < n = omega (arith, length-take n bytes) in ap (λ x. eqb x 10) (get_or-take n bytes k 0 within) ∙ found.2 k within } in
    let all : before ++ take (n + 1) bytes ≡ (before ++ take n bytes) ++ 10 ∷ [] =
    ap (λ r. before ++ r) (take_more bytes n 0 found.0) ∙ (ap (λ x. before ++ (take n bytes ++ x ∷ [])) lf ∙ sym (append_assoc before (take n bytes) (10 ∷ []))) in
    record {
      line = open_line before ++ take n bytes;
      holds = more (open_line before) h;
      closed = ap closed_lines all ∙ (closed_lines-push_lf (before ++ take n bytes)
          ∙ (ap (λ r. r ++ open_line (before ++ take n bytes) ∷ []) (closed_lines-append before (take n bytes) none) ∙ ap (λ r. closed_lines before ++ r ∷ []) (open_line-append before (take n bytes) none)));
      rest = ap open_line all ∙ open_line-push_lf (before ++ take n bytes);
    }
