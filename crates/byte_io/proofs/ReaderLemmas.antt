-- A reader's steps.
use Rattle.std.proofs.Common.{◌≡◌, ℕ, ◌+◌, ◌-◌, ◌<◌, ◌≤◌, min, Bool, true, false, List, [], ◌∷◌, ◌++◌, length, take, drop, nat_lt, arith, ◌∙◌, sym, ap, subst, ⊎_elim}
use Rattle.std.proofs.lemmas.List.{append_assoc, append-nil, length-append, length-take, take-take, take_all, take-append-drop, drop-take, drop-drop}
use Rattle.std.proofs.Math.Seq.{take-append-add}
use Rattle.std.proofs.lemmas.Bool.{cases_lt, lt-ltb}
use borrow.Author.Tests.{ltb-true, ltb-false, le-ltb}
use Rattle.byte_io.specs.declared.buffer.LineBuffer.{LineBuffer}
use Rattle.byte_io.specs.declared.reader.Reader.{Reader}
use Rattle.byte_io.specs.Buffer.{Holds}
use Rattle.byte_io.specs.Looks.{EndsLine, GoesOn}
use Rattle.byte_io.specs.Lines.{closed_lines, open_line}
use Rattle.byte_io.specs.Reader.{HasLooked, IsAt, IsSpent, unseen, limit, GivesLine, GivesAll, GivesTooLong}
use Rattle.byte_io.proofs.PartLemmas.{length-closed_lines}

unseen-add : (chunk : List ℕ) (at end n : ℕ) → n ≤ length (unseen chunk at end) → unseen chunk (at + n) end ≡ drop n (unseen chunk at end)
unseen-add chunk at end n h =
    let k : end - at ≡ n + (end - (at + n)) = omega (arith, length-take (end - at) (drop at chunk)) in
    sym (ap (λ (m : ℕ). drop n (take m (drop at chunk))) k ∙ (drop-take n (end - (at + n)) (drop at chunk) ∙ ap (λ r. take (end - (at + n)) r) (drop-drop n at chunk)))

unseen-none : (chunk : List ℕ) (at : ℕ) → unseen chunk at at ≡ []
unseen-none chunk at = let none : at - at ≡ 0 = omega arith in ap (λ (m : ℕ). take m (drop at chunk)) none

-- an LF was found
pub gives_line : (r q : Reader) (old new : LineBuffer) (bytes : List ℕ) (lines : List (List ℕ)) (before : List ℕ) (n : ℕ)
    → q.chunk ≡ r.chunk → q.at ≡ r.at + n → q.end ≡ r.end → q.total ≡ r.total → q.beyond ≡ r.beyond → n ≤ length (unseen r.chunk r.at r.end)
    → (m : IsAt r bytes lines before) → EndsLine new (take n (unseen r.chunk r.at r.end)) m.looked → GivesLine q new bytes lines
gives_line r q old new bytes lines before n chunk at end total beyond le m e =
    let all = unseen r.chunk r.at r.end in
    let rest : unseen q.chunk q.at q.end ≡ drop n all =
    ap (λ c. unseen c q.at q.end) chunk ∙ (ap (λ k. unseen r.chunk k q.end) at ∙ (ap (λ k. unseen r.chunk (r.at + n) k) end ∙ unseen-add r.chunk r.at r.end n le)) in
    let seen : (m.looked ++ take n all) ++ drop n all ≡ take limit bytes = append_assoc m.looked (take n all) (drop n all) ∙ (ap (λ y. m.looked ++ y) (take-append-drop n all) ∙ m.seen.parts) in
    let given : closed_lines (m.looked ++ take n all) ≡ lines ++ e.line ∷ [] = e.closed ∙ ap (λ y. y ++ e.line ∷ []) m.given in
    record {
      line = e.line;
      holds = e.holds;
      at = record {
        looked = m.looked ++ take n all;
        seen = record {
          parts = ap (λ y. (m.looked ++ take n all) ++ y) rest ∙ seen;
          size = total ∙ m.seen.size;
          more = beyond ∙ m.seen.more;
        };
        given = given;
        behind = e.rest;
      };
      count = omega (arith, ap length given, length-append lines (e.line ∷ []), length-closed_lines (m.looked ++ take n all), ap length seen, length-append (m.looked ++ take n all) (drop n all), length-take limit bytes);
    }

-- no LF was found, and all bytes that came were looked at
pub record Ended (total : ℕ) (beyond : Bool) (new : LineBuffer) (bytes : List ℕ) (lines : List (List ℕ)) : Type 0 where
  pub size : total ≡ length (take limit bytes)
  pub more : beyond ≡ nat_lt limit (length bytes)
  pub given : closed_lines (take limit bytes) ≡ lines
  pub holds : Holds new (open_line (take limit bytes))

pub ended : (r : Reader) (new : LineBuffer) (bytes : List ℕ) (lines : List (List ℕ)) (before : List ℕ) → (m : IsAt r bytes lines before) → GoesOn new (unseen r.chunk r.at r.end) m.looked → Ended r.total r.beyond new bytes lines
ended r new bytes lines before m e = record {
  size = m.seen.size;
  more = m.seen.more;
  given = ap closed_lines (sym m.seen.parts) ∙ (e.closed ∙ m.given);
  holds = subst (λ (y : List ℕ). Holds new (open_line y)) m.seen.parts e.holds;
}

pub gives_too_long : (total : ℕ) (beyond : Bool) (new : LineBuffer) (bytes : List ℕ) (lines : List (List ℕ)) → beyond ≡ true → Ended total beyond new bytes lines → GivesTooLong bytes lines
gives_too_long total beyond new bytes lines h e = record {
  size = ltb-true limit (length bytes) (sym e.more ∙ h);
  all = e.given;
}

pub gives_all : (q : Reader) (beyond : Bool) (new : LineBuffer) (bytes : List ℕ) (lines : List (List ℕ)) → q.at ≡ q.end → q.beyond ≡ beyond → beyond ≡ false → Ended q.total beyond new bytes lines → GivesAll q new bytes lines
gives_all q beyond new bytes lines used same within e =
    let small : length bytes ≤ limit = ltb-false limit (length bytes) (sym e.more ∙ within) in
    let whole : take limit bytes ≡ bytes = take_all limit bytes small in
    record {
      at = record {
        looked = take limit bytes;
        seen = record {
          parts = ap (λ y. take limit bytes ++ y) (ap (λ k. unseen q.chunk k q.end) used ∙ unseen-none q.chunk q.end) ∙ append-nil (take limit bytes);
          size = e.size;
          more = same ∙ e.more;
        };
        given = e.given;
        behind = ap open_line whole;
      };
      size = small;
      all = ap closed_lines (sym whole) ∙ e.given;
      holds = subst (λ (y : List ℕ). Holds new (open_line y)) whole e.holds;
    }

take-take_min : (m n : ℕ) (c : List ℕ) → take m (take n c) ≡ take (min n m) c
take-take_min m n c =
    ⊎_elim
    (λ (h : m < n). take-take m n c (omega arith) ∙ ap (λ (k : ℕ). take k c) (omega arith))
    (λ (h : n ≤ m). take_all m (take n c) (omega (arith, length-take n c)) ∙ ap (λ (k : ℕ). take k c) (omega arith))
    (cases_lt m n)

take-append_take : (k total n : ℕ) (b c : List ℕ) → length b ≡ total → total ≤ k → take k (b ++ take n c) ≡ b ++ take (min n (k - total)) c
take-append_take k total n b c size h =
    ap (λ (m : ℕ). take m (b ++ take n c)) (omega arith) ∙ (take-append-add b (take n c) (k - total) ∙ ap (λ r. b ++ r) (take-take_min (k - total) n c))

nat_lt-same : (a b c d : ℕ) → (a < b → c < d) → (b ≤ a → d ≤ c) → nat_lt a b ≡ nat_lt c d
nat_lt-same a b c d up down =
    ⊎_elim (λ (h : a < b). lt-ltb a b h ∙ sym (lt-ltb c d (up h))) (λ (h : b ≤ a). le-ltb a b h ∙ sym (le-ltb c d (down h))) (cases_lt a b)

-- a chunk more, where all that came was looked at
looked_on : (old chunk : List ℕ) (at end total count within : ℕ) (b g : List ℕ) → at ≡ end → within ≡ min count (limit - total) → 0 < count → count ≤ length chunk → total ≤ limit
    → HasLooked (unseen old at end) total false b g → HasLooked (unseen chunk 0 within) (total + within) (nat_lt within count) (b ++ take count chunk) g
looked_on old chunk at end total count within b g used is some fits small h =
    let short : length b ≤ limit = ltb-false limit (length b) (sym h.more) in
    let whole : take limit b ≡ b = take_all limit b short in
    let all : total ≡ length b = h.size ∙ ap length whole in
    let none : end - at ≡ 0 = omega arith in
    let seen : g ≡ b = sym (append-nil g) ∙ (ap (λ r. g ++ r) (ap (λ (n : ℕ). take n (drop at old)) (sym none)) ∙ (h.parts ∙ whole)) in
    let zero : within - 0 ≡ within = omega arith in
    let now : take limit (b ++ take count chunk) ≡ b ++ take within chunk = take-append_take limit total count b chunk (sym all) small ∙ ap (λ (n : ℕ). b ++ take n chunk) (sym is) in
    record {
      parts = ap (λ r. r ++ unseen chunk 0 within) seen ∙ (ap (λ (n : ℕ). b ++ take n chunk) zero ∙ sym now);
      size = sym (ap length now ∙ (length-append b (take within chunk) ∙ omega (arith, length-take within chunk)));
      more = nat_lt-same within count limit (length (b ++ take count chunk)) (omega (arith, length-append b (take count chunk), length-take count chunk)) (omega (arith, length-append b (take count chunk), length-take count chunk));
    }

-- the reader behind a read
pub filled : (r q : Reader) (count within : ℕ) (bytes : List ℕ) (lines : List (List ℕ)) (before : List ℕ) → IsSpent r → q.at ≡ 0 → q.end ≡ within → q.total ≡ r.total + within → q.beyond ≡ nat_lt within count
    → within ≡ min count (limit - r.total) → 0 < count → count ≤ length q.chunk → r.total ≤ limit → IsAt r bytes lines before → IsAt q (bytes ++ take count q.chunk) lines before
filled r q count within bytes lines before spent at end total beyond is some fits small m =
    let on = looked_on r.chunk q.chunk r.at r.end r.total count within bytes m.looked spent.used is some fits small
    (subst (λ b. HasLooked (unseen r.chunk r.at r.end) r.total b bytes m.looked) spent.within m.seen) in
    record {
      looked = m.looked;
      seen = record {
        parts = ap (λ k. m.looked ++ unseen q.chunk k q.end) at ∙ (ap (λ k. m.looked ++ unseen q.chunk 0 k) end ∙ on.parts);
        size = total ∙ on.size;
        more = beyond ∙ on.more;
      };
      given = m.given;
      behind = m.behind;
    }
