-- The prefix of a line, as bytes follow.
use Rattle.std.proofs.Common.{◌≡◌, ℕ, ◌+◌, ◌-◌, ◌<◌, ◌≤◌, min, Bool, true, List, ◌++◌, length, take, arith, ◌∙◌, sym, ap, nat_lt, ⊎_elim}
use Rattle.std.proofs.lemmas.List.{take-append-le, take_all, length-take, length-append, append-nil}
use Rattle.std.proofs.Math.Seq.{take-append-add}
use Rattle.std.proofs.lemmas.Bool.{cases_lt, lt-ltb}
use Rattle.std.proofs.lemmas.Grind.{common_steps}

pub take-append : (n : ℕ) (items line bytes : List ℕ) → items ≡ take n line → take n (line ++ bytes) ≡ items ++ take (n - length items) bytes
take-append n items line bytes e =
    ⊎_elim
    (λ (short : length line < n).
    let whole : items ≡ line = e ∙ take_all n line (omega arith) in
    let left : n ≡ length line + (n - length items) = omega (arith, ap length whole) in
    ap (λ (m : ℕ). take m (line ++ bytes)) left ∙ (take-append-add line bytes (n - length items) ∙ ap (λ r. r ++ take (n - length items) bytes) (sym whole)))
    (λ (long : n ≤ length line).
    let none : n - length items ≡ 0 = omega (arith, ap length e, length-take n line) in
    take-append-le n line bytes long ∙ (sym e ∙ (sym (append-nil items) ∙ ap (λ (m : ℕ). items ++ take m bytes) (sym none))))
    (cases_lt (length line) n)

-- more bytes came than there is room for
pub over-more : (n count : ℕ) (items line bytes : List ℕ) → items ≡ take n line → count ≡ min (length bytes) (n - length items) → count < length bytes → true ≡ nat_lt n (length (line ++ bytes))
over-more n count items line bytes e is more = sym (lt-ltb n (length (line ++ bytes)) (omega (arith, length-append line bytes, ap length e, length-take n line)))

-- all bytes found room
pub over-fits : (n count : ℕ) (items line bytes : List ℕ) (over : Bool) → items ≡ take n line → count ≡ min (length bytes) (n - length items) → length bytes ≤ count → over ≡ nat_lt n (length line) → over ≡ nat_lt n (length (line ++ bytes))
over-fits n count items line bytes over e is fits was = grind (arith, common_steps, length-append line bytes, ap length e, length-take n line)

pub min_take : (count room : ℕ) (bytes : List ℕ) → count ≡ min (length bytes) room → take count bytes ≡ take room bytes
min_take count room bytes is =
    ⊎_elim
    (λ (few : length bytes < room). take_all count bytes (omega arith) ∙ sym (take_all room bytes (omega arith)))
    (λ (many : room ≤ length bytes). ap (λ (m : ℕ). take m bytes) (omega arith))
    (cases_lt (length bytes) room)
