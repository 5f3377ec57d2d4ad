-- The digits at the start of a text.
use Rattle.std.proofs.Common.{◌≡◌, ℕ, ◌<◌, ◌≤◌, ◌-◌, Bool, true, false, cond, ◌&&◌, ◌==◌, List, [], ◌∷◌, length, take, drop, Ok, Err, zero, suc, refl, ◌∙◌, sym, ap, arith}
use Rattle.std.specs.Prelude.{slice_index}
use Rattle.std.specs.List.{list_all}
use Rattle.std.specs.Char.{is_ascii_digit}
use Rattle.std.proofs.lemmas.Bool.Decides.{nat_tests}
use Rattle.std.proofs.lemmas.List.{take_rest, take-take, length-take}
use Rattle.cal_types.proofs.DateTests.{and-left, and-right}
use Rattle.word_values.specs.Numbers.{AreLeadingDigits, digits_value}
use Rattle.date_lines.specs.Reading.{Reading, digit_count, digits_read}

counted : (most : ℕ) (text : List ℕ) (count : ℕ) → count ≤ length (take most text) → list_all is_ascii_digit (take count (take most text)) ≡ true
    → (count < length (take most text) → is_ascii_digit (slice_index (take most text) count) ≡ false) → digit_count most text ≡ count
counted zero text count within digits stop = omega arith
counted (suc most) [] count within digits stop = omega arith
counted (suc most) (b ∷ text) zero within digits stop = ap (λ t. cond t (suc (digit_count most text)) 0) (stop (omega arith))
counted (suc most) (b ∷ text) (suc count) within digits stop =
    let first = and-left (is_ascii_digit b) (list_all is_ascii_digit (take count (take most text))) digits in
    let others = and-right (is_ascii_digit b) (list_all is_ascii_digit (take count (take most text))) digits in
    ap (λ t. cond t (suc (digit_count most text)) 0) first ∙ ap suc (counted most text count (omega arith) others (λ lt. stop (omega arith)))

-- as many digits as the text begins with
pub digits_ahead : (most : ℕ) (text : List ℕ) (count value : ℕ) → AreLeadingDigits (take most text) count value → digit_count most text ≡ count
digits_ahead most text count value ahead = counted most text count ahead.within ahead.digits ahead.stop

pub digits_taken : (most : ℕ) (text : List ℕ) (count value : ℕ) → AreLeadingDigits (take most text) count value → 0 < count
    → ◌≡◌ {A = Reading ℕ} (Ok (value, take (length text - count) (drop count text))) (digits_read most text)
digits_taken most text count value ahead more =
    let some : (count == 0) ≡ false = grind (arith, nat_tests) in
    let same : digits_value (take count text) ≡ value =
    ap digits_value (sym (take-take count most text (omega (arith, ahead.within, length-take most text)))) ∙ sym ahead.spell in
    let right : digits_read most text ≡ Ok (value, drop count text) =
    ap (λ n. cond (n == 0) (Err text) (Ok (digits_value (take n text), drop n text))) (digits_ahead most text count value ahead)
    ∙ (ap (λ t. cond t (Err text) (Ok (digits_value (take count text), drop count text))) some ∙ ap (λ n. Ok (n, drop count text)) same) in
    ap (λ r. Ok (value, r)) (take_rest text count) ∙ sym right

pub no_digits : (most : ℕ) (text : List ℕ) (count value : ℕ) → AreLeadingDigits (take most text) count value → count ≡ 0
    → ◌≡◌ {A = Reading ℕ} (Err text) (digits_read most text)
no_digits most text count value ahead none =
    sym (ap (λ n. cond (n == 0) (Err text) (Ok (digits_value (take n text), drop n text))) (digits_ahead most text count value ahead ∙ none))
