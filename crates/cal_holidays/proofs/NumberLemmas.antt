-- Numbers that digits spell.
use Rattle.std.proofs.Common.{◌≡◌, ℕ, ◌+◌, ◌-◌, ◌*◌, ◌^◌, ◌<◌, ◌≤◌, Bool, true, false, ◌&&◌, nat_le, nat_lt, if◌then◌else◌, List, [], ◌∷◌, length, fold, Option, Some, None, refl, sym, arith}
use Rattle.std.specs.Char.{is_ascii_digit}
use Rattle.std.specs.Prelude.{IfSome}
use Rattle.std.specs.List.{list_all}
use Rattle.std.proofs.lemmas.Bool.{and_parts}
use Rattle.std.proofs.lemmas.Bool.Decides.{nat_tests}
use Rattle.std.proofs.lemmas.Nat.{mul-le}
use Rattle.std.proofs.Math.Nat.{pow-suc, pow-le-pow_right}
use Rattle.word_values.specs.Numbers.{digits_value, is_number, number_of}

abbrev step : ℕ → ℕ → ℕ
step n c = n * 10 + (c - 48)

digit-small : (c : ℕ) → is_ascii_digit c ≡ true → c - 48 ≤ 9
digit-small c h = grind (arith, nat_tests)

ten_more : (n d p : ℕ) → d ≤ 9 → (n * 10 + d + 1) * p ≤ (n + 1) * (p * 10)
ten_more n d p small =
    let more : n * 10 + d + 1 ≤ (n + 1) * 10 = omega (arith, small) in
    let times : (n * 10 + d + 1) * p ≤ (n + 1) * 10 * p = mul-le (n * 10 + d + 1) p ((n + 1) * 10) p more (omega arith) in
    grind (arith, times)

fold-small : (word : List ℕ) (n : ℕ) → list_all is_ascii_digit word ≡ true → fold step n word < (n + 1) * 10 ^ length word
fold-small [] n digits = omega arith
fold-small (c ∷ word) n digits =
    let each = and_parts (is_ascii_digit c) (list_all is_ascii_digit word) digits in
    let behind = fold-small word (step n c) each.1 in
    let here = ten_more n (c - 48) (10 ^ length word) (digit-small c each.0) in
    rw (pow-suc 10 (length word)) (omega (arith, behind, here))

-- a number of so many digits
pub number-small : (most : ℕ) (word : List ℕ) (n : ℕ) → number_of most word ≡ Some n → n < 10 ^ most
number-small most word n h = by_test (is_number most word) refl h
  where
    by_test : (b : Bool) → is_number most word ≡ b → (if b then Some (digits_value word) else None) ≡ Some n → n < 10 ^ most
    by_test false other h = absurd cc
    by_test true is h =
        let parts = and_parts (nat_lt 0 (length word) && nat_le (length word) most) (list_all is_ascii_digit word) is in
        let sizes = and_parts (nat_lt 0 (length word)) (nat_le (length word) most) parts.0 in
        let within : length word ≤ most = grind (arith, nat_tests, sizes.1) in
        let same : digits_value word ≡ n = cc in
        let small = fold-small word 0 parts.1 in
        let more : 10 ^ length word ≤ 10 ^ most = pow-le-pow_right (omega arith) within in
        omega (arith, small, more, same)

pub small-if : (most : ℕ) (word : List ℕ) (o : Option ℕ) → o ≡ number_of most word → IfSome o (λ n. n < 10 ^ most)
small-if most word None e = tt
small-if most word (Some n) e = number-small most word n (sym e)
