-- The letters of an era's code are a text that fits.
use Rattle.std.proofs.Common.{◌≡◌, ℕ, ◌≤◌, true, ◌&&◌, List, [], ◌∷◌, length, refl, arith}
use Rattle.std.specs.Prelude.{nat_lt, nat_le}
use Rattle.std.specs.List.{list_all}
use Rattle.std.proofs.lemmas.Bool.Decides.{nat_tests}
use Rattle.cal_types.specs.Text.{IsText, is_text_byte}
use Rattle.cal_types.proofs.DateTests.{and-left, and-right, true-and}
use Rattle.request_lines.specs.Rows.{is_code_letter, is_era_code}

letter-text : (b : ℕ) → is_code_letter b ≡ true → is_text_byte b ≡ true
letter-text b h = grind (arith, nat_tests)

letters-text : (word : List ℕ) → list_all is_code_letter word ≡ true → IsText word
letters-text [] h = refl
letters-text (b ∷ word) h =
    true-and (is_text_byte b) (list_all is_text_byte word)
    (letter-text b (and-left (is_code_letter b) (list_all is_code_letter word) h))
    (letters-text word (and-right (is_code_letter b) (list_all is_code_letter word) h))

pub code-text : (word : List ℕ) → is_era_code word ≡ true → IsText word
code-text word h =
    letters-text word (and-right (nat_lt 0 (length word) && nat_le (length word) 8) (list_all is_code_letter word) h)

pub code-fits : (word : List ℕ) → is_era_code word ≡ true → length word ≤ 8
code-fits word h =
    let sizes = and-left (nat_lt 0 (length word) && nat_le (length word) 8) (list_all is_code_letter word) h in
    let most : nat_le (length word) 8 ≡ true = and-right (nat_lt 0 (length word)) (nat_le (length word) 8) sizes in
    grind (arith, nat_tests)
