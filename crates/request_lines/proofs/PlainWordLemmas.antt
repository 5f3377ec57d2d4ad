-- The first word of a text, in the form that most have, says a field.
use Rattle.std.proofs.Common.{◌≡◌, ◌<◌, ℕ, pos, Bool, true, false, cond, ◌==◌, ◌&&◌, nat_eq, nat_le, List, [], ◌∷◌, ◌++◌, ◌+◌, ◌-◌, ◌*◌, Option, Some, None, length, take, drop, refl, ◌∙◌, sym, ap, arith}
use Rattle.std.specs.Option.{option_map, option_and_then}
use Rattle.std.specs.List.{list_all}
use Rattle.std.specs.Char.{is_ascii_digit}
use Rattle.std.proofs.lemmas.Bool.Decides.{nat_tests}
use Rattle.std.proofs.lemmas.Option.{cond_some}
use Rattle.std.proofs.lemmas.List.{take-append-drop, append-nil, length-take, length-drop}
use Rattle.cal_types.proofs.DateTests.{and-left, and-right}
use Rattle.cal_types.specs.Month.{MonthParts, month_read}
use Rattle.word_values.specs.Numbers.{is_number, number_of, digits_value, minus, int_of, byte_of, byte_from}
use Rattle.request_lines.specs.Words.{is_text, words_of}
use Rattle.request_lines.specs.Reading.{next_word}
use Rattle.request_lines.specs.Bags.{Field, field_read}
use Rattle.request_lines.specs.BagForms.{IsKeyed, SaysField}
use Rattle.request_lines.specs.Taking.{is_no_space}
use Rattle.request_lines.proofs.BagLemmas.{same_text, some_pair, field_reads}
use Rattle.request_lines.proofs.NumberLemmas.{digit-no_space}
use Rattle.request_lines.proofs.KeyLemmas.{with_words}
use Rattle.request_lines.proofs.TakingLemmas.{parted, key_before}

-- what was read of the first word, and the words behind it
value_is : {T : Type 0} (o : Option T) (words left : List (List ℕ)) (x : T) → with_words words o ≡ Some (x, left)
    → (o ≡ Some x) × (words ≡ left)
value_is None words left x e = cc
value_is (Some z) words left x e = let same = some_pair z x words left e in (ap Some same.0, same.1)

-- a text that begins with a key, and then with a word that is the key's value
pub first_field : {T : Type 0} (make : T → Field) (key : List ℕ) (read : List ℕ → Option T) (text : List ℕ) (left : List (List ℕ)) (x : T)
    → ((word : List ℕ) → IsKeyed key read word x → SaysField word (make x))
    → list_all is_no_space key ≡ true → is_text (take (length key) text) key ≡ true
    → next_word read (words_of (drop (length key) text)) ≡ Some (x, left) → next_word field_read (words_of text) ≡ Some (make x, left)
first_field make key read text left x says plain has reads =
    let rest = drop (length key) text in
    let p = parted rest in
    let whole : text ≡ key ++ rest =
    sym (take-append-drop (length key) text) ∙ ap (λ l. l ++ rest) (same_text (take (length key) text) key has) in
    let value = value_is (read p.word) p.words left x (ap (next_word read) (sym p.is) ∙ reads) in
    let field : field_read (key ++ p.word) ≡ Some (make x) =
    field_reads (key ++ p.word) (make x) (says (key ++ p.word) (record { value = p.word; is = refl; reads = value.0 })) in
    ap (λ t. next_word field_read (words_of t)) whole
    ∙ (ap (next_word field_read) (key_before key rest p.word p.words plain p.is)
    ∙ (ap (with_words p.words) field ∙ ap (λ (w : List (List ℕ)). Some (make x, w)) value.1))

digit-no_minus : (b : ℕ) → is_ascii_digit b ≡ true → (b == 45) ≡ false
digit-no_minus b h = grind (arith, nat_tests)

-- a number without a minus
int_of-number : (word : List ℕ) (n : ℕ) → number_of 9 word ≡ Some n → int_of word ≡ Some (pos n)
int_of-number [] n e = cc
int_of-number (b ∷ word) n e =
    let digits = and-right _ (list_all is_ascii_digit (b ∷ word)) (cond_some (is_number 9 (b ∷ word)) (digits_value (b ∷ word)) n e).0 in
    let first = and-left (is_ascii_digit b) (list_all is_ascii_digit word) digits in
    ap (λ t. cond t (option_map minus (number_of 9 word)) (option_map pos (number_of 9 (b ∷ word)))) (digit-no_minus b first) ∙ ap (option_map pos) e

-- the first word is a number, so it is read as one with a sign
pub next_int-number : (words left : List (List ℕ)) (n : ℕ) → next_word (number_of 9) words ≡ Some (n, left)
    → next_word int_of words ≡ Some (pos n, left)
next_int-number [] left n e = cc
next_int-number (word ∷ words) left n e =
    let h = value_is (number_of 9 word) words left n e in
    ap (with_words words) (int_of-number word n h.0) ∙ ap (λ (w : List (List ℕ)). Some (pos n, w)) h.1

-- the first word is a small number, so it is read as a byte
pub next_byte-number : (words left : List (List ℕ)) (n : ℕ) → n < 100 → next_word (number_of 3) words ≡ Some (n, left)
    → next_word byte_of words ≡ Some (n, left)
next_byte-number [] left n small e = cc
next_byte-number (word ∷ words) left n small e =
    let h = value_is (number_of 3 word) words left n e in
    let fits : nat_le n 255 ≡ true = grind (arith, nat_tests) in
    ap (λ o. with_words words (option_and_then byte_from o)) h.0
    ∙ (ap (λ t. with_words words (cond t (Some n) None)) fits ∙ ap (λ (w : List (List ℕ)). Some (n, w)) h.1)

-- three bytes that are a month code have no space
month-no_space : (word : List ℕ) (m : MonthParts) → length word ≡ 3 → month_read word ≡ Some m → list_all is_no_space word ≡ true
month-no_space [] m long e = cc
month-no_space (a ∷ []) m long e = cc
month-no_space (a ∷ b ∷ []) m long e = cc
month-no_space (a ∷ b ∷ c ∷ []) m long e = by (nat_eq a 77) (is_ascii_digit b) (is_ascii_digit c) refl refl refl e
  where
    letter-no_space : nat_eq a 77 ≡ true → is_no_space a ≡ true
    letter-no_space h = grind (arith, nat_tests)

    by : (s t u : Bool) → nat_eq a 77 ≡ s → is_ascii_digit b ≡ t → is_ascii_digit c ≡ u
        → cond ((s && t) && u) (Some (record { number = 10 * (b - 48) + (c - 48); is_leap = false })) None ≡ Some m
        → list_all is_no_space (a ∷ b ∷ c ∷ []) ≡ true
    by true true true letter tens units e = rw (letter-no_space letter, digit-no_space b tens, digit-no_space c units) refl
    by true true false letter tens units e = cc
    by true false u letter tens units e = cc
    by false t u letter tens units e = cc
month-no_space (a ∷ b ∷ c ∷ d ∷ word) m long e = absurd (omega (arith, long))

-- a text that begins with three bytes, which are a month code, and a space
pub month_first : (text others : List ℕ) (m : MonthParts) → month_read (take 3 text) ≡ Some m → drop 3 text ≡ 32 ∷ others
    → next_word month_read (words_of text) ≡ Some (m, words_of others)
month_first text others m reads behind =
    let whole : text ≡ take 3 text ++ (32 ∷ others) = sym (take-append-drop 3 text) ∙ ap (λ l. take 3 text ++ l) behind in
    let three : length (take 3 text) ≡ 3 = omega (arith, length-take 3 text, length-drop 3 text, ap length behind) in
    let plain = month-no_space (take 3 text) m three reads in
    ap (λ t. next_word month_read (words_of t)) whole
    ∙ (ap (next_word month_read) (key_before (take 3 text) (32 ∷ others) [] (words_of others) plain refl)
    ∙ (ap (λ w. with_words (words_of others) (month_read w)) (append-nil (take 3 text)) ∙ ap (with_words (words_of others)) reads))
