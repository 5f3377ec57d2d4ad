-- A number at the head of a text: it is read without a look for the space behind it.
use Rattle.std.proofs.Common.{◌≡◌, ◌<◌, ◌≤◌, ◌⊎◌, inl, inr, ℕ, Bool, true, false, cond, ◌==◌, ◌&&◌, List, [], ◌∷◌, ◌++◌, ◌+◌, Some, None, length, take, drop, refl, ◌∙◌, sym, ap, arith}
use Rattle.std.specs.Prelude.{nat_lt, nat_le, slice_index, option_map}
use Rattle.std.specs.List.{list_all, onto_first}
use Rattle.std.specs.Char.{is_ascii_digit}
use Rattle.std.proofs.lemmas.Bool.Decides.{nat_tests}
use Rattle.std.proofs.lemmas.List.{take-append-drop, append-nil, length-append, length-take, length-drop, take-take, get_or-take, get_or-drop}
use borrow.Author.Tests.{ltb-true, ltb-false}
use Rattle.cal_types.proofs.DateTests.{and-left, and-right, true-and}
use Rattle.word_values.specs.Numbers.{number_of, digits_value, AreLeadingDigits}
use Rattle.request_lines.specs.Words.{words_of}
use Rattle.request_lines.specs.Reading.{next_word}
use Rattle.request_lines.specs.Taking.{is_no_space}
use Rattle.request_lines.proofs.TakingLemmas.{parted, key_before}

pub digit-no_space : (b : ℕ) → is_ascii_digit b ≡ true → is_no_space b ≡ true
digit-no_space b h = grind (arith, nat_tests)

digits-no_space : (word : List ℕ) → list_all is_ascii_digit word ≡ true → list_all is_no_space word ≡ true
digits-no_space [] h = refl
digits-no_space (b ∷ word) h =
    true-and (is_no_space b) (list_all is_no_space word)
    (digit-no_space b (and-left (is_ascii_digit b) (list_all is_ascii_digit word) h))
    (digits-no_space word (and-right (is_ascii_digit b) (list_all is_ascii_digit word) h))

other_digit : (ds more : List ℕ) (c : ℕ) → is_ascii_digit c ≡ false → list_all is_ascii_digit (ds ++ (c ∷ more)) ≡ false
other_digit [] more c h = ap (λ t. t && list_all is_ascii_digit more) h
other_digit (d ∷ ds) more c h = ap (λ t. is_ascii_digit d && t) (other_digit ds more c h) ∙ by (is_ascii_digit d)
  where
    by : (t : Bool) → (t && false) ≡ false
    by true = refl
    by false = refl

no_number : (most : ℕ) (word : List ℕ) → (most < length word) ⊎ (list_all is_ascii_digit word ≡ false) → number_of most word ≡ None
no_number most word (inl long) = ap (λ t. cond t (Some (digits_value word)) None) (by (nat_lt 0 (length word)) (nat_le (length word) most) too_long)
  where
    too_long : nat_le (length word) most ≡ false
    too_long = grind (arith, nat_tests)

    by : (a b : Bool) → b ≡ false → ((a && b) && list_all is_ascii_digit word) ≡ false
    by true b h = ap (λ t. t && list_all is_ascii_digit word) h
    by false b h = refl
no_number most word (inr other) = ap (λ t. cond t (Some (digits_value word)) None) (by (nat_lt 0 (length word) && nat_le (length word) most) (list_all is_ascii_digit word) other)
  where
    by : (a b : Bool) → b ≡ false → (a && b) ≡ false
    by true b h = h
    by false b h = refl

a_number : (most : ℕ) (word : List ℕ) → 0 < length word → length word ≤ most → list_all is_ascii_digit word ≡ true
    → number_of most word ≡ Some (digits_value word)
a_number most word some fits digits =
    let has : nat_lt 0 (length word) ≡ true = grind (arith, nat_tests) in
    let short : nat_le (length word) most ≡ true = grind (arith, nat_tests) in
    ap (λ t. cond t (Some (digits_value word)) None)
    (true-and (nat_lt 0 (length word) && nat_le (length word) most) (list_all is_ascii_digit word) (true-and (nat_lt 0 (length word)) (nat_le (length word) most) has short) digits)

-- a text that begins with digits, of which at most so many are read
module _ (most : ℕ) (text : List ℕ) (count value : ℕ) (ahead : AreLeadingDigits (take most text) count value) where
  fits : count ≤ most
  fits = omega (arith, ahead.within, length-take most text)

  same : take count (take most text) ≡ take count text
  same = take-take count most text fits

  digits : list_all is_ascii_digit (take count text) ≡ true
  digits = ap (list_all is_ascii_digit) (sym same) ∙ ahead.digits

  long : length (take count text) ≡ count
  long = omega (arith, ahead.within, length-take most text, length-take count text)

  whole : (rest : List ℕ) → drop count text ≡ rest → text ≡ take count text ++ rest
  whole rest e = sym (take-append-drop count text) ∙ ap (λ l. take count text ++ l) e

  spelled : 0 < count → number_of most (take count text) ≡ Some value
  spelled some =
      a_number most (take count text) (omega (arith, long, some)) (omega (arith, long, fits)) digits
      ∙ ap Some (ap digits_value (sym same) ∙ sym ahead.spell)

  -- the word of the digits ends the text
  pub last_number : 0 < count → drop count text ≡ [] → next_word (number_of most) (words_of text) ≡ Some (value, [])
  last_number some none =
      ap (λ t. next_word (number_of most) (words_of t)) (whole [] none)
      ∙ (ap (next_word (number_of most)) (key_before (take count text) [] [] [] (digits-no_space (take count text) digits) refl)
      ∙ (ap (λ w. option_map (λ n. (n, [])) (number_of most w)) (append-nil (take count text)) ∙ ap (option_map (λ n. (n, []))) (spelled some)))

  -- others stand behind it
  pub number_taken : (others : List ℕ) → 0 < count → drop count text ≡ 32 ∷ others → next_word (number_of most) (words_of text) ≡ Some (value, words_of others)
  number_taken others some more =
      ap (λ t. next_word (number_of most) (words_of t)) (whole (32 ∷ others) more)
      ∙ (ap (next_word (number_of most)) (key_before (take count text) (32 ∷ others) [] (words_of others) (digits-no_space (take count text) digits) refl)
      ∙ (ap (λ w. option_map (λ n. (n, words_of others)) (number_of most w)) (append-nil (take count text)) ∙ ap (option_map (λ n. (n, words_of others))) (spelled some)))

  -- the byte behind the digits is no digit, or there are as many as are read
  stops : (c : ℕ) (more : List ℕ) → drop count text ≡ c ∷ more → (count ≡ most) ⊎ (is_ascii_digit c ≡ false)
  stops c more is = by (nat_lt count (length (take most text))) refl
    where
      by : (t : Bool) → nat_lt count (length (take most text)) ≡ t → (count ≡ most) ⊎ (is_ascii_digit c ≡ false)
      by false e = inl (omega (arith, ltb-false count (length (take most text)) e, ahead.within, length-take most text, length-drop count text, ap length is))
      by true e =
          let within = ltb-true count (length (take most text)) e in
          let at : slice_index (take most text) count ≡ slice_index text count = get_or-take most text count 0 (omega (arith, within, length-take most text)) in
          let start : count ≡ count + 0 = omega arith in
          let head : slice_index text count ≡ c = ap (slice_index text) start ∙ (sym (get_or-drop count text 0 0) ∙ ap (λ l. slice_index l 0) is) in
          inr (ap is_ascii_digit (sym (at ∙ head)) ∙ ahead.stop within)

  -- the word goes on, and is no number
  pub no_number_stands : (c : ℕ) (more : List ℕ) → (c == 32) ≡ false → drop count text ≡ c ∷ more → next_word (number_of most) (words_of text) ≡ None
  no_number_stands c more other is =
      let p = parted more in
      let first : words_of (c ∷ more) ≡ (c ∷ p.word) ∷ p.words = ap (λ b. cond b ([] ∷ words_of more) (onto_first c (words_of more))) other ∙ ap (onto_first c) p.is in
      ap (λ t. next_word (number_of most) (words_of t)) (whole (c ∷ more) is)
      ∙ (ap (next_word (number_of most)) (key_before (take count text) (c ∷ more) (c ∷ p.word) p.words (digits-no_space (take count text) digits) first)
      ∙ ap (option_map (λ n. (n, p.words))) (no_number most (take count text ++ (c ∷ p.word)) (by (stops c more is) p.word)))
    where
      by : (count ≡ most) ⊎ (is_ascii_digit c ≡ false) → (word : List ℕ)
          → (most < length (take count text ++ (c ∷ word))) ⊎ (list_all is_ascii_digit (take count text ++ (c ∷ word)) ≡ false)
      by (inl full) word = inl (omega (arith, full, long, length-append (take count text) (c ∷ word)))
      by (inr no_digit) word = inr (other_digit (take count text) word c no_digit)
