-- The words of a text, cut at its first space.
use Rattle.std.proofs.Common.{◌≡◌, ◌≢◌, ℕ, suc, ◌+◌, ◌<◌, ◌≤◌, Bool, true, false, nat_eq, List, [], ◌∷◌, ◌++◌, length, get_or, refl, arith, if◌then◌else◌}
use Rattle.std.proofs.lemmas.Bool.Decides.{nat_tests}
use Rattle.command_line.specs.SpacedWords.{with_first, words_in}

-- no byte is a space
abbrev pub HasNoSpace : List ℕ → Type 0
HasNoSpace w = (i : ℕ) → i < length w → get_or w i 0 ≢ 32

rest_has_none : (b : ℕ) (w : List ℕ) → HasNoSpace (b ∷ w) → HasNoSpace w
rest_has_none b w h i l = h (suc i) (omega (arith, l))

first_is_none : (b : ℕ) (w : List ℕ) → HasNoSpace (b ∷ w) → nat_eq b 32 ≡ false
first_is_none b w h = let differs : b ≢ 32 = h 0 (omega arith) in grind (arith, nat_tests)

-- a text without a space is one word
pub words-one : (w : List ℕ) → HasNoSpace w → words_in w ≡ w ∷ []
words-one [] h = refl
words-one (b ∷ w) h = rw (first_is_none b w h, words-one w (rest_has_none b w h)) refl

-- what stands before the first space is the first word
pub words-cut : (w rest : List ℕ) → HasNoSpace w → words_in (w ++ (32 ∷ rest)) ≡ w ∷ words_in rest
words-cut [] rest h = refl
words-cut (b ∷ w) rest h = rw (first_is_none b w h, words-cut w rest (rest_has_none b w h)) refl

with_first-some : (b : ℕ) (words : List (List ℕ)) → with_first b words ≢ []
with_first-some b [] e = cc
with_first-some b (word ∷ words) e = cc

either-some : (c : Bool) (words : List (List ℕ)) (b : ℕ) → (if c then [] ∷ words else with_first b words) ≢ []
either-some true words b e = cc
either-some false words b e = with_first-some b words e

-- every text has a word, be it empty
pub words-some : (text : List ℕ) → words_in text ≢ []
words-some [] e = cc
words-some (b ∷ rest) e = either-some (nat_eq b 32) (words_in rest) b e

-- a text has at most one word more than bytes
few_either : (c : Bool) (words : List (List ℕ)) (b : ℕ) (n : ℕ) → length words ≤ n + 1
    → length (if c then [] ∷ words else with_first b words) ≤ suc n + 1
few_either true words b n few = omega (arith, few)
few_either false [] b n few = omega arith
few_either false (word ∷ words) b n few = omega (arith, few)

pub few_words : (text : List ℕ) → length (words_in text) ≤ length text + 1
few_words [] = omega arith
few_words (b ∷ rest) = few_either (nat_eq b 32) (words_in rest) b (length rest) (few_words rest)
