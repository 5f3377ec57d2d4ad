-- A word that stands by itself is all the words of its text.
use Rattle.std.proofs.Common.{◌≡◌, ℕ, Bool, true, false, cond, not, ◌==◌, ◌&&◌, List, [], ◌∷◌, Option, Some, None, refl, ◌∙◌, sym, ap, subst}
use Rattle.std.proofs.lemmas.List.{append-nil}
use Rattle.std.specs.List.{list_all}
use Rattle.std.specs.Option.{option_map}
use Rattle.cal_types.specs.Bag.{Bag}
use Rattle.request_lines.specs.Words.{words_of}
use Rattle.request_lines.specs.Bags.{is_word_byte, with_word, with_whole_word}
use Rattle.request_lines.specs.Reading.{IsReading, next_word}
use Rattle.request_lines.specs.Taking.{is_no_space}
use Rattle.request_lines.proofs.TakingLemmas.{key_before}

no_space : (word : List ℕ) → list_all is_word_byte word ≡ true → list_all is_no_space word ≡ true
no_space [] h = refl
no_space (b ∷ word) h = by (b == 32) (b == 10) h (no_space word)
  where
    by : (space feed : Bool) → ((not space && not feed) && list_all is_word_byte word) ≡ true → (list_all is_word_byte word ≡ true → list_all is_no_space word ≡ true) → (not space && list_all is_no_space word) ≡ true
    by true feed h more = cc
    by false true h more = cc
    by false false h more = more h

-- it is the only word
pub only_word : (word : List ℕ) → list_all is_word_byte word ≡ true → words_of word ≡ word ∷ []
only_word word h = subst (λ (w : List ℕ). words_of w ≡ w ∷ []) (append-nil word) (key_before word [] [] [] (no_space word h) refl)

-- the bag with the field that was read of it
pub whole_read : (bag new : Bag) (word : List ℕ) (r : Option (Unit {0})) (left : List (List ℕ)) → list_all is_word_byte word ≡ true → IsReading (next_word (with_word bag) (words_of word)) (option_map (λ _. new) r) left → option_map (λ _. new) r ≡ with_whole_word bag word
whole_read bag new word r left plain read =
    by (with_word bag word) r (subst (λ (ws : List (List ℕ)). IsReading (next_word (with_word bag) ws) (option_map (λ _. new) r) left) (only_word word plain) read)
    ∙ ap (λ (b : Bool). cond b (with_word bag word) None) (sym plain)
  where
    by : (o : Option Bag) (r : Option (Unit {0})) → IsReading (option_map (λ x. (x, [])) o) (option_map (λ _. new) r) left → option_map (λ _. new) r ≡ o
    by None None e = refl
    by None (Some x) e = cc
    by (Some x) None e = cc
    by (Some x) (Some y) e =
        let pair : ◌≡◌ {A = Bag × List (List ℕ)} (x, []) (new, left) = cc in
        ap (λ (p : Bag × List (List ℕ)). Some p.0) (sym pair)
