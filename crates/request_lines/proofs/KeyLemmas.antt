-- Readings of the next word, by choices between known words and keys.
use Rattle.std.proofs.Common.{◌≡◌, ℕ, ◌<◌, Bool, true, false, cond, List, [], ◌∷◌, Option, Some, None, MatchOption, codes, if◌then◌else◌, length, drop, refl, ◌∙◌, sym, ap, arith}
use Rattle.std.specs.Option.{option_map, option_and_then}
use Rattle.cal_types.specs.Bag.{Bag}
use Rattle.request_lines.specs.Words.{is_text}
use Rattle.request_lines.specs.Reading.{next_word, IsReading}
use Rattle.request_lines.specs.Bags.{Field, has_key, with_field, with_word, bag_before_to, bag_of_all}
use Rattle.request_lines.specs.Taking.{after_word, after_key, IsTaken}

-- what was read, beside the words that are left
abbrev pub with_words : {T : Type 0} → List (List ℕ) → Option T → Option (T × List (List ℕ))
with_words {T} words o = option_map {U = T × List (List ℕ)} (λ y. (y, words)) o

-- a choice by a key
module _ {T : Type 0} (key : List ℕ) (make : T → Field) (read : List ℕ → Option T) (rest : List ℕ → Option Field) (bag : Bag) where
  abbrev keyed : List ℕ → Option Bag
  keyed word = option_and_then (with_field bag) (if has_key key word then option_map make (read (drop (length key) word)) else rest word)

  abbrev valued : List ℕ → Option Bag
  valued value = option_and_then (with_field bag) (option_map make (read value))

  key_read : (words mid : List (List ℕ)) → after_key key words ≡ Some mid → next_word keyed words ≡ next_word valued mid
  key_read [] mid e = cc
  key_read (word ∷ words) mid e = by (has_key key word) e
    where
      by : (t : Bool) → cond t (Some (drop (length key) word ∷ words)) None ≡ Some mid
          → with_words words (option_and_then (with_field bag) (cond t (option_map make (read (drop (length key) word))) (rest word))) ≡ next_word valued mid
      by true e = let same : drop (length key) word ∷ words ≡ mid = cc in ap (next_word valued) same
      by false e = cc

  pub other_key : (words : List (List ℕ)) → after_key key words ≡ None → next_word keyed words ≡ next_word (λ word. option_and_then (with_field bag) (rest word)) words
  other_key [] e = refl
  other_key (word ∷ words) e = by (has_key key word) e
    where
      by : (t : Bool) → cond t (Some (drop (length key) word ∷ words)) None ≡ None
          → with_words words (option_and_then (with_field bag) (cond t (option_map make (read (drop (length key) word))) (rest word)))
          ≡ with_words words (option_and_then (with_field bag) (rest word))
      by true e = cc
      by false e = refl

  value_fails : (mid : List (List ℕ)) → next_word read mid ≡ None → next_word valued mid ≡ None
  value_fails [] e = refl
  value_fails (value ∷ words) e = by (read value) e
    where
      by : (o : Option T) → with_words words o ≡ None → with_words words (option_and_then (with_field bag) (option_map make o)) ≡ None
      by None e = refl
      by (Some x) e = cc

  value_sets : (mid left : List (List ℕ)) (x : T) → next_word read mid ≡ Some (x, left) → next_word valued mid ≡ with_words left (with_field bag (make x))
  value_sets [] left x e = cc
  value_sets (value ∷ words) left x e = by (read value) e
    where
      by : (o : Option T) → with_words words o ≡ Some (x, left)
          → with_words words (option_and_then (with_field bag) (option_map make o)) ≡ with_words left (with_field bag (make x))
      by None e = cc
      by (Some z) e =
          let pair : ◌≡◌ {A = T × List (List ℕ)} (z, words) (x, left) = cc in
          ap (λ (p : T × List (List ℕ)). with_words p.1 (with_field bag (make p.0))) pair

  -- the value of the key can't be read
  pub key_fails : (words mid : List (List ℕ)) → after_key key words ≡ Some mid → next_word read mid ≡ None → next_word keyed words ≡ None
  key_fails words mid taken fails = key_read words mid taken ∙ value_fails mid fails

  -- the field is set, or was before
  pub key_sets : {U : Type 0} (words mid left : List (List ℕ)) (x : T) (result : Option U) (new : Bag) → after_key key words ≡ Some mid → next_word read mid ≡ Some (x, left)
      → MatchOption result (with_field bag (make x) ≡ None) (λ _. with_field bag (make x) ≡ Some new)
      → IsReading (next_word keyed words) (option_map (λ _. new) result) left
  key_sets words mid left x None new taken reads set = key_read words mid taken ∙ (value_sets mid left x reads ∙ ap (with_words left) set)
  key_sets words mid left x (Some u) new taken reads set = key_read words mid taken ∙ (value_sets mid left x reads ∙ ap (with_words left) set)

  pub key_missed : (taken : Bool) (words left : List (List ℕ)) → IsTaken taken (after_key key words) words left → taken ≡ false
      → next_word keyed words ≡ next_word (λ word. option_and_then (with_field bag) (rest word)) left
  key_missed true words left h e = cc
  key_missed false words left h e = other_key words h.0 ∙ ap (next_word (λ word. option_and_then (with_field bag) (rest word))) (sym h.1)

pub was_taken : (taken : Bool) (after : Option (List (List ℕ))) (old new : List (List ℕ)) → IsTaken taken after old new → taken ≡ true → after ≡ Some new
was_taken true after old new h e = h
was_taken false after old new h e = cc

-- each reading takes a word
pub fewer_left : {T : Type 0} (read : List ℕ → Option T) (words left : List (List ℕ)) (x : T) → next_word read words ≡ Some (x, left) → length left < length words
fewer_left read [] left x e = cc
fewer_left {T} read (word ∷ words) left x e = by (read word) e
  where
    by : (o : Option T) → with_words words o ≡ Some (x, left) → length left < length (word ∷ words)
    by None e = cc
    by (Some z) e =
        let pair : ◌≡◌ {A = T × List (List ℕ)} (z, words) (x, left) = cc in
        let same : words ≡ left = ap (λ (p : T × List (List ℕ)). p.1) pair in
        omega (arith, ap length same)

bag_stays : (bag : Bag) (word : List ℕ) (words : List (List ℕ)) → after_word (codes "to") (word ∷ words) ≡ None → bag_before_to (Some bag) (word ∷ words) ≡ bag_before_to (with_word bag word) words
bag_stays bag word words e = by (is_text word (codes "to")) e
  where
    by : (t : Bool) → cond t (Some words) None ≡ None → cond t (Some (bag, words)) (bag_before_to (with_word bag word) words) ≡ bag_before_to (with_word bag word) words
    by true e = cc
    by false e = refl

-- what the next word does to a bag, read on by f
read_on : {T : Type 0} (f : Option Bag → List (List ℕ) → T) (bag next : Bag) (word : List ℕ) (words left : List (List ℕ))
    → next_word (with_word bag) (word ∷ words) ≡ Some (next, left) → f (with_word bag word) words ≡ f (Some next) left
read_on {T} f bag next word words left e = by (with_word bag word) e
  where
    by : (o : Option Bag) → with_words words o ≡ Some (next, left) → f o words ≡ f (Some next) left
    by None e = cc
    by (Some z) e =
        let pair : ◌≡◌ {A = Bag × List (List ℕ)} (z, words) (next, left) = cc in
        ap (λ (p : Bag × List (List ℕ)). f (Some p.0) p.1) pair

read_none : (bag : Bag) (word : List ℕ) (words : List (List ℕ)) → next_word (with_word bag) (word ∷ words) ≡ None → with_word bag word ≡ None
read_none bag word words e = by (with_word bag word) e
  where
    by : (o : Option Bag) → with_words words o ≡ None → o ≡ None
    by None e = refl
    by (Some z) e = cc

pub bag_goes_on : (bag next : Bag) (words left : List (List ℕ)) → after_word (codes "to") words ≡ None → next_word (with_word bag) words ≡ Some (next, left)
    → bag_before_to (Some bag) words ≡ bag_before_to (Some next) left
bag_goes_on bag next [] left stays e = cc
bag_goes_on bag next (word ∷ words) left stays e = bag_stays bag word words stays ∙ read_on bag_before_to bag next word words left e

pub bag_fails : (bag : Bag) (words : List (List ℕ)) → after_word (codes "to") words ≡ None → next_word (with_word bag) words ≡ None → bag_before_to (Some bag) words ≡ None
bag_fails bag [] stays e = refl
bag_fails bag (word ∷ words) stays e = bag_stays bag word words stays ∙ ap (λ o. bag_before_to o words) (read_none bag word words e)

-- a bag of all words
pub all_go_on : (bag next : Bag) (words left : List (List ℕ)) → next_word (with_word bag) words ≡ Some (next, left) → bag_of_all (Some bag) words ≡ bag_of_all (Some next) left
all_go_on bag next [] left e = cc
all_go_on bag next (word ∷ words) left e = read_on bag_of_all bag next word words left e

pub all_fail : (bag : Bag) (words : List (List ℕ)) → (words ≡ [] → ⊥) → next_word (with_word bag) words ≡ None → bag_of_all (Some bag) words ≡ None
all_fail bag [] some e = absurd (some refl)
all_fail bag (word ∷ words) some e = ap (λ o. bag_of_all o words) (read_none bag word words e)
