-- Words that are known, and keys, at the head of a text.
use Rattle.std.proofs.Common.{◌≡◌, ◌≢◌, ◌<◌, eqb, ⊎_elim, ℕ, Bool, true, false, not, cond, ◌==◌, ◌&&◌, List, [], ◌∷◌, ◌++◌, Option, Some, None, length, take, drop, is_some, IsTrue, refl, ◌∙◌, sym, ap}
use Rattle.std.proofs.Common.{arith}
use Rattle.std.proofs.lemmas.Bool.{false≢true}
use Rattle.std.proofs.lemmas.Bool.Decides.{eqb_tells}
use Rattle.std.proofs.lemmas.List.{take-append-drop, append_assoc, append-nil, length-append, length-take}
use Rattle.std.proofs.Math.Seq.{take-append_seam, drop-append_seam, take-length}
use Rattle.std.specs.Borrow.{Bor}
use Rattle.std.specs.List.{onto_first, list_all}
use Rattle.request_lines.specs.Words.{is_text, words_of}
use Rattle.request_lines.specs.WordsLeft.{words_from}
use Rattle.request_lines.specs.Bags.{has_key}
use Rattle.request_lines.specs.Taking.{is_no_space, after_word, after_key}
use Rattle.request_lines.proofs.BagLemmas.{same_text, is_same_text}

-- the first word of a text, the words behind it, and the text behind it
pub record Parted (text : List ℕ) : Type 0 where
  pub word : List ℕ
  pub words : List (List ℕ)
  pub is : words_of text ≡ word ∷ words
  pub rest : List ℕ
  pub whole : text ≡ word ++ rest

onto : (c : ℕ) (text : List ℕ) → Parted text → (t : Bool) → t ≡ (c == 32) → Parted (c ∷ text)
onto c text p true e = record { word = []; words = words_of text; is = ap (λ b. cond b ([] ∷ words_of text) (onto_first c (words_of text))) (sym e); rest = c ∷ text; whole = refl }
onto c text p false e = record {
  word = c ∷ p.word;
  words = p.words;
  is = ap (λ b. cond b ([] ∷ words_of text) (onto_first c (words_of text))) (sym e) ∙ ap (onto_first c) p.is;
  rest = p.rest;
  whole = ap (λ t. c ∷ t) p.whole;
}

pub parted : (text : List ℕ) → Parted text
parted [] = record { word = []; words = []; is = refl; rest = []; whole = refl }
parted (c ∷ text) = onto c text (parted text) (c == 32) refl

no_space_head : (c : ℕ) (key : List ℕ) → list_all is_no_space (c ∷ key) ≡ true → (c == 32) ≡ false
no_space_head c key h = by (c == 32) refl h
  where
    by : (t : Bool) → t ≡ (c == 32) → (not t && list_all is_no_space key) ≡ true → t ≡ false
    by true e h = cc
    by false e h = refl

no_space_tail : (c : ℕ) (key : List ℕ) → list_all is_no_space (c ∷ key) ≡ true → list_all is_no_space key ≡ true
no_space_tail c key h = by (c == 32) h
  where
    by : (t : Bool) → (not t && list_all is_no_space key) ≡ true → list_all is_no_space key ≡ true
    by true h = cc
    by false h = h

-- a key before a text stands before its first word
pub key_before : (key text word : List ℕ) (words : List (List ℕ)) → list_all is_no_space key ≡ true → words_of text ≡ word ∷ words → words_of (key ++ text) ≡ (key ++ word) ∷ words
key_before [] text word words plain e = e
key_before (c ∷ key) text word words plain e =
    ap (λ b. cond b ([] ∷ words_of (key ++ text)) (onto_first c (words_of (key ++ text)))) (no_space_head c key plain)
    ∙ ap (onto_first c) (key_before key text word words (no_space_tail c key plain) e)

key_and_value : (key text : List ℕ) → is_text (take (length key) text) key ≡ true → text ≡ key ++ drop (length key) text
key_and_value key text has = sym (take-append-drop (length key) text) ∙ ap (λ l. l ++ drop (length key) text) (same_text (take (length key) text) key has)

-- the first word of a text that begins with a key
words_behind : (key text : List ℕ) → list_all is_no_space key ≡ true → is_text (take (length key) text) key ≡ true
    → words_of text ≡ (key ++ (parted (drop (length key) text)).word) ∷ (parted (drop (length key) text)).words
words_behind key text plain has =
    let p = parted (drop (length key) text) in
    ap words_of (key_and_value key text has) ∙ key_before key (drop (length key) text) p.word p.words plain p.is

-- a text that doesn't begin with a key has no first word that does
key_of_word : (key text : List ℕ) → is_text (take (length key) text) key ≡ false → has_key key (parted text).word ≡ false
key_of_word key text lacks = by (has_key key (parted text).word) refl
  where
    p : Parted text
    p = parted text

    all : has_key key p.word ≡ true → take (length key) text ≡ key
    all has =
        ap (take (length key)) (p.whole ∙ ap (λ w. w ++ p.rest) (key_and_value key p.word has) ∙ append_assoc key (drop (length key) p.word) p.rest)
        ∙ take-append_seam key (drop (length key) p.word ++ p.rest)

    by : (t : Bool) → t ≡ has_key key p.word → t ≡ false
    by true e = absurd (false≢true (sym lacks ∙ is_same_text (take (length key) text) key (all (sym e))))
    by false e = refl

pub key_taken : (key text : List ℕ) → list_all is_no_space key ≡ true → is_text (take (length key) text) key ≡ true
    → after_key key (words_of text) ≡ Some (words_of (drop (length key) text))
key_taken key text plain has =
    let p = parted (drop (length key) text) in
    let same : has_key key (key ++ p.word) ≡ true = is_same_text (take (length key) (key ++ p.word)) key (take-append_seam key p.word) in
    ap (after_key key) (words_behind key text plain has)
    ∙ (ap (λ b. cond b (Some (drop (length key) (key ++ p.word) ∷ p.words)) None) same ∙ (ap (λ w. Some (w ∷ p.words)) (drop-append_seam key p.word) ∙ ap Some (sym p.is)))

pub key_not_taken : (key text : List ℕ) → is_text (take (length key) text) key ≡ false → after_key key (words_of text) ≡ None
key_not_taken key text lacks =
    let p = parted text in
    ap (after_key key) p.is ∙ ap (λ b. cond b (Some (drop (length key) p.word ∷ p.words)) None) (key_of_word key text lacks)

-- a word that is all of a text, that stands before a space, and that goes on
pub last_word_taken : (name text : List ℕ) → list_all is_no_space name ≡ true → is_text (take (length name) text) name ≡ true → drop (length name) text ≡ []
    → after_word name (words_of text) ≡ Some []
last_word_taken name text plain has none =
    let whole : text ≡ name ++ [] = key_and_value name text has ∙ ap (λ l. name ++ l) none in
    let same : is_text (name ++ []) name ≡ true = is_same_text (name ++ []) name (append-nil name) in
    ap (λ t. after_word name (words_of t)) whole
    ∙ (ap (after_word name) (key_before name [] [] [] plain refl) ∙ ap (λ b. cond b (Some []) None) same)

pub word_taken : (name text others : List ℕ) → list_all is_no_space name ≡ true → is_text (take (length name) text) name ≡ true → drop (length name) text ≡ 32 ∷ others
    → after_word name (words_of text) ≡ Some (words_of others)
word_taken name text others plain has more =
    let whole : text ≡ name ++ 32 ∷ others = key_and_value name text has ∙ ap (λ l. name ++ l) more in
    let same : is_text (name ++ []) name ≡ true = is_same_text (name ++ []) name (append-nil name) in
    ap (λ t. after_word name (words_of t)) whole
    ∙ (ap (after_word name) (key_before name (32 ∷ others) [] (words_of others) plain refl) ∙ ap (λ b. cond b (Some (words_of others)) None) same)

longer : (name more : List ℕ) (c : ℕ) → is_text (name ++ c ∷ more) name ≡ false
longer name more c = by (is_text (name ++ c ∷ more) name) refl
  where
    by : (t : Bool) → t ≡ is_text (name ++ c ∷ more) name → t ≡ false
    by true e = absurd (omega (arith, ap length (same_text (name ++ c ∷ more) name (sym e)), length-append name (c ∷ more)))
    by false e = refl

pub longer_word_stays : (name text more : List ℕ) (c : ℕ) → list_all is_no_space name ≡ true → is_text (take (length name) text) name ≡ true → drop (length name) text ≡ c ∷ more
    → (c == 32) ≡ false → after_word name (words_of text) ≡ None
longer_word_stays name text more c plain has is other =
    let p = parted more in
    let whole : text ≡ name ++ c ∷ more = key_and_value name text has ∙ ap (λ l. name ++ l) is in
    let first : words_of (c ∷ more) ≡ (c ∷ p.word) ∷ p.words = ap (λ b. cond b ([] ∷ words_of more) (onto_first c (words_of more))) other ∙ ap (onto_first c) p.is in
    ap (λ t. after_word name (words_of t)) whole
    ∙ (ap (after_word name) (key_before name (c ∷ more) (c ∷ p.word) p.words plain first) ∙ ap (λ b. cond b (Some p.words) None) (longer name p.word c))

pub other_word_stays : (name text : List ℕ) → is_text (take (length name) text) name ≡ false → after_word name (words_of text) ≡ None
other_word_stays name text lacks = ap (after_word name) p.is ∙ by (is_text p.word name) refl
  where
    p : Parted text
    p = parted text

    by : (t : Bool) → t ≡ is_text p.word name → cond t (Some p.words) None ≡ None
    by true e =
        let same = same_text p.word name (sym e) in
        let has : has_key name p.word ≡ true = is_same_text (take (length name) p.word) name (ap (take (length name)) same ∙ take-length name) in
        absurd (false≢true (sym (key_of_word name text lacks) ∙ has))
    by false e = refl

-- the first bytes of a text are compared with as many bytes of a word
pub first_bytes_are : (name text first : List ℕ) (n : ℕ) (differs same : Bool) → length name ≡ n → first ≡ take n text
    → differs ≡ not (is_text first name) → differs ≡ not same → is_text (take (length name) text) name ≡ same
first_bytes_are name text first n differs same long is means told =
    ap (λ l. is_text l name) (ap (λ k. take k text) long ∙ sym is) ∙ by (is_text first name) same (sym means ∙ told)
  where
    by : (a b : Bool) → not a ≡ not b → a ≡ b
    by true true e = refl
    by false false e = refl
    by true false e = cc
    by false true e = cc

-- a text with fewer bytes than a word doesn't begin with it
pub too_short : (name text : List ℕ) (n : ℕ) → length name ≡ n → length text < n → is_text (take (length name) text) name ≡ false
too_short name text n long short = by (is_text (take (length name) text) name) refl
  where
    by : (t : Bool) → t ≡ is_text (take (length name) text) name → t ≡ false
    by true e =
        let same = same_text (take (length name) text) name (sym e) in
        absurd (omega (arith, ap length same, length-take (length name) text, long, short))
    by false e = refl

-- words are left exactly where a text is
pub done_or_not : (rest : Option (Bor (List ℕ))) (done : Bool) → is_some rest ≡ not done
    → (IsTrue done → words_from rest ≡ []) × (words_from rest ≡ [] → IsTrue done)
done_or_not None true e = (λ _. refl, λ _. refl)
done_or_not None false e = cc
done_or_not (Some text) true e = cc
done_or_not (Some text) false e =
    let p = parted text.now in
    (λ h. cc, λ none. absurd (some p.word p.words (sym p.is ∙ none))) where
      some : (word : List ℕ) (words : List (List ℕ)) → word ∷ words ≡ [] → ⊥
      some word words e = cc

pub empty : (xs : List ℕ) → length xs ≡ 0 → xs ≡ []
empty [] e = refl
empty (x ∷ xs) e = absurd (omega (arith, e))

pub is_other : (c : ℕ) → (c ≡ 32 → ⊥) → (c == 32) ≡ false
is_other c h =
    ⊎_elim (λ (same : (eqb c 32 ≡ true) × (c ≡ 32)). absurd (h same.1)) (λ (other : (eqb c 32 ≡ false) × (c ≢ 32)). other.0) (eqb_tells c 32)
