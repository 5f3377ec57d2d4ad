-- The name in an annotation: what is written is read, and what is read is written so.
use Rattle.std.proofs.Common.{◌≡◌, ℕ, ◌-◌, Bool, true, false, cond, List, [], ◌∷◌, ◌++◌, length, take, drop, Option, Some, None, refl, sym, ap, ◌∙◌, subst, arith, length-append}
use Rattle.std.proofs.lemmas.List.{take-append-drop}
use Rattle.std.proofs.Math.Seq.{take-append_seam, drop-append_seam}
use Rattle.std.proofs.lemmas.Slice.Eq.{bytes_eq-Decides}
use Rattle.std.specs.Option.{option_map, option_and_then, option_or}
use Rattle.std.specs.Str.{bytes_eq}
use Rattle.icu_calendar.specs.DateText.{calendar_key, is_calendar_name, annotation, IsName}
use Rattle.icu_calendar.specs.DateTextReading.{behind, behind_key, before_bracket, checked_name, name_read, annotation_read}
use Rattle.icu_calendar.proofs.OptionLemmas.{and_then-inverts, map-inverts}

-- a text behind its key
pub behind-read : (key text rest : List ℕ) → behind key text ≡ Some rest → text ≡ key ++ rest
behind-read key text rest e = by (bytes_eq (take (length key) text) key) refl e
  where
    by : (b : Bool) → bytes_eq (take (length key) text) key ≡ b → cond b (Some (drop (length key) text)) None ≡ Some rest → text ≡ key ++ rest
    by false same e = absurd cc
    by true same e =
        let front = (bytes_eq-Decides (take (length key) text) key).0 same in
        let back : drop (length key) text ≡ rest = cc in
        sym (take-append-drop (length key) text) ∙ (ap (λ (s : List ℕ). s ++ drop (length key) text) front ∙ ap (λ (s : List ℕ). key ++ s) back)

-- one of the two keys
pub behind_key-read : (text rest : List ℕ) → behind_key text ≡ Some rest → (critical : Bool) × (text ≡ calendar_key critical ++ rest)
behind_key-read text rest e = by (behind (calendar_key false) text) refl e
  where
    by : (o : Option (List ℕ)) → behind (calendar_key false) text ≡ o → option_or o (behind (calendar_key true) text) ≡ Some rest → (critical : Bool) × (text ≡ calendar_key critical ++ rest)
    by None found e = (true, behind-read (calendar_key true) text rest e)
    by (Some s) found e = (false, behind-read (calendar_key false) text rest (found ∙ e))

pub before_bracket-read : (text name : List ℕ) → before_bracket text ≡ Some name → text ≡ name ++ 93 ∷ []
before_bracket-read text name e = by (bytes_eq (drop (length text - 1) text) (93 ∷ [])) refl e
  where
    by : (b : Bool) → bytes_eq (drop (length text - 1) text) (93 ∷ []) ≡ b → cond b (Some (take (length text - 1) text)) None ≡ Some name → text ≡ name ++ 93 ∷ []
    by false same e = absurd cc
    by true same e =
        let back = (bytes_eq-Decides (drop (length text - 1) text) (93 ∷ [])).0 same in
        let front : take (length text - 1) text ≡ name = cc in
        sym (take-append-drop (length text - 1) text) ∙ (ap (λ (s : List ℕ). take (length text - 1) text ++ s) back ∙ ap (λ (s : List ℕ). s ++ 93 ∷ []) front)

pub before_bracket-written : (name : List ℕ) → before_bracket (name ++ 93 ∷ []) ≡ Some name
before_bracket-written name =
    let end : length (name ++ 93 ∷ []) - 1 ≡ length name = omega (arith, length-append name (93 ∷ [])) in
    let back : bytes_eq (drop (length name) (name ++ 93 ∷ [])) (93 ∷ []) ≡ true = rw (drop-append_seam name (93 ∷ [])) refl in
    rw (end, back, take-append_seam name (93 ∷ [])) refl

checked_name-read : (name found : List ℕ) → checked_name name ≡ Some found → (name ≡ found) × (is_calendar_name found ≡ true)
checked_name-read name found e = by (is_calendar_name name) refl e
  where
    by : (b : Bool) → is_calendar_name name ≡ b → cond b (Some name) None ≡ Some found → (name ≡ found) × (is_calendar_name found ≡ true)
    by false is e = absurd cc
    by true is e = let same : name ≡ found = cc in (same, subst (λ (n : List ℕ). is_calendar_name n ≡ true) same is)

-- a name that was read stood in an annotation
pub name-read : (text name : List ℕ) → name_read text ≡ Some name → (critical : Bool) × (is_calendar_name name ≡ true) × (text ≡ annotation critical (Some name))
unfolding name_read
name-read text name e =
    let checked = and_then-inverts checked_name (option_and_then before_bracket (behind_key text)) name e in
    let bracket = and_then-inverts before_bracket (behind_key text) checked.0 checked.1 in
    let key = behind_key-read text bracket.0 bracket.1 in
    let is = checked_name-read checked.0 name checked.2 in
    (key.0, is.1, key.1 ∙ ap (λ (s : List ℕ). calendar_key key.0 ++ s) (before_bracket-read bracket.0 checked.0 bracket.2 ∙ ap (λ (s : List ℕ). s ++ 93 ∷ []) is.0))

behind_key-written : (critical : Bool) (rest : List ℕ) → behind_key (calendar_key critical ++ rest) ≡ Some rest
behind_key-written false rest = refl
behind_key-written true rest = refl

pub name-written : (critical : Bool) (name : List ℕ) → is_calendar_name name ≡ true → name_read (annotation critical (Some name)) ≡ Some name
unfolding name_read
name-written critical name is =
    let checked : checked_name name ≡ Some name = rw is refl in
    ap (λ (o : Option (List ℕ)). option_and_then checked_name (option_and_then before_bracket o)) (behind_key-written critical (name ++ 93 ∷ []))
    ∙ (ap (λ (o : Option (List ℕ)). option_and_then checked_name o) (before_bracket-written name) ∙ checked)

-- an annotation, or none
pub annotation-written : (critical : Bool) (name : Option (List ℕ)) → IsName name → annotation_read (annotation critical name) ≡ Some name
annotation-written critical None h = refl
annotation-written false (Some name) h = ap (option_map {U = Option (List ℕ)} Some) (name-written false name h)
annotation-written true (Some name) h = ap (option_map {U = Option (List ℕ)} Some) (name-written true name h)

pub annotation-read : (text : List ℕ) (name : Option (List ℕ)) → annotation_read text ≡ Some name → (critical : Bool) × IsName name × (text ≡ annotation critical name)
annotation-read [] None e = (false, tt, refl)
annotation-read [] (Some name) e = absurd cc
annotation-read (b ∷ text) None e = let found = map-inverts {B = Option (List ℕ)} Some (name_read (b ∷ text)) None e in absurd cc
annotation-read (b ∷ text) (Some name) e =
    let found = map-inverts {B = Option (List ℕ)} Some (name_read (b ∷ text)) (Some name) e in
    let same : found.0 ≡ name = cc in
    name-read (b ∷ text) name (found.1 ∙ ap (λ (n : List ℕ). Some n) same)
