-- A word is compared with the one name that has its place, and that is enough.
use Rattle.std.proofs.Common.{◌≡◌, ◌==◌, ℕ, Bool, true, false, cond, List, [], ◌∷◌, Option, Some, None, if◌then◌else◌, refl, sym, subst, ap, ◌∙◌}
use Rattle.std.specs.List.{find}
use Rattle.std.proofs.lemmas.Bool.Decides.{Decides-eqb}
use Rattle.std.specs.Cmp.Lexicographic.{pointwise_decides}
use Rattle.cal_types.specs.YearNames.{is_code}
use Rattle.cal_kinds.specs.KindNames.{kind_among, kind_named, program_names}
use Rattle.cal_kinds.specs.NamePlaces.{kind_if, named_at, place_of}
use Rattle.cal_kinds.specs.declared.any_calendar_kind.AnyCalendarKind.{AnyCalendarKind}

abbrev Named : Type 0
Named = List ℕ × AnyCalendarKind

-- each name has its own kind
abbrev HaveTheirKinds : List Named → Type 0
HaveTheirKinds [] = Unit {0}
HaveTheirKinds (named ∷ others) = (kind_named named.0 ≡ Some named.1) × HaveTheirKinds others

-- each name stands in its place
abbrev StandInPlace : List Named → Type 0
StandInPlace [] = Unit {0}
StandInPlace (named ∷ others) = (named_at (place_of named.0) ≡ Some named) × StandInPlace others

names-kinds : HaveTheirKinds program_names
names-kinds = (refl, (refl, (refl, (refl, (refl, (refl, (refl, (refl, (refl, (refl, (refl, (refl, (refl, (refl, (refl, (refl, (refl, (refl, (refl, (refl, tt))))))))))))))))))))

names-places : StandInPlace program_names
names-places = (refl, (refl, (refl, (refl, (refl, (refl, (refl, (refl, (refl, (refl, (refl, (refl, (refl, (refl, (refl, (refl, (refl, (refl, (refl, (refl, tt))))))))))))))))))))

is_code-same : (word code : List ℕ) → is_code word code ≡ true → word ≡ code
is_code-same word code h = (pointwise_decides Decides-eqb word code).0 h

found_first : (here : Bool) (named found : Named) (others : Option Named) → kind_named named.0 ≡ Some named.1
    → (others ≡ Some found → kind_named found.0 ≡ Some found.1) → cond here (Some named) others ≡ Some found → kind_named found.0 ≡ Some found.1
found_first true named found others kind behind h = let same : named ≡ found = cc in subst (λ (n : Named). kind_named n.0 ≡ Some n.1) same kind
found_first false named found others kind behind h = behind h

-- what is found in a place has its own kind
found_kind : (test : Named → Bool) (names : List Named) → HaveTheirKinds names → (found : Named) → find test names ≡ Some found → kind_named found.0 ≡ Some found.1
found_kind test [] kinds found h = absurd cc
found_kind test (named ∷ others) kinds found h = found_first (test named) named found (find test others) kinds.0 (found_kind test others kinds.1 found) h

-- a word that isn't the name in its place is no name
no_first : (is_it : Bool) (word : List ℕ) (named : Named) (others : Option AnyCalendarKind) → is_code word named.0 ≡ is_it → named_at (place_of named.0) ≡ Some named
    → kind_if word (named_at (place_of word)) ≡ None → others ≡ None → (if is_it then Some named.1 else others) ≡ None
no_first false word named others h place none behind = behind
no_first true word named others h place none behind =
    let stands : named_at (place_of word) ≡ Some named = subst (λ (w : List ℕ). named_at (place_of w) ≡ Some named) (sym (is_code-same word named.0 h)) place in
    let kind : kind_if word (named_at (place_of word)) ≡ Some named.1 = ap (kind_if word) stands ∙ ap (λ (b : Bool). if b then Some named.1 else None) h in
    absurd cc

no_name : (word : List ℕ) (names : List Named) → StandInPlace names → kind_if word (named_at (place_of word)) ≡ None → kind_among word names ≡ None
no_name word [] places none = refl
no_name word (named ∷ others) places none = no_first (is_code word named.0) word named (kind_among word others) refl places.0 none (no_name word others places.1 none)

by_name : (is_it : Bool) (word : List ℕ) (named : Named) → is_code word named.0 ≡ is_it → named_at (place_of word) ≡ Some named → kind_named named.0 ≡ Some named.1
    → (if is_it then Some named.1 else None) ≡ kind_named word
by_name true word named h place kind = sym (subst (λ (w : List ℕ). kind_named w ≡ Some named.1) (sym (is_code-same word named.0 h)) kind)
by_name false word named h place kind =
    sym (no_name word program_names names-places (ap (kind_if word) place ∙ ap (λ (b : Bool). if b then Some named.1 else None) h))

-- the kind of the name in a word's place, where the word is that name, is the word's kind
pub kind_in_place : (word : List ℕ) (named : Named) → named_at (place_of word) ≡ Some named → kind_if word (Some named) ≡ kind_named word
kind_in_place word named place =
    by_name (is_code word named.0) word named refl place
    (found_kind (λ other. place_of other.0 == place_of word) program_names names-kinds named place)

-- a word in whose place no name stands has no kind
pub none_in_place : (word : List ℕ) → named_at (place_of word) ≡ None → None ≡ kind_named word
none_in_place word none = sym (no_name word program_names names-places (ap (kind_if word) none))
