-- The last era of a list that passes a test, found from the back.
use Rattle.std.proofs.Common.{◌≡◌, ℕ, ℤ, Result, Ok, Err, ◌+◌, ◌-◌, ◌<◌, ◌≤◌, arith, length, take, drop, get_or, length-drop, List, [], ◌∷◌, ◌++◌, Option, None, Some, Bool, true, false, if◌then◌else◌, refl, ap, sym, ◌∙◌}
use Rattle.std.specs.Prelude.{⊤}
use Rattle.std.specs.Iterator.{MakesProgress, item_count}
use Rattle.std.specs.List.{slice_range, slice_get}
use Rattle.std.proofs.Math.Seq.{length-take-le}
use Rattle.std.proofs.lemmas.List.{take_all, take_more, get_or-drop, length-append}
use Rattle.std.proofs.lemmas.Option.{get_or_from_slice_get}
use Rattle.std.specs.Option.{option_or}
use Rattle.cal_errors.specs.declared.errors.UnknownEraError.{UnknownEraError}
use Rattle.cal_arith.specs.FieldNames.{era_read}
use Rattle.cal_gregory.specs.JapaneseEraList.{ListedEra, last_era}
use Rattle.cal_gregory.specs.JapaneseEras.{listed_eras}
use Rattle.cal_gregory.specs.JapaneseErasLeft.{eras_left}
use Rattle.cal_gregory.specs.declared.japanese_eras_iter.JapaneseErasIter.{JapaneseErasIter}

option_or-assoc : {A : Type 0} (a b c : Option A) → option_or (option_or a b) c ≡ option_or a (option_or b c)
option_or-assoc (Some x) b c = refl
option_or-assoc None b c = refl

option_or-none : {A : Type 0} (a : Option A) → option_or a None ≡ a
option_or-none (Some x) = refl
option_or-none None = refl

-- the era at the back, where it passes
abbrev one_era : (ListedEra → Bool) → ListedEra → Option ListedEra
one_era passes e = if passes e then Some e else None

last_era-back : (passes : ListedEra → Bool) (es : List ListedEra) (e : ListedEra) → last_era passes (es ++ e ∷ []) ≡ option_or (one_era passes e) (last_era passes es)
last_era-back passes [] e = sym (option_or-none (one_era passes e))
last_era-back passes (x ∷ xs) e =
    ap (λ (o : Option ListedEra). option_or o (one_era passes x)) (last_era-back passes xs e)
    ∙ option_or-assoc (one_era passes e) (last_era passes xs) (one_era passes x)

-- the era at the back passes, and is the last one that does
pub last_era-passes : (passes : ListedEra → Bool) (all es : List ListedEra) (e : ListedEra) → all ≡ es ++ e ∷ [] → passes e ≡ true → last_era passes all ≡ Some e
last_era-passes passes all es e same h = ap (last_era passes) same ∙ last_era-back passes es e ∙ rw h refl

-- or it doesn't, and stands in no way
pub last_era-past : (passes : ListedEra → Bool) (all es : List ListedEra) (e : ListedEra) → all ≡ es ++ e ∷ [] → passes e ≡ false → last_era passes all ≡ last_era passes es
last_era-past passes all es e same h = ap (last_era passes) same ∙ last_era-back passes es e ∙ rw h refl

-- the part of a list from one place to another, with the element before the second place at its back
pub slice_range-back : {X : Type 0} (xs : List X) (first last : ℕ) (x : X) → first < last → last ≤ length xs → slice_get xs (last - 1) ≡ Some x → slice_range xs first last ≡ slice_range xs first (last - 1) ++ x ∷ []
slice_range-back {X} xs first last x ahead fits here =
    let n = last - 1 - first in
    let more : n + 1 ≡ last - first = omega arith in
    let place : first + n ≡ last - 1 = omega arith in
    let within : n < length (drop first xs) = omega (arith, length-drop first xs) in
    let element : get_or (drop first xs) n x ≡ x = get_or-drop first xs n x ∙ (ap (λ (i : ℕ). get_or xs i x) place ∙ get_or_from_slice_get xs (last - 1) x x here) in
    ap (λ (m : ℕ). take m (drop first xs)) (sym more) ∙ (take_more (drop first xs) n x within ∙ ap (λ (y : X). take n (drop first xs) ++ y ∷ []) element)

-- the part from the first place to the last is the whole
pub slice_range-all : {X : Type 0} (xs : List X) (last : ℕ) → last ≡ length xs → slice_range xs 0 last ≡ xs
slice_range-all xs last same = let rest : length xs ≤ last - 0 = omega arith in take_all (last - 0) xs rest

-- how many eras an iterator has left
length-left : (s : JapaneseErasIter) → length (eras_left s) ≡ s.back - s.front
length-left s = length-take-le (s.back - s.front) (drop s.front (listed_eras s.eras)) (omega (arith, s.ordered, s.fits, length-drop s.front (listed_eras s.eras)))

-- after one was taken from the back there are fewer
pub fewer-left : (s t : JapaneseErasIter) (e : ListedEra) → eras_left s ≡ eras_left t ++ e ∷ [] → t.back - t.front < s.back - s.front
fewer-left s t e same = omega (arith, length-left s, length-left t, ap length same, length-append (eras_left t) (e ∷ []))

-- a call that gives the last of what is left lowers its number
pub progress-back : {S A : Type 0} (rest : S → List A) (s t : S) (x : A) → rest s ≡ rest t ++ x ∷ [] → MakesProgress (λ _. ⊤) (item_count rest) s (Some x) t
progress-back rest s t x e = record {
  on = λ _. (tt, tt, omega (arith, ap length e, length-append (rest t) (x ∷ [])));
  keeps = tt;
  rests = λ _. tt;
}

-- a year in an era that the first reading doesn't know is that of the second
pub read_second : (first second : Option ℤ) (fault : UnknownEraError) (year found : ℤ) → Err fault ≡ era_read first → second ≡ Some found → year ≡ found → Ok year ≡ era_read (option_or first second)
read_second None second fault year found fails reads same = ap Ok same ∙ sym (ap era_read reads)
read_second (Some z) second fault year found fails reads same = absurd (never fails) where
  never : ◌≡◌ {A = Result ℤ UnknownEraError} (Err fault) (Ok z) → ⊥
  never e = cc
