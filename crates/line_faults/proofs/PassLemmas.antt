-- Which words lead from a place to the end of a line.
use Rattle.std.proofs.Common.{◌≡◌, ℕ, Bool, true, false, cond, List, [], ◌∷◌, ◌++◌, Option, Some, None, refl, ◌∙◌, sym, ap, codes}
use Rattle.std.proofs.lemmas.Bool.{false≢true}
use Rattle.std.specs.List.{list_all}
use Rattle.std.specs.Option.{is_some}
use Rattle.cal_types.specs.Bag.{Bag}
use Rattle.request_lines.specs.Bags.{is_word_byte, no_fields}
use Rattle.line_faults.specs.Places.{led, may_end, step, with_bag}
use Rattle.line_faults.specs.FirstFaults.{AreWords}
use Rattle.line_faults.specs.declared.expected.Expected.{Expected}
use Rattle.line_faults.specs.declared.expected.Expected.TheVariants.{First, Calendar, Shown, Unit, Overflow, MissingFields, From, FieldOrTo, Field, Table, LunisolarYear, LunisolarStart, LunisolarLengths, NoLeapMonth, LeapMonth, HijriYear, HijriStart, HijriLengths, PersianYear, EraYear, EraMonth, EraDay, EraCode, EraIndex, End}

-- whether the words lead to a place at which a line may end
abbrev pub passes : Option (Expected × Bag) → List (List ℕ) → Bool
passes None words = false
passes (Some (at, bag)) [] = may_end at
passes (Some (at, bag)) (word ∷ words) = passes (step at bag word) words

-- where a line begins
abbrev pub start : Option (Expected × Bag)
start = Some (First, no_fields)

-- words with which a line may end behind a place
abbrev pub completion : Expected → List (List ℕ)
completion First = codes "row" ∷ codes "persian" ∷ codes "0" ∷ []
completion Calendar = codes "iso" ∷ codes "iso" ∷ codes "none" ∷ codes "none" ∷ codes "none" ∷ codes "from" ∷ codes "to" ∷ []
completion Shown = codes "iso" ∷ codes "none" ∷ codes "none" ∷ codes "none" ∷ codes "from" ∷ codes "to" ∷ []
completion Unit = codes "none" ∷ codes "none" ∷ codes "none" ∷ codes "from" ∷ codes "to" ∷ []
completion Overflow = codes "none" ∷ codes "none" ∷ codes "from" ∷ codes "to" ∷ []
completion MissingFields = codes "none" ∷ codes "from" ∷ codes "to" ∷ []
completion From = codes "from" ∷ codes "to" ∷ []
completion FieldOrTo = codes "to" ∷ []
completion Field = []
completion Table = codes "persian" ∷ codes "0" ∷ []
completion LunisolarYear = codes "0" ∷ codes "0" ∷ codes "llllllllllll" ∷ codes "0" ∷ []
completion LunisolarStart = codes "0" ∷ codes "llllllllllll" ∷ codes "0" ∷ []
completion LunisolarLengths = codes "llllllllllll" ∷ codes "0" ∷ []
completion NoLeapMonth = codes "0" ∷ []
completion LeapMonth = codes "1" ∷ []
completion HijriYear = codes "0" ∷ codes "0" ∷ codes "llllllllllll" ∷ []
completion HijriStart = codes "0" ∷ codes "llllllllllll" ∷ []
completion HijriLengths = codes "llllllllllll" ∷ []
completion PersianYear = codes "0" ∷ []
completion EraYear = codes "0" ∷ codes "0" ∷ codes "0" ∷ codes "a" ∷ codes "0" ∷ []
completion EraMonth = codes "0" ∷ codes "0" ∷ codes "a" ∷ codes "0" ∷ []
completion EraDay = codes "0" ∷ codes "a" ∷ codes "0" ∷ []
completion EraCode = codes "a" ∷ codes "0" ∷ []
completion EraIndex = codes "0" ∷ []
completion End = []

pub completes : (at : Expected) (bag : Bag) → passes (Some (at, bag)) (completion at) ≡ true
completes First bag = refl
completes Calendar bag = refl
completes Shown bag = refl
completes Unit bag = refl
completes Overflow bag = refl
completes MissingFields bag = refl
completes From bag = refl
completes FieldOrTo bag = refl
completes Field bag = refl
completes Table bag = refl
completes LunisolarYear bag = refl
completes LunisolarStart bag = refl
completes LunisolarLengths bag = refl
completes NoLeapMonth bag = refl
completes LeapMonth bag = refl
completes HijriYear bag = refl
completes HijriStart bag = refl
completes HijriLengths bag = refl
completes PersianYear bag = refl
completes EraYear bag = refl
completes EraMonth bag = refl
completes EraDay bag = refl
completes EraCode bag = refl
completes EraIndex bag = refl
completes End bag = refl

-- whether each word can stand in a line
abbrev plain : List (List ℕ) → Bool
plain [] = true
plain (word ∷ words) = cond (list_all is_word_byte word) (plain words) false

plain_words : (words : List (List ℕ)) → plain words ≡ true → AreWords words
plain_words [] e = tt
plain_words (word ∷ words) e = by (plain_words words) (list_all is_word_byte word) refl e
  where
    by : (plain words ≡ true → AreWords words) → (t : Bool) → list_all is_word_byte word ≡ t → cond t (plain words) false ≡ true → AreWords (word ∷ words)
    by others true q e = (q, others e)
    by others false q e = absurd (false≢true e)

plain_completion : (at : Expected) → plain (completion at) ≡ true
plain_completion First = refl
plain_completion Calendar = refl
plain_completion Shown = refl
plain_completion Unit = refl
plain_completion Overflow = refl
plain_completion MissingFields = refl
plain_completion From = refl
plain_completion FieldOrTo = refl
plain_completion Field = refl
plain_completion Table = refl
plain_completion LunisolarYear = refl
plain_completion LunisolarStart = refl
plain_completion LunisolarLengths = refl
plain_completion NoLeapMonth = refl
plain_completion LeapMonth = refl
plain_completion HijriYear = refl
plain_completion HijriStart = refl
plain_completion HijriLengths = refl
plain_completion PersianYear = refl
plain_completion EraYear = refl
plain_completion EraMonth = refl
plain_completion EraDay = refl
plain_completion EraCode = refl
plain_completion EraIndex = refl
plain_completion End = refl

pub completion_words : (at : Expected) → AreWords (completion at)
completion_words at = plain_words (completion at) (plain_completion at)

pub are_both : (a b : List (List ℕ)) → AreWords a → AreWords b → AreWords (a ++ b)
are_both [] b left right = right
are_both (word ∷ a) b left right = (left.0, are_both a b left.1 right)

pub are_first : (a b : List (List ℕ)) → AreWords (a ++ b) → AreWords a
are_first [] b all = tt
are_first (word ∷ a) b all = (all.0, are_first a b all.1)

pub are_behind : (a b : List (List ℕ)) → AreWords (a ++ b) → AreWords b
are_behind [] b all = all
are_behind (word ∷ a) b all = are_behind a b all.1

-- the words begin with one that is read, and those behind it lead on from the next place
pub record IsLed {T : Type 0} (read : List ℕ → Option T) (next : Expected) (bag : Bag) (words : List (List ℕ)) : Type 0 where
  pub word : List ℕ
  pub rest : List (List ℕ)
  pub x : T
  pub is : words ≡ word ∷ rest
  pub reads : read word ≡ Some x
  pub then : passes (Some (next, bag)) rest ≡ true

-- at a place a word leads on exactly where it is read
abbrev pub Leads : {T : Type 0} → (List ℕ → Option T) → Expected → Expected → Bag → Type 0
Leads read at next bag = (word : List ℕ) → step at bag word ≡ with_bag (led next (is_some (read word))) bag

pub is_led : {T : Type 0} (read : List ℕ → Option T) (at next : Expected) (bag : Bag) → may_end at ≡ false → Leads read at next bag
    → (words : List (List ℕ)) → passes (Some (at, bag)) words ≡ true → IsLed read next bag words
is_led read at next bag goes_on leads [] e = absurd (false≢true (sym goes_on ∙ e))
is_led {T} read at next bag goes_on leads (word ∷ words) e = by (read word) refl
  where
    by : (o : Option T) → read word ≡ o → IsLed read next bag (word ∷ words)
    by None r = absurd (false≢true (sym (ap (λ s. passes s words) (leads word ∙ ap (λ o. with_bag (led next (is_some o)) bag) r)) ∙ e))
    by (Some x) r = record {
      word = word;
      rest = words;
      x = x;
      is = refl;
      reads = r;
      then = sym (ap (λ s. passes s words) (leads word ∙ ap (λ o. with_bag (led next (is_some o)) bag) r)) ∙ e;
    }

pub leads_on : {T : Type 0} (read : List ℕ → Option T) (at next : Expected) (bag : Bag) → Leads read at next bag → (word : List ℕ) (x : T)
    (words : List (List ℕ)) → read word ≡ Some x → passes (Some (at, bag)) (word ∷ words) ≡ passes (Some (next, bag)) words
leads_on read at next bag leads word x words r = ap (λ s. passes s words) (leads word ∙ ap (λ o. with_bag (led next (is_some o)) bag) r)

-- a test that gives its word is a test
pub some_if : {T : Type 0} (t : Bool) (x : T) → t ≡ is_some (cond t (Some x) None)
some_if true x = refl
some_if false x = refl

-- behind the end there is nothing
pub ended : (bag : Bag) (words : List (List ℕ)) → passes (Some (End, bag)) words ≡ true → words ≡ []
ended bag [] e = refl
ended bag (word ∷ words) e = absurd (false≢true e)
