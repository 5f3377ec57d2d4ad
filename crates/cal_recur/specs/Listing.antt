-- The occurrences of a rule in a window.
use Rattle.std.specs.Prelude.{◌≡◌, ◌<◌, ◌<ℤ◌, ◌↔◌, AllPairs, Contains, Ok, ℕ, zero, suc, ◌*◌, cond, List, [], ◌++◌, Option, Some, None, option_to_list, ℤ}
use Rattle.std.specs.Option.{option_and_then}
use Rattle.cal_days.specs.Day.{IsBetween, is_between}
use Rattle.cal_types.specs.CalendarList.{Date, day_number}
use Rattle.cal_types.specs.CalendarSystem.{CalendarSystem}
use Rattle.cal_types.specs.Adding.{IsSum}
use Rattle.cal_types.specs.declared.options.Overflow.{Overflow}
use Rattle.cal_recur.specs.declared.recurrence.Occurrence.{Occurrence}
use Rattle.cal_recur.specs.declared.rule.Rule.{Rule}
use Rattle.cal_types.specs.WindowDays.{IsAfter}
use Rattle.cal_types.specs.declared.window.Window.{Window}
use Rattle.cal_recur.specs.Occurrence.{occurrence, units}
use Rattle.cal_recur.specs.Rule.{overflow_of}

-- an occurrence falls on a day: the day's date is the start with so many of the rule's units added
abbrev pub Occurs : CalendarSystem → Date → Rule → Overflow → ℕ → ℤ → Type 0
Occurs s t rule o k n =
    (u : Date) × IsSum s.list s.year_shift t (units rule.unit (k * rule.every)) o (Ok u) × (day_number s.list u ≡ n)

-- some occurrences are those of a rule from one day to another, in the order of their indices and days
pub record AreOccurrences (s : CalendarSystem) (t : Date) (rule : Rule) (first last : ℤ)
    (xs : List Occurrence) : Type 0 where
  pub rising : AllPairs (λ x y. (x.index < y.index) × (x.day <ℤ y.day)) xs
  pub exact : (x : Occurrence) →
      Contains xs x ↔ (Occurs s t rule (overflow_of rule.missing) x.index x.day × IsBetween first last x.day)

-- what f gives of the numbers below n, in their order
unfoldable pub gathered : {A : Type 0} → (ℕ → Option A) → ℕ → List A
gathered f zero = []
gathered f (suc n) = gathered f n ++ option_to_list (f n)

-- occurrence k of a rule, where its day lies from one day to another
abbrev pub listed : CalendarSystem → Date → Rule → ℤ → ℤ → ℕ → Option Occurrence
listed s t rule first last k =
    option_and_then (λ n. cond (is_between first last n) (Some (record { index = k; day = n })) None)
    (occurrence s.list s.year_shift t rule.unit (overflow_of rule.missing) (k * rule.every))

-- all indices that adding may not refuse: from 0 to 838240000, the most days that are added
abbrev pub index_count : ℕ
index_count = 838240001

-- the occurrences of a rule from one day to another, in the order of their indices
abbrev pub occurrences : CalendarSystem → Date → Rule → ℤ → ℤ → List Occurrence
occurrences s t rule first last = gathered (listed s t rule first last) index_count

-- those in the window that is left, if one is
abbrev pub occurrences_left : CalendarSystem → Date → Rule → Option Window → List Occurrence
occurrences_left s t rule None = []
occurrences_left s t rule (Some w) = occurrences s t rule w.first w.last

-- no occurrence of an index below i lies from one day to another
abbrev pub NoneListed : CalendarSystem → Date → Rule → ℤ → ℤ → ℕ → Type 0
NoneListed s t rule first last i = (k : ℕ) → k < i → listed s t rule first last k ≡ None

-- an occurrence is the first of those from one day to another
pub record IsFirstListed (s : CalendarSystem) (t : Date) (rule : Rule) (first last : ℤ) (x : Occurrence) : Type 0 where
  pub here : listed s t rule first last x.index ≡ Some x
  pub none : NoneListed s t rule first last x.index

-- what is left after a call: nothing after None, and else the days after that of the item
abbrev pub IsRestAfter : Option Window → Option Occurrence → Option Window → Type 0
IsRestAfter _ None left = left ≡ None
IsRestAfter (Some w) (Some x) left = IsAfter w x.day left
IsRestAfter None (Some _) left = ⊥

-- a call goes on with the same calendar, start and rule in what is left
pub record GoesOn {K D : Type 0} (k l : K) (d e : D) (given next : Rule) (rest : Option Window)
    (answer : Option Occurrence) (left : Option Window) : Type 0 where
  pub calendar : l ≡ k
  pub start : e ≡ d
  pub rule : next ≡ given
  pub left_is : IsRestAfter rest answer left
