-- Listing the days of periods in order.
use Rattle.std.specs.Prelude.{◌≡◌, ℕ, ◌+◌, ◌<◌, List, ◌++◌, Option, Some, None, option_to_list, ℤ, pos, ◌+ℤ◌, ◌-ℤ◌, ◌≤ℤ◌, ◌<ℤ◌}
use Rattle.std.specs.Option.{ForSome}
use Rattle.cal_days.specs.Day.{IsBetween}
use Rattle.cal_days.specs.Sums.{years_up}
use Rattle.cal_types.specs.WindowDays.{IsAfter}
use Rattle.cal_types.specs.declared.window.Window.{Window}
use Rattle.recurrence_sets.specs.Days.{HasCount}
use Rattle.recurrence_sets.specs.Occurrences.{AreLeft, IsOfSome, Occurs, Recurs}
use Rattle.recurrence_sets.specs.Periods.{HaveEnded, Holds}
use Rattle.recurrence_sets.specs.declared.bounds.Bounds.{Bounds}
use Rattle.recurrence_sets.specs.declared.occurrence.Occurrence.{Occurrence}
use Rattle.recurrence_sets.specs.declared.looks.Looks.{Looks}
use Rattle.recurrence_sets.specs.declared.period_days.PeriodDays.{PeriodDays}

-- what was seen of a period: its valid days, or that no day up to a last one is of any period from it on
pub record IsLook (Has : ℕ → ℤ → Type 0) (last : ℤ) (period : ℕ) (found : Option PeriodDays) : Type 0 where
  pub none : found ≡ None → HaveEnded Has period last
  pub some : ForSome found (λ days. Holds (λ n. ∥ Has period n ∥₁) days)
  pub few : ForSome found (λ _. period < 4294967295)

-- what was seen of a period and of the next one
pub record AreLooks (Has : ℕ → ℤ → Type 0) (last : ℤ) (looks : Looks) : Type 0 where
  pub current : IsLook Has last looks.period looks.current
  pub following : IsLook Has last (looks.period + 1) looks.following

-- no day from one to another is of a period before one
abbrev pub ArePassed : (ℕ → ℤ → Type 0) → ℕ → ℤ → ℤ → Type 0
ArePassed Has period first last = (i : ℕ) → i < period → (n : ℤ) → IsBetween first last n → ¬ (Has i n)

-- so many of the days on which a set recurs lie before a day
abbrev pub HasBefore : (ℤ → Type 0) → Bounds → ℤ → ℕ → Type 0
HasBefore Is b day index = HasCount (λ m. Recurs Is b m × (m <ℤ day)) index

-- the state of a listing that has some days left
pub record IsListing (Has : ℕ → ℤ → Type 0) (b : Bounds) (index : ℕ) (looks : Looks) (w : Window) : Type 0 where
  pub started : b.start ≤ℤ w.first
  pub ended : ForSome b.until (λ last. w.last ≤ℤ last)
  pub counted : HasBefore (IsOfSome Has) b w.first index
  pub few : pos index ≤ℤ (w.first +ℤ pos 365242499)
  pub looked : AreLooks Has w.last looks
  pub passed : ArePassed Has looks.period w.first w.last

-- no occurrence is on the days of a window
abbrev pub NoneLeft : (ℤ → Type 0) → Bounds → Window → Type 0
NoneLeft Is b w = (index : ℕ) (n : ℤ) → IsBetween w.first w.last n → ¬ (Occurs Is b index n)

-- an occurrence is the first on the days of a window
pub record IsFirstLeft (Is : ℤ → Type 0) (b : Bounds) (w : Window) (x : Occurrence) : Type 0 where
  pub occurs : Occurs Is b x.index x.day
  pub within : IsBetween w.first w.last x.day
  pub least : (index : ℕ) (n : ℤ) → w.first ≤ℤ n → n <ℤ x.day → ¬ (Occurs Is b index n)

-- a call gave the first occurrence that was left, and left the days after it; or it gave none, and left nothing
abbrev pub IsNext : (ℤ → Type 0) → Bounds → Option Window → Option Occurrence → Option Window → Type 0
IsNext Is b None answer left = (answer ≡ None) × (left ≡ None)
IsNext Is b (Some w) None left = NoneLeft Is b w × (left ≡ None)
IsNext Is b (Some w) (Some x) left = IsFirstLeft Is b w x × IsAfter w x.day left

-- a call goes on: with the occurrences on the days that it left, its answer makes up those that were left before it
pub record GoesOn (Is : ℤ → Type 0) (b : Bounds) (rest : Option Window) (answer : Option Occurrence)
    (left : Option Window) : Type 0 where
  pub next : IsNext Is b rest answer left
  pub whole : (xs : List Occurrence) → AreLeft Is b left xs → AreLeft Is b rest (option_to_list answer ++ xs)

-- how many days are left
abbrev pub days_left : Option Window → ℕ
days_left None = 0
days_left (Some w) = years_up (w.last -ℤ w.first +ℤ pos 1)
