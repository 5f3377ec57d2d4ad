-- Lists of days in a window: the first items stand in a caller's column, and the others are left.
use Rattle.std.specs.Prelude.{◌≡◌, ℕ, ◌<◌, ◌≤◌, ℤ, pos, ◌+ℤ◌, int_le, ◌&&◌, Bool, cond, List, [], ◌∷◌, ◌++◌, drop, length, take, Option, Some, None, Result, Ok, Err, MatchBool, MatchOption, ⊤}
use Rattle.cal_days.specs.Day.{is_valid_day}
use Rattle.cal_types.specs.declared.window.Window.{Window}
use Rattle.date_calls.specs.declared.lists.Listed.{Listed}

-- the items in what is left of a window
abbrev pub items_in : {O : Type 0} → (ℤ → ℤ → List O) → Option Window → List O
items_in between None = []
items_in between (Some w) = between w.first w.last

-- what is left of a window ends on its last day
abbrev pub EndsOn : ℤ → Option Window → Type 0
EndsOn last left = MatchOption left ⊤ (λ w. w.last ≡ last)

-- one step gives the first item that is left and leaves the others; the list and its last day are the same
pub record Steps {O : Type 0} (between next_between : ℤ → ℤ → List O) (left : Option Window) (item : Option O)
    (next_left : Option Window) : Type 0 where
  pub same : next_between ≡ between
  pub gives : MatchOption item ((items_in between left ≡ []) × (next_left ≡ None))
      (λ x. items_in between left ≡ x ∷ items_in between next_left)
  pub ends : (last : ℤ) → EndsOn last left → EndsOn last next_left

-- the first items of a list stand in the column, as many as go into it, and the others are left; what stood behind
-- them is there still
pub record FillsFirst {O : Type 0} (between next_between : ℤ → ℤ → List O) (left next_left : Option Window)
    (before now : List O) (written : ℕ) : Type 0 where
  pub parts : items_in between left ≡ take written now ++ items_in next_between next_left
  pub same : next_between ≡ between
  pub behind : drop written now ≡ drop written before
  pub fits : written ≤ length before
  pub complete : written < length before → next_left ≡ None
  pub ends : (last : ℤ) → EndsOn last left → EndsOn last next_left

-- the items from a day to a last one, and none if the day comes after it
abbrev pub items_from : {O : Type 0} → (ℤ → ℤ → List O) → ℤ → ℤ → List O
items_from between first last = cond (int_le first last) (between first last) []

-- the day on which what is left of a window begins, or the day after the last one
abbrev pub next_day : ℤ → Option Window → ℤ
next_day last None = last +ℤ pos 1
next_day last (Some w) = w.first

-- the first items of a list stand in a column, and what stood behind them is there still; the list goes on from a day.
-- If the column has more places, these are all items, and the day is the one after the last
pub record IsListed {O : Type 0} (between : ℤ → ℤ → List O) (first last : ℤ) (before now : List O) (written : ℕ)
    (next : ℤ) : Type 0 where
  pub parts : between first last ≡ take written now ++ items_from between next last
  pub behind : drop written now ≡ drop written before
  pub fits : written ≤ length before
  pub complete : written < length before → next ≡ last +ℤ pos 1

-- a list, or the code of a fault
abbrev pub AnswersList : {O : Type 0} → Option ℕ → (ℤ → ℤ → List O) → ℤ → ℤ → List O → List O → Result Listed ℕ
    → Type 0
AnswersList fault between first last before now (Ok listed) =
    (fault ≡ None) × IsListed between first last before now listed.written listed.next
AnswersList fault between first last before now (Err code) = (fault ≡ Some code) × (now ≡ before)

-- a list is told
pub record TellsList {O : Type 0} (between : ℤ → ℤ → List O) (first last : ℤ) (code : ℕ) (before now : List O)
    (written : ℕ) (next : ℤ) : Type 0 where
  pub done : code ≡ 0
  pub listed : IsListed between first last before now written next

-- a code is told; nothing is written, and the day and the column are as they were
pub record IsUnlisted {O : Type 0} (why code : ℕ) (before now : List O) (written : ℕ) (next_before next : ℤ)
    : Type 0 where
  pub told : code ≡ why
  pub none : written ≡ 0
  pub next_stands : next ≡ next_before
  pub stand : now ≡ before

-- an answer is told
abbrev pub IsListTold : ℕ → Result Listed ℕ → ℕ → ℤ → ℤ → Type 0
IsListTold code (Ok listed) written next_before next =
    (code ≡ 0) × (written ≡ listed.written) × (next ≡ listed.next)
IsListTold code (Err why) written next_before next = (code ≡ why) × (written ≡ 0) × (next ≡ next_before)

-- a list is told, or why there is none
abbrev pub ListsUnless : {O : Type 0} → Option ℕ → (ℤ → ℤ → List O) → ℤ → ℤ → ℕ → List O → List O → ℕ → ℤ → ℤ
    → Type 0
ListsUnless None between first last code before now written next_before next =
    TellsList between first last code before now written next
ListsUnless (Some why) between first last code before now written next_before next =
    IsUnlisted why code before now written next_before next

-- the days are valid, and in order
abbrev pub is_window : ℤ → ℤ → Bool
is_window first last = (is_valid_day first && is_valid_day last) && int_le first last

-- the same, where the days have to be a window
abbrev pub ListsIn : {O : Type 0} → Option ℕ → (ℤ → ℤ → List O) → ℤ → ℤ → ℕ → List O → List O → ℕ → ℤ → ℤ → Type 0
ListsIn fault between first last code before now written next_before next =
    MatchBool (is_window first last) (ListsUnless fault between first last code before now written next_before next)
    (IsUnlisted 5 code before now written next_before next)
