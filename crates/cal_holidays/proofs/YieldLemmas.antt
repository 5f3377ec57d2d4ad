-- A list of holidays as an iterator: its items, each on a day of the window.
use Rattle.std.proofs.Common.{◌≡◌, ℕ, zero, suc, ◌-◌, ℤ, pos, ◌+ℤ◌, ◌-ℤ◌, ◌≤ℤ◌, Bool, true, false, cond, List, [], ◌∷◌, ◌++◌, map, filter, length, Option, Some, None, ap, subst, arith}
use Rattle.std.specs.Bool.{⊤}
use Rattle.std.specs.Iterator.{YieldsFirstBy}
use Rattle.std.specs.List.{range_with_len}
use Rattle.std.proofs.lemmas.Iterator.{YieldsList}
use Rattle.std.proofs.lemmas.Iterator.Consumers.{YieldsList-from_shown}
use Rattle.cal_days.specs.Day.{IsBetween, IsValidDay}
use Rattle.cal_days.specs.Sums.{years_up}
use Rattle.cal_days.proofs.Signed.{signed}
use Rattle.cal_holidays.specs.Items.{holiday_of}
use Rattle.cal_holidays.specs.Listing.{left_of, pair_given}
use Rattle.cal_holidays.specs.Merging.{Stretch, listed, pairs_in, pairs_on}
use Rattle.cal_holidays.specs.declared.merged.Holiday.{Holiday}
use Rattle.cal_holidays.specs.declared.rest.Rest.{Rest}

-- each pair of a list is on a day from a first one to a last one
abbrev Within : ℤ → ℤ → List (ℤ × ℕ) → Type 0
Within first last [] = ⊤
Within first last (p ∷ more) = IsBetween first last p.0 × Within first last more

within-append : (first last : ℤ) (xs ys : List (ℤ × ℕ)) → Within first last xs → Within first last ys → Within first last (xs ++ ys)
within-append first last [] ys h k = k
within-append first last (p ∷ xs) ys (here, h) k = (here, within-append first last xs ys h k)

within-filter : (first last : ℤ) (test : ℤ × ℕ → Bool) (xs : List (ℤ × ℕ)) → Within first last xs → Within first last (filter test xs)
within-filter first last test [] h = tt
within-filter first last test (p ∷ xs) (here, h) = by (test p) (within-filter first last test xs h)
  where
    by : (b : Bool) → Within first last (filter test xs) → Within first last (cond b (p ∷ filter test xs) (filter test xs))
    by true rest = (here, rest)
    by false rest = rest

within-on : (first last n : ℤ) (rules : List ℕ) → IsBetween first last n → Within first last (map (λ r. (n, r)) rules)
within-on first last n [] h = tt
within-on first last n (r ∷ rules) h = (h, within-on first last n rules h)

within-in : (first last : ℤ) (count : ℕ) (n : ℤ) (days : ℕ) → first ≤ℤ n → (n +ℤ pos days) ≤ℤ (last +ℤ pos 1) → Within first last (pairs_in count n days)
within-in first last count n zero low high = tt
within-in first last count n (suc days) low high =
    within-append first last (pairs_on count n 0) (pairs_in count (n +ℤ pos 1) days)
    (within-on first last n (range_with_len 0 (count - 0)) (omega (arith, signed, low, high), omega (arith, signed, low, high)))
    (within-in first last count (n +ℤ pos 1) days (omega (arith, signed, low)) (omega (arith, signed, high)))

within-listed : (names : ℕ → ℤ → Bool) (count : ℕ) (s : Stretch) → s.first ≤ℤ s.last → Within s.first s.last (listed names count s)
within-listed names count s order =
    within-filter s.first s.last (λ p. names p.1 p.0) _
    (within-append s.first s.last (pairs_on count s.first s.first_rule) (pairs_in count (s.first +ℤ pos 1) (years_up (s.last -ℤ s.first)))
    (within-on s.first s.last s.first (range_with_len s.first_rule (count - s.first_rule)) (omega (arith, signed), omega (arith, signed, order)))
    (within-in s.first s.last count (s.first +ℤ pos 1) (years_up (s.last -ℤ s.first)) (omega (arith, signed)) (omega (arith, signed, order))))

-- the first day that is left is valid
pub first_left-valid : (names : ℕ → ℤ → Bool) (count : ℕ) (rest : Option Rest) (p : ℤ × ℕ) (more : List (ℤ × ℕ)) → left_of names count rest ≡ p ∷ more → IsValidDay p.0
first_left-valid names count None p more e = cc
first_left-valid names count (Some r) p more e =
    let days = r.window.days in
    let within = subst (Within r.window.first r.window.last) e (within-listed names count (record { first = r.window.first; last = r.window.last; first_rule = r.first_rule }) days.order) in
    (omega (arith, signed, within.0, days.from), omega (arith, signed, within.0, days.to))

-- an iterator that gives the first of the pairs that are left gives their items
pub holidays-yielded : {S : Type 0} (left : S → List (ℤ × ℕ)) (s : S) (all : List (ℤ × ℕ)) → left s ≡ all → YieldsList (YieldsFirstBy pair_given left) (λ (x : Holiday). x) s (map holiday_of all)
holidays-yielded {S} left s all e =
    subst (λ l. YieldsList (YieldsFirstBy pair_given left) (λ (x : Holiday). x) s (map holiday_of l)) e
    (YieldsList-from_shown (YieldsFirstBy pair_given left) (λ (x : Holiday). x) (λ t. map holiday_of (left t)) (λ t u h. ap (λ l. length (map holiday_of l)) h.0) (λ t x u h. ap (map holiday_of) h) s)
