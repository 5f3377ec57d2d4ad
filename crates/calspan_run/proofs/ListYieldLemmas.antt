-- The items of lists: each lies in the window, so that its line can be written.
use Rattle.std.proofs.Common.{◌≡◌, ℕ, zero, suc, ℤ, pos, ◌+ℤ◌, ◌-ℤ◌, ◌≤ℤ◌, ◌<ℤ◌, Bool, true, false, cond, List, [], ◌∷◌, ◌++◌, filter, Option, Some, None, refl, sym, subst, arith}
use Rattle.cal_days.specs.Day.{IsBetween, IsValidDay}
use Rattle.cal_days.specs.Sums.{years_up}
use Rattle.cal_days.proofs.Signed.{signed}
use Rattle.cal_types.specs.MonthParts.{month_parts}
use Rattle.cal_types.specs.Windows.{days_from}
use Rattle.cal_types.specs.declared.window.Window.{Window}
use Rattle.cal_types.specs.Anniversary.{is_anniversary}
use Rattle.cal_types.specs.CalendarList.{CalendarList, Date}
use Rattle.cal_types.specs.CalendarSystem.{CalendarSystem}
use Rattle.cal_anniversary.specs.Listing.{days_left}
use Rattle.cal_anniversary.specs.declared.yearly_day.YearlyDay.{YearlyDay}
use Rattle.std.specs.Option.{option_to_list}
use Rattle.cal_recur.specs.Listing.{listed, occurrences_left, gathered, index_count}
use Rattle.cal_recur.specs.declared.recurrence.Occurrence.{Occurrence}
use Rattle.cal_recur.specs.declared.rule.Rule.{Rule}
use Rattle.cal_recur.proofs.ListingLemmas.{listed-some}

-- the first of some days that pass a test is one of the days
first_passed : (test : ℤ → Bool) (n : ℤ) (count : ℕ) (x : ℤ) (xs : List ℤ) → filter test (days_from n count) ≡ x ∷ xs → (n ≤ℤ x) × (x <ℤ (n +ℤ pos count))
first_passed test n zero x xs e = cc
first_passed test n (suc count) x xs e = by (test n) e (first_passed test (n +ℤ pos 1) count x xs)
  where
    others : List ℤ
    others = filter test (days_from (n +ℤ pos 1) count)

    by : (b : Bool) → cond b (n ∷ others) others ≡ x ∷ xs → (others ≡ x ∷ xs → ((n +ℤ pos 1) ≤ℤ x) × (x <ℤ (n +ℤ pos 1 +ℤ pos count))) → (n ≤ℤ x) × (x <ℤ (n +ℤ pos (suc count)))
    by true e more = let same : n ≡ x = cc in (omega (arith, signed, same), omega (arith, signed, same))
    by false e more = let there = more e in (omega (arith, signed, there.0), omega (arith, signed, there.1))

-- an anniversary that is left is a valid day
pub day_left-valid : (c : CalendarList) (asked : YearlyDay) (rest : Option Window) (x : ℤ) (xs : List ℤ) → days_left c asked rest ≡ x ∷ xs → IsValidDay x
day_left-valid c asked None x xs e = cc
day_left-valid c asked (Some w) x xs e =
    let within = first_passed (is_anniversary c asked.leaping (month_parts asked.month) asked.day) w.first (years_up (w.last -ℤ w.first +ℤ pos 1)) x xs e in
    (omega (arith, signed, within, w.days.from, w.days.to, w.days.order), omega (arith, signed, within, w.days.from, w.days.to, w.days.order))

-- the first that is gathered is one that is given
first_gathered : {A : Type 0} (P : A → Type 0) (f : ℕ → Option A) → ((k : ℕ) (y : A) → f k ≡ Some y → P y) → (n : ℕ) (x : A) (xs : List A) → gathered f n ≡ x ∷ xs → P x
unfolding gathered
first_gathered P f all zero x xs e = cc
first_gathered {A} P f all (suc n) x xs e = by (gathered f n) refl (f n) refl e (first_gathered P f all n)
  where
    by : (before : List A) → before ≡ gathered f n → (o : Option A) → o ≡ f n → before ++ option_to_list o ≡ x ∷ xs → ((y : A) (ys : List A) → gathered f n ≡ y ∷ ys → P y) → P x
    by [] g None h e more = cc
    by [] g (Some y) h e more = let same : y ≡ x = cc in subst P same (all n y (sym h))
    by (y ∷ ys) g o h e more = let same : y ≡ x = cc in subst P same (more y ys (sym g))

-- an occurrence that is left is on a valid day
pub occurrence_left-valid : (s : CalendarSystem) (t : Date) (rule : Rule) (rest : Option Window) (x : Occurrence) (xs : List Occurrence) → occurrences_left s t rule rest ≡ x ∷ xs → IsValidDay x.day
occurrence_left-valid s t rule None x xs e = cc
occurrence_left-valid s t rule (Some w) x xs e =
    let within = first_gathered (λ (y : Occurrence). IsBetween w.first w.last y.day) (listed s t rule w.first w.last) (λ k y h. (listed-some s t rule w.first w.last k y h).1) index_count x xs e in
    (omega (arith, signed, within.0, w.days.from), omega (arith, signed, within.1, w.days.to))
