-- The list of a window, from its first anniversary on.
use Rattle.std.proofs.Common.{◌≡◌, ℕ, zero, suc, Bool, true, false, cond, List, [], ◌∷◌, filter, Option, Some, None, refl, sym, ap, ◌∙◌, subst, arith, ℤ, pos, ◌+ℤ◌, ◌-ℤ◌, ◌<ℤ◌, ◌≤ℤ◌}
use Rattle.std.specs.Prelude.{option_map, slice_get}
use Rattle.std.proofs.lemmas.Int.{by_lt_z}
use Rattle.cal_days.specs.Day.{IsBetween, IsValidDay}
use Rattle.cal_days.specs.Sums.{years_up}
use Rattle.cal_days.proofs.Signed.{signed}
use Rattle.cal_types.specs.Month.{MonthParts}
use Rattle.cal_types.specs.CalendarList.{CalendarList, IsLawful}
use Rattle.cal_types.proofs.DateTests.{not_true}
use Rattle.cal_types.specs.Anniversary.{is_anniversary, anniversaries_between}
use Rattle.cal_anniversary.specs.Listing.{AreInYears, anniversaries_in}
use Rattle.cal_types.specs.WindowDays.{IsAfter}
use Rattle.cal_types.specs.Windows.{days_from, days_between}
use Rattle.cal_anniversary.specs.Found.{IsFirstFound}
use Rattle.cal_anniversary.specs.YearlyDays.{IsOfYear, IsFirst, HasNone}
use Rattle.cal_types.specs.declared.leaping.Leaping.{Leaping}
use Rattle.cal_types.specs.declared.window.Window.{Window}
use Rattle.cal_anniversary.specs.declared.yearly_day.Found.{Found}
use Rattle.cal_types.proofs.AnniversaryLemmas.{anniversary-true, true-anniversary}
use Rattle.cal_anniversary.proofs.YearLemmas.{one_of_year, years_rise}

filter-step : (test : ℤ → Bool) (n : ℤ) (count : ℕ) (b : Bool) → test n ≡ b → filter test (days_from n (suc count)) ≡ cond b (n ∷ filter test (days_from (n +ℤ pos 1) count)) (filter test (days_from (n +ℤ pos 1) count))
filter-step test n count b e = ap (λ (v : Bool). cond v (n ∷ filter test (days_from (n +ℤ pos 1) count)) (filter test (days_from (n +ℤ pos 1) count))) e

-- none of so many days passes
filter-none : (test : ℤ → Bool) (n : ℤ) (count : ℕ) → ((k : ℤ) → n ≤ℤ k → k <ℤ (n +ℤ pos count) → test k ≡ false) → filter test (days_from n count) ≡ []
filter-none test n zero fails = refl
filter-none test n (suc count) fails =
    filter-step test n count false (fails n (omega (arith, signed)) (omega (arith, signed)))
    ∙ filter-none test (n +ℤ pos 1) count (λ k low high. fails k (omega (arith, signed)) (omega (arith, signed)))

-- the first that passes comes first
filter-first : (test : ℤ → Bool) (n : ℤ) (count : ℕ) (x : ℤ) → n ≤ℤ x → x <ℤ (n +ℤ pos count) → test x ≡ true → ((k : ℤ) → n ≤ℤ k → k <ℤ x → test k ≡ false) → filter test (days_from n count) ≡ x ∷ filter test (days_from (x +ℤ pos 1) (years_up (n +ℤ pos count -ℤ (x +ℤ pos 1))))
filter-first test n zero x low high holds fails = absurd (omega (arith, signed))
filter-first test n (suc count) x low high holds fails =
    by_lt_z {P = filter test (days_from n (suc count)) ≡ x ∷ filter test (days_from (x +ℤ pos 1) (years_up (n +ℤ pos (suc count) -ℤ (x +ℤ pos 1))))} n x
    (λ lt.
    let same : n +ℤ pos 1 +ℤ pos count ≡ n +ℤ pos (suc count) = omega (arith, signed) in
    let rest = filter-first test (n +ℤ pos 1) count x (omega (arith, signed)) (omega (arith, signed)) holds (λ k low high. fails k (omega (arith, signed)) high) in
    filter-step test n count false (fails n (omega (arith, signed)) lt) ∙ rw same at rest)
    (λ ge.
    let here : n ≡ x = omega (arith, signed) in
    let left : count ≡ years_up (x +ℤ pos (suc count) -ℤ (x +ℤ pos 1)) = omega (arith, signed) in
    rw here (filter-step test x count true holds ∙ ap (λ (k : ℕ). x ∷ filter test (days_from (x +ℤ pos 1) k)) left))

-- no day of a window passes
between-none : (test : ℤ → Bool) (first last : ℤ) → ((k : ℤ) → IsBetween first last k → test k ≡ false) → filter test (days_between first last) ≡ []
between-none test first last fails = filter-none test first (years_up (last -ℤ first +ℤ pos 1)) (λ k low high. fails k (low, omega (arith, signed)))

-- the first of a window, and the days after it
between-first : (test : ℤ → Bool) (first last x : ℤ) → IsBetween first last x → test x ≡ true → ((k : ℤ) → first ≤ℤ k → k <ℤ x → test k ≡ false) → filter test (days_between first last) ≡ x ∷ filter test (days_between (x +ℤ pos 1) last)
between-first test first last x within holds fails =
    let count = years_up (last -ℤ first +ℤ pos 1) in
    let left : years_up (first +ℤ pos count -ℤ (x +ℤ pos 1)) ≡ years_up (last -ℤ (x +ℤ pos 1) +ℤ pos 1) = omega (arith, signed, within) in
    filter-first test first count x within.0 (omega (arith, signed, within)) holds fails
    ∙ ap (λ (k : ℕ). x ∷ filter test (days_from (x +ℤ pos 1) k)) left

module _ (c : CalendarList) (law : IsLawful c) (leaping : Leaping) (m : MonthParts) (d : ℕ) where
  -- what is left after the first one is the list of the days after it
  after_first : (w : Window) (x : ℤ) (rest : Option Window) → IsAfter w x rest → filter (is_anniversary c leaping m d) (days_between (x +ℤ pos 1) w.last) ≡ anniversaries_in c leaping m d rest
  after_first w x None e =
      let none : years_up (w.last -ℤ (x +ℤ pos 1) +ℤ pos 1) ≡ 0 = omega (arith, signed, e) in
      ap (λ (k : ℕ). filter (is_anniversary c leaping m d) (days_from (x +ℤ pos 1) k)) none
  after_first w x (Some r) (first, last) =
      ap (λ (n : ℤ). anniversaries_between c leaping m d n w.last) (sym first) ∙ ap (anniversaries_between c leaping m d r.first) (sym last)

  of_year : (n : ℤ) → IsValidDay n → is_anniversary c leaping m d n ≡ true → (y : ℤ) × IsOfYear c leaping m d y n
  of_year n valid h =
      let is = anniversary-true c law leaping m d n h in
      (is.date.year, record { date = is.date; on = is.on; valid = valid; named = is.named; year = refl })

  window_day-valid : (w : Window) (n : ℤ) → IsBetween w.first w.last n → IsValidDay n
  window_day-valid w n within = (omega (arith, signed, within, w.days.from), omega (arith, signed, within, w.days.to))

  -- where none of the years has an anniversary in the window, its list is empty
  pub none-left : (w : Window) (first last : ℤ) → AreInYears c leaping m d first last (Some w) → HasNone c leaping m d w.first w.last first (last +ℤ pos 1) → anniversaries_in c leaping m d (Some w) ≡ []
  none-left w first last years none =
      between-none (is_anniversary c leaping m d) w.first w.last (λ k within.
      not_true (is_anniversary c leaping m d k) (λ h.
      let there = of_year k (window_day-valid w k within) h in
      let year = years w there.0 k refl within there.1 in
      none there.0 k year.0 (omega (arith, signed, year.1)) within there.1))

  not_before : (w : Window) (first last n y : ℤ) → AreInYears c leaping m d first last (Some w) → IsFirst c leaping m d w.first w.last first last n y → (k : ℤ) → w.first ≤ℤ k → k <ℤ n → is_anniversary c leaping m d k ≡ true → ⊥
  not_before w first last n y years is k low lt h =
      let within : IsBetween w.first w.last k = (low, omega (arith, signed, is.within.1)) in
      let there = of_year k (window_day-valid w k within) h in
      let z = there.0 in
      let year = years w z k refl within there.1 in
      by_lt_z {P = ⊥} z y
      (λ before. is.none_before z k year.0 before within there.1)
      (λ ge. by_lt_z {P = ⊥} y z
      (λ later. omega (arith, signed, years_rise c law n k is.of_year.date there.1.date is.of_year.on there.1.on (omega (arith, signed, is.of_year.year, there.1.year))))
      (λ le.
      let same : z ≡ y = omega (arith, signed) in
      omega (arith, signed, one_of_year c law leaping m d y n k is.of_year (subst (λ (v : ℤ). IsOfYear c leaping m d v k) same there.1))))

  -- the first one that is found comes first, before the days after it
  first-between : (w : Window) (first last n y : ℤ) → AreInYears c leaping m d first last (Some w) → IsFirst c leaping m d w.first w.last first last n y → anniversaries_between c leaping m d w.first w.last ≡ n ∷ anniversaries_between c leaping m d (n +ℤ pos 1) w.last
  first-between w first last n y years is =
      let there = is.of_year in
      between-first (is_anniversary c leaping m d) w.first w.last n is.within
      (true-anniversary c law leaping m d n (record { date = there.date; on = there.on; named = there.named }))
      (λ k low lt. not_true (is_anniversary c leaping m d k) (not_before w first last n y years is k low lt))

  pub first-left : (w : Window) (first last n y : ℤ) (rest : Option Window) → AreInYears c leaping m d first last (Some w) → IsFirst c leaping m d w.first w.last first last n y → IsAfter w n rest → anniversaries_in c leaping m d (Some w) ≡ n ∷ anniversaries_in c leaping m d rest
  first-left w first last n y rest years is left =
      first-between w first last n y years is ∙ ap (λ (xs : List ℤ). n ∷ xs) (after_first w n rest left)

  -- what the search of the years finds is the first of the list
  pub first-found : (w : Window) (first last : ℤ) (found : Option Found) → AreInYears c leaping m d first last (Some w) → IsFirstFound c leaping m d w.first w.last first last found → option_map (λ f. f.day) found ≡ slice_get (anniversaries_between c leaping m d w.first w.last) 0
  first-found w first last None years none = ap (λ (xs : List ℤ). slice_get xs 0) (sym (none-left w first last years none))
  first-found w first last (Some f) years is = ap (λ (xs : List ℤ). slice_get xs 0) (sym (first-between w first last f.day f.year years is))

  -- and what is left lies in the years after its own
  pub years-left : (w : Window) (first last n y : ℤ) (rest : Option Window) → AreInYears c leaping m d first last (Some w) → IsFirst c leaping m d w.first w.last first last n y → IsAfter w n rest → AreInYears c leaping m d (y +ℤ pos 1) last rest
  years-left w first last n y None years is left r z k e within there = cc
  years-left w first last n y (Some s) years is left r z k e within there =
      let same : s ≡ r = cc in
      let low : r.first ≡ n +ℤ pos 1 = ap (λ (v : Window). v.first) (sym same) ∙ left.0 in
      let high : r.last ≡ w.last = ap (λ (v : Window). v.last) (sym same) ∙ left.1 in
      let inside : IsBetween w.first w.last k = (omega (arith, signed, within.0, is.within.0), omega (arith, signed, within.1)) in
      let year = years w z k refl inside there in
      by_lt_z {P = IsBetween (y +ℤ pos 1) last z} y z
      (λ later. (omega (arith, signed), year.1))
      (λ ge. absurd (by_lt_z {P = ⊥} z y
      (λ before. omega (arith, signed, within.0, years_rise c law k n there.date is.of_year.date there.on is.of_year.on (omega (arith, signed, is.of_year.year, there.year))))
      (λ le.
      let one : z ≡ y = omega (arith, signed) in
      omega (arith, signed, within.0, one_of_year c law leaping m d y n k is.of_year (subst (λ (v : ℤ). IsOfYear c leaping m d v k) one there)))))
