-- The first day to which own days move is found from year to year.
use Rattle.std.proofs.Common.{◌≡◌, ◌<◌, ◌≤◌, ◌⊎◌, ◌+◌, ◌*◌, inl, inr, ⊎_elim, ℕ, Bool, true, false, if◌then◌else◌, List, Option, Some, None, refl, sym, ap, subst, ◌∙◌, arith, ℤ, pos, ◌+ℤ◌, ◌-ℤ◌, ◌<ℤ◌, ◌≤ℤ◌}
use Rattle.std.specs.Prelude.{int_le}
use Rattle.std.proofs.Math.Nat.{mul-le-mul_right}
use Rattle.std.proofs.lemmas.Int.{ints}
use Rattle.cal_days.specs.Day.{IsBetween, IsValidDay, is_between}
use Rattle.cal_days.specs.Division.{floor_mod}
use Rattle.cal_days.specs.Sums.{years_up}
use Rattle.cal_days.proofs.RangeLemmas.{is_between-true, true-is_between}
use Rattle.cal_days.proofs.Signed.{by_lt, signed}
use Rattle.cal_types.proofs.DateTests.{not_true}
use Rattle.cal_holidays.specs.Merging.{IsFirstDay}
use Rattle.cal_holidays.specs.Moving.{IsLeast, IsSomeValid, MovesIn, earlier_day, if_between, is_settled, moved_between, step_year}
use Rattle.cal_holidays.specs.NamedDays.{MovesTo}
use Rattle.cal_holidays.specs.Observing.{move_on}
use Rattle.cal_holidays.specs.OwnDays.{IsValidOne}
use Rattle.cal_holidays.specs.declared.rule_years.YearSteps.{YearSteps}

-- the year that comes a step later
pub step_next : (steps : YearSteps) (j : ℕ) → step_year steps (j + 1) ≡ step_year steps j +ℤ pos steps.every
step_next steps j =
    let whole : (j + 1) * steps.every ≡ j * steps.every + steps.every = omega arith in
    omega (arith, signed, whole)

-- a step towards a last year
pub left_falls : (from next last : ℤ) → from <ℤ next → from ≤ℤ last → years_up (last +ℤ pos 1 -ℤ next) < years_up (last +ℤ pos 1 -ℤ from)
left_falls from next last lt le = omega (arith, signed)

module _ (first last : ℤ) where
  -- the first day of two properties is the earlier one of theirs
  pub least-both : (P Q : ℤ → Type 0) (a b : Option ℤ) → IsLeast P first last a → IsLeast Q first last b → IsLeast (λ n. P n ⊎ Q n) first last (earlier_day a b)
  least-both P Q None None p q = λ n within is. ⊎_elim (λ x. p n within x) (λ y. q n within y) is
  least-both P Q None (Some m) p q = (q.0, inr q.1, λ n within is. ⊎_elim (λ x. absurd (p n within x)) (λ y. q.2 n within y) is)
  least-both P Q (Some n) None p q = (p.0, inl p.1, λ m within is. ⊎_elim (λ x. p.2 m within x) (λ y. absurd (q m within y)) is)
  least-both P Q (Some n) (Some m) p q = by (int_le n m) refl
    where
      by : (b : Bool) → int_le n m ≡ b → IsLeast (λ k. P k ⊎ Q k) first last (if b then Some n else Some m)
      by true e = (p.0, inl p.1, λ k within is. ⊎_elim (λ x. p.2 k within x) (λ y. omega (arith, signed, e, q.2 k within y)) is)
      by false e = (q.0, inr q.1, λ k within is. ⊎_elim (λ x. omega (arith, signed, e, p.2 k within x)) (λ y. q.2 k within y) is)

  -- the first day of one property is that of another that holds of the same days
  pub least-same : (P Q : ℤ → Type 0) (day : Option ℤ) → ((n : ℤ) → IsBetween first last n → P n → Q n) → ((n : ℤ) → IsBetween first last n → Q n → P n)
      → IsLeast P first last day → IsLeast Q first last day
  least-same P Q None to from p = λ n within q. p n within (from n within q)
  least-same P Q (Some n) to from p = (p.0, to n p.0 p.1, λ m within q. p.2 m within (from m within q))

  -- the first day that a test passes is that of a property which it decides
  pub least-first : (P : ℤ → Type 0) (test : ℤ → Bool) (day : Option ℤ) → ((n : ℤ) → test n ≡ true → P n) → ((n : ℤ) → P n → test n ≡ true)
      → IsLeast P first last day → IsFirstDay test first last day
  least-first P test None to from p = λ n within. not_true (test n) (λ h. p n within (to n h))
  least-first P test (Some n) to from p = (
    p.0,
    from n p.1,
    λ m low lt. not_true (test m) (λ h.
        let within : IsBetween first last m = (low, omega (arith, signed, lt, p.0.1)) in
        omega (arith, signed, lt, p.2 m within (to m h))),
  )

  -- the day is a valid one, where the window's days are
  pub least-valid : (P : ℤ → Type 0) (day : Option ℤ) → IsValidDay first → IsValidDay last → IsLeast P first last day → IsSomeValid day
  least-valid P None from to p = tt
  least-valid P (Some n) from to p = (omega (arith, signed, from.0, p.0.0), omega (arith, signed, to.1, p.0.1))

-- an own day of one of the first so many years moves to a day
abbrev pub Before : (ℤ → ℤ → Type 0) → List (Option ℤ) → YearSteps → ℕ → ℤ → Type 0
Before Own moves steps j n = (i : ℕ) × (i < j) × (step_year steps i ≤ℤ steps.last) × MovesTo Own moves (step_year steps i) n

module _ (Own : ℤ → ℤ → Type 0) (rises : (y z m n : ℤ) → y ≤ℤ z → Own y m → IsValidDay m → Own z n → IsValidDay n → m ≤ℤ n) (moves : List (Option ℤ)) (first last : ℤ) where
  one : (y m n : ℤ) → Own y m → IsValidDay m → Own y n → IsValidDay n → m ≡ n
  one y m n p v q w = omega (arith, signed, rises y y m n (omega (arith, signed)) p v q w, rises y y n m (omega (arith, signed)) q w p v)

  -- the day to which the own day of a year moves
  pub least-moved : (y : ℤ) (own : Option ℤ) → IsValidOne (Own y) own → IsLeast (MovesTo Own moves y) first last (moved_between moves first last own)
  least-moved y None none = λ n within t. none t.own t.valid t.is_own
  least-moved y (Some o) is = by (is_between first last x) refl
    where
      x : ℤ
      x = o +ℤ move_on moves (floor_mod o 7)

      there : (n : ℤ) → MovesTo Own moves y n → n ≡ o +ℤ move_on moves (floor_mod o 7)
      there n t = t.moved ∙ ap (λ (z : ℤ). z +ℤ move_on moves (floor_mod z 7)) (one y t.own o t.is_own t.valid is.0 is.1)

      by : (b : Bool) → is_between first last (o +ℤ move_on moves (floor_mod o 7)) ≡ b
          → IsLeast (MovesTo Own moves y) first last (if b then Some (o +ℤ move_on moves (floor_mod o 7)) else None)
      by true e = (
        is_between-true first last _ e,
        record { own = o; is_own = is.0; valid = is.1; moved = refl },
        λ n within t. omega (arith, signed, there n t),
      )
      by false e = λ n within t.
          let inside = subst (λ (z : ℤ). IsBetween first last z) (there n t) within in
          let yes = true-is_between first last _ inside in
          let no : true ≡ false = sym yes ∙ e in absurd cc

  module _ (steps : YearSteps) where
    later_year : (i j : ℕ) → i ≤ j → step_year steps i ≤ℤ step_year steps j
    later_year i j le = omega (arith, signed, mul-le-mul_right steps.every le)

    pub least-none : IsLeast (Before Own moves steps 0) first last None
    least-none = λ n within is. absurd (omega (arith, is.1))

    -- one more year
    pub least-next : (j : ℕ) (best own : Option ℤ) → step_year steps j ≤ℤ steps.last → IsLeast (Before Own moves steps j) first last best → IsValidOne (Own (step_year steps j)) own
        → IsLeast (Before Own moves steps (j + 1)) first last (earlier_day best (moved_between moves first last own))
    least-next j best own le before is =
        least-same first last (λ n. Before Own moves steps j n ⊎ MovesTo Own moves (step_year steps j) n) (Before Own moves steps (j + 1)) (earlier_day best (moved_between moves first last own))
        (λ n within here. ⊎_elim (λ p. (p.0, omega (arith, p.1), p.2, p.3)) (λ t. (j, omega arith, le, t)) here)
        (λ n within p. by_lt {P = Before Own moves steps j n ⊎ MovesTo Own moves (step_year steps j) n} p.0 j (λ lt. inl (p.0, lt, p.2, p.3)) (λ ge.
        let same : p.0 ≡ j = omega (arith, ge, p.1) in
        inr (subst (λ (k : ℕ). MovesTo Own moves (step_year steps k) n) same p.3)))
        (least-both first last (Before Own moves steps j) (MovesTo Own moves (step_year steps j)) best (moved_between moves first last own) before (least-moved (step_year steps j) own is))

    -- the same of what the loop holds
    pub least-step : (j : ℕ) (y : ℤ) (best own moved next : Option ℤ) → y ≡ step_year steps j → y ≤ℤ steps.last → IsLeast (Before Own moves steps j) first last best
        → IsValidOne (Own y) own → moved ≡ moved_between moves first last own → next ≡ earlier_day best moved → IsLeast (Before Own moves steps (j + 1)) first last next
    least-step j y best own moved next year le before is by e =
        let there = subst (λ (z : ℤ). IsValidOne (Own z) own) year is in
        let low : step_year steps j ≤ℤ steps.last = omega (arith, signed, le, year) in
        subst (λ o. IsLeast (Before Own moves steps (j + 1)) first last o) (sym (e ∙ ap (earlier_day best) by)) (least-next j best own low before there)

    -- behind the last year
    pub least-ended : (j : ℕ) (best : Option ℤ) → steps.last <ℤ step_year steps j → IsLeast (Before Own moves steps j) first last best → IsLeast (MovesIn Own moves steps) first last best
    least-ended j best past is =
        least-same first last (Before Own moves steps j) (MovesIn Own moves steps) best
        (λ n within p. (p.0, p.2, p.3))
        (λ n within q. (q.0, by_lt {P = q.0 < j} q.0 j (λ lt. lt) (λ ge. absurd (omega (arith, signed, later_year j q.0 ge, past, q.1))), q.1, q.2))
        is

    -- or where no later own day moves before the day that was found
    pub least-settled : (j : ℕ) (best own : Option ℤ) (reach : ℤ) → ((d : ℕ) → IsBetween (pos 0 -ℤ reach) reach (move_on moves d))
        → IsLeast (Before Own moves steps (j + 1)) first last best → IsValidOne (Own (step_year steps j)) own → is_settled best own reach ≡ true
        → IsLeast (MovesIn Own moves steps) first last best
    least-settled j None own reach near best is h = absurd cc
    least-settled j (Some b) None reach near best is h = absurd cc
    least-settled j (Some b) (Some o) reach near best is h = (
      best.0,
      (best.1.0, best.1.2, best.1.3),
      λ n within q. by_lt {P = b ≤ℤ n} q.0 (j + 1) (λ lt. best.2 n within (q.0, lt, q.1, q.2)) (λ ge.
          let t = q.2 in
          let le : j ≤ q.0 = omega (arith, ge) in
          let low = rises (step_year steps j) (step_year steps q.0) o t.own (later_year j q.0 le) is.0 is.1 t.is_own t.valid in
          omega (arith, signed, low, t.moved, (near (floor_mod t.own 7)).0, h)),
    )
