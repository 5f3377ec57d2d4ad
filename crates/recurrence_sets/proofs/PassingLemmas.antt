-- Days that are passed and counted.
use Rattle.std.proofs.Common.{◌≡◌, ℕ, ◌+◌, ◌⊎◌, inl, inr, Option, Some, None, refl, sym, subst, arith, ℤ, pos, ◌+ℤ◌, ◌≤ℤ◌, ◌<ℤ◌}
use Rattle.std.specs.Option.{ForSome}
use Rattle.std.proofs.lemmas.Int.{by_lt_z}
use Rattle.cal_days.proofs.Signed.{signed}
use Rattle.recurrence_sets.specs.Days.{IsFirstBetween, IsFirstOf}
use Rattle.recurrence_sets.specs.Listing.{AreLooks, ArePassed}
use Rattle.recurrence_sets.specs.Occurrences.{IsOfSome}
use Rattle.recurrence_sets.specs.Passing.{HasPassed, IsPassing}
use Rattle.recurrence_sets.specs.declared.looks.Looks.{Looks}
use Rattle.recurrence_sets.specs.declared.passing.Passed.{Passed}
use Rattle.recurrence_sets.proofs.DayLemmas.{count-empty, count-like, count-push}

-- a day of a kind from a first one to the one before another
abbrev pub IsPassed : (ℤ → Type 0) → ℤ → ℤ → ℤ → Type 0
IsPassed Is first next m = Is m × (first ≤ℤ m) × (m <ℤ next)

module _ (Is : ℤ → Type 0) (first : ℤ) where
  pub passed-none : HasPassed Is first first 0
  passed-none = count-empty (IsPassed Is first first) (λ n h. omega (arith, signed, h.1, h.2))

  -- the first day that wasn't
  pub passed-more : (next last day : ℤ) (index : ℕ) → first ≤ℤ next → IsFirstOf Is next last day → HasPassed Is first next index →
      HasPassed Is first (day +ℤ pos 1) (index + 1)
  passed-more next last day index low found count =
      count-push (IsPassed Is first next) (IsPassed Is first (day +ℤ pos 1)) index day
      (λ m h. omega (arith, signed, h.2, found.within.0))
      (found.kept, omega (arith, signed, low, found.within.0), omega (arith, signed))
      (λ m h. (h.0, h.1, omega (arith, signed, h.2, found.within.0)))
      split count where
        split : (m : ℤ) → IsPassed Is first (day +ℤ pos 1) m → IsPassed Is first next m ⊎ (day ≡ m)
        split m h =
            by_lt_z {P = IsPassed Is first next m ⊎ (day ≡ m)} m next
            (λ lt. inl (h.0, h.1, lt))
            (λ ge. by_lt_z {P = IsPassed Is first next m ⊎ (day ≡ m)} m day
            (λ lt. absurd (found.least m ge lt h.0))
            (λ le. inr (omega (arith, signed, le, h.2))))

  -- days that have none
  pub passed-further : (next day : ℤ) (index : ℕ) → next ≤ℤ day → ((m : ℤ) → next ≤ℤ m → m <ℤ day → ¬ (Is m)) → HasPassed Is first next index →
      HasPassed Is first day index
  passed-further next day index order none count =
      count-like (IsPassed Is first next) (IsPassed Is first day) index
      (λ m h. (h.0, h.1, omega (arith, signed, h.2, order)))
      (λ m h. (h.0, h.1, by_lt_z {P = m <ℤ next} m next (λ lt. lt) (λ ge. absurd (none m ge h.2 h.0)))) count

-- no day is before another, if what was found isn't
pub none-before : (Is : ℤ → Type 0) (next last day : ℤ) (found : Option ℤ) → day ≤ℤ last → IsFirstBetween Is next last found → ForSome found (λ n. day ≤ℤ n) →
    (m : ℤ) → next ≤ℤ m → m <ℤ day → ¬ (Is m)
none-before Is next last day None order none past m low high = none m (low, omega (arith, signed, order, high))
none-before Is next last day (Some n) order first past m low high = first.least m low (omega (arith, signed, high, past n refl))

-- what is passed stays passed, further on
pub passed-on : (Has : ℕ → ℤ → Type 0) (period : ℕ) (next day last : ℤ) → next ≤ℤ day → ArePassed Has period next last → ArePassed Has period day last
passed-on Has period next day last order passed i lt n within has = passed i lt n (omega (arith, signed, order, within.0), within.1) has

module _ (Has : ℕ → ℤ → Type 0) (last : ℤ) (p : Passed) (passing : IsPassing Has last p) (looks : Looks) (looked : AreLooks Has last looks)
    (passed : ArePassed Has looks.period p.next last) where
  -- the days up to the first that was found are passed
  pub pass-some : (found next : ℤ) → IsFirstOf (IsOfSome Has) p.next last found → next ≡ found +ℤ pos 1 →
      IsPassing Has last (record { first = p.first; next = next; index = p.index + 1; looks = looks })
  pass-some found next first is = record {
    order = omega (arith, signed, passing.order, first.within.0, is);
    looked = looked;
    passed = passed-on Has looks.period p.next next last (omega (arith, signed, first.within.0, is)) passed;
    counted = subst (λ (n : ℤ). HasPassed (IsOfSome Has) p.first n (p.index + 1)) (sym is)
        (passed-more (IsOfSome Has) p.first p.next last found p.index passing.order first passing.counted);
    few = omega (arith, signed, passing.few, first.within.0, is);
  }

  -- the days up to another are passed, if none was found before it
  pub pass-none : (day : ℤ) (found : Option ℤ) → p.next ≤ℤ day → day ≤ℤ last → IsFirstBetween (IsOfSome Has) p.next last found → ForSome found (λ n. day ≤ℤ n) →
      IsPassing Has last (record { first = p.first; next = day; index = p.index; looks = looks })
  pass-none day found low high first past = record {
    order = omega (arith, signed, passing.order, low);
    looked = looked;
    passed = passed-on Has looks.period p.next day last low passed;
    counted = passed-further (IsOfSome Has) p.first p.next day p.index low (none-before (IsOfSome Has) p.next last day found high first past) passing.counted;
    few = omega (arith, signed, passing.few, low);
  }

-- at first no day is passed
pub pass-first : (Has : ℕ → ℤ → Type 0) (first last : ℤ) (looks : Looks) → AreLooks Has last looks → looks.period ≡ 0 →
    IsPassing Has last (record { first = first; next = first; index = 0; looks = looks })
pass-first Has first last looks looked is = record {
  order = omega (arith, signed);
  looked = looked;
  passed = λ i lt. absurd (omega (arith, lt, is));
  counted = passed-none (IsOfSome Has) first;
  few = omega (arith, signed);
}
