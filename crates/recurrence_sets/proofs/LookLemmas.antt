-- The first day of any period, from looks at two of them.
use Rattle.std.proofs.Common.{◌≡◌, ℕ, ◌+◌, ◌<◌, ◌≤◌, ◌⊎◌, inl, inr, Bool, true, false, Option, Some, None, MatchOption, refl, sym, subst, arith, ℤ, ◌≤ℤ◌, ◌<ℤ◌}
use Rattle.std.specs.Prelude.{IfSome, IsTrue}
use Rattle.std.specs.Option.{ForSome, is_some}
use mathlib.Core.Bool.{Bool-set}
use mathlib.Core.HLevel.{⊥_prop}
use mathlib.Core.Logic.{∥∥₁_elim, ∥∥₁_map}
use Rattle.cal_days.specs.Day.{IsBetween, IsValidDay}
use Rattle.cal_days.proofs.Signed.{signed, by_lt}
use Rattle.cal_types.specs.Windows.{IsWindow}
use Rattle.recurrence_sets.specs.Days.{IsFirstBetween, IsFirstOf}
use Rattle.recurrence_sets.specs.Listing.{ArePassed, IsLook}
use Rattle.recurrence_sets.specs.Occurrences.{IsOfSome}
use Rattle.recurrence_sets.specs.PeriodBits.{has_day}
use Rattle.recurrence_sets.specs.Periods.{HaveEnded, Holds}
use Rattle.recurrence_sets.specs.declared.period_days.PeriodDays.{PeriodDays}

some-same : {A : Type 0} {x y : A} → Some x ≡ Some y → x ≡ y
some-same e = cc

none-some : {A B : Type 0} {x : A} → None ≡ Some x → B
none-some e = cc

true-prop : (b : Bool) → IsProp (IsTrue b)
true-prop b = hlevel Bool-set

-- the days of a window are valid
pub valid-within : (first last n : ℤ) → IsWindow first last → IsBetween first last n → IsValidDay n
valid-within first last n w within = (omega (arith, signed, w.from, within.0), omega (arith, signed, w.to, within.1))

-- what was found in days, if there are days
abbrev pub Finds : ℤ → ℤ → Option PeriodDays → Option ℤ → Type 0
Finds first last days found =
    MatchOption days (found ≡ None) (λ d. IsFirstBetween (λ n. IsTrue (has_day d n)) first last found)

-- a day is the one or the other, and is at or before both
pub record IsEarlier (day : ℤ) (other : Option ℤ) (n : ℤ) : Type 0 where
  pub first : n ≤ℤ day
  pub second : ForSome other (λ m. n ≤ℤ m)
  pub either : (n ≡ day) ⊎ (other ≡ Some n)

module _ (Has : ℕ → ℤ → Type 0) where
  -- the answer of a look
  pub look-of : (period : ℕ) (last : ℤ) (found : Option PeriodDays) →
      MatchOption found (HaveEnded Has period last) (Holds (Has period)) → IfSome found (λ _. period < 4294967295) →
      IsLook Has last period found
  look-of period last None ended few = record {
    none = λ _. ended;
    some = λ d e. none-some e;
    few = λ d e. none-some e;
  }
  look-of period last (Some days) holds few = record {
    none = λ e. none-some (sym e);
    some = λ d e. subst (Holds (λ n. ∥ Has period n ∥₁)) (some-same e) (λ n valid. (
      λ has. ∣ (holds n valid).0 has ∣₁,
      λ has. ∥∥₁_elim has (true-prop (has_day days n)) (λ h. (holds n valid).1 h),
    ));
    few = λ _ _. few;
  }

  -- where a period has ended, the next one has
  pub look-none : (period : ℕ) (last : ℤ) → IsLook Has last period None → IsLook Has last (period + 1) None
  look-none period last look = record {
    none = λ _ j le. look.none refl j (omega (arith, le));
    some = λ d e. none-some e;
    few = λ d e. none-some e;
  }

  module _ (first last : ℤ) (window : IsWindow first last) (period : ℕ) (passed : ArePassed Has period first last) where
    -- no day is left where the period has ended
    pub ended-none : IsLook Has last period None → (n : ℤ) → IsBetween first last n → ¬ (IsOfSome Has n)
    ended-none look n within some =
        ∥∥₁_elim some ⊥_prop (λ (k, has).
        by_lt {P = ⊥} k period (λ lt. passed k lt n within has)
        (λ ge. look.none refl k ge n (valid-within first last n window within) within.1 has))

    -- a period without days from the one to the other is passed
    pub passed-next : (days : PeriodDays) → Holds (λ n. ∥ Has period n ∥₁) days →
        ((n : ℤ) → IsBetween first last n → ¬ (IsTrue (has_day days n))) → ArePassed Has (period + 1) first last
    passed-next days holds none i lt n within has =
        by_lt {P = ⊥} i period (λ low. passed i low n within has)
        (λ high.
        let same : i ≡ period = omega (arith, lt, high) in
        none n within ((holds n (valid-within first last n window within)).1 ∣ subst (λ (k : ℕ). Has k n) same has ∣₁))

    -- the first day of a period and of the next one is the first of any
    pub first-of_two : ((i j : ℕ) (m n : ℤ) → i + 2 ≤ j → IsValidDay m → IsValidDay n → Has i m → Has j n → m <ℤ n) →
        (days : PeriodDays) → Holds (λ n. ∥ Has period n ∥₁) days → (day : ℤ) → IsFirstOf (λ n. IsTrue (has_day days n)) first last day →
        (following : Option PeriodDays) → IsLook Has last (period + 1) following → (other : Option ℤ) → Finds first last following other →
        (n : ℤ) → IsEarlier day other n → IsFirstOf (IsOfSome Has) first last n
    first-of_two apart days holds day one following look other finds n earlier = record {
      kept = found.0;
      within = found.1;
      least = before;
    } where
      own : ∥ Has period day ∥₁
      own = (holds day (valid-within first last day window one.within)).0 one.kept

      -- the other day is of the next period
      next : (f : Option PeriodDays) → IsLook Has last (period + 1) f → Finds first last f (Some n) → IsOfSome Has n × IsBetween first last n
      next None l e = none-some (sym e)
      next (Some d) l e = (∥∥₁_map ((l.some d refl n (valid-within first last n window e.within)).0 e.kept) (λ has. (period + 1, has)), e.within)

      from : (n ≡ day) ⊎ (other ≡ Some n) → IsOfSome Has n × IsBetween first last n
      from (inl same) = (subst (IsOfSome Has) (sym same) (∥∥₁_map own (λ has. (period, has))), subst (IsBetween first last) (sym same) one.within)
      from (inr same) = next following look (subst (Finds first last following) same finds)

      found : IsOfSome Has n × IsBetween first last n
      found = from earlier.either

      -- no day of the next period is before it
      none-next : (f : Option PeriodDays) → IsLook Has last (period + 1) f → (o : Option ℤ) → Finds first last f o → ForSome o (λ m. n ≤ℤ m) →
          (m : ℤ) → first ≤ℤ m → m <ℤ n → m ≤ℤ last → Has (period + 1) m → ⊥
      none-next None l o e low m high late end has =
          l.none refl (period + 1) (omega arith) m (valid-within first last m window (high, end)) end has
      none-next (Some d) l None none low m high late end has =
          none m (high, end) ((l.some d refl m (valid-within first last m window (high, end))).1 ∣ has ∣₁)
      none-next (Some d) l (Some k) e low m high late end has =
          e.least m high (omega (arith, signed, late, low k refl)) ((l.some d refl m (valid-within first last m window (high, end))).1 ∣ has ∣₁)

      before : (m : ℤ) → first ≤ℤ m → m <ℤ n → ¬ (IsOfSome Has m)
      before m high late some = ∥∥₁_elim some ⊥_prop (λ (k, has). by_period k has) where
        end : m ≤ℤ last
        end = omega (arith, signed, late, found.1)

        valid : IsValidDay m
        valid = valid-within first last m window (high, end)

        at : (k : ℕ) → Has k m → k ≡ period → ⊥
        at k has same = one.least m high (omega (arith, signed, late, earlier.first)) ((holds m valid).1 ∣ subst (λ (i : ℕ). Has i m) same has ∣₁)

        behind : (k : ℕ) → Has k m → period + 2 ≤ k → ⊥
        behind k has le =
            ∥∥₁_elim own ⊥_prop (λ here.
            let past = apart period k day m le (valid-within first last day window one.within) valid here has in
            absurd (omega (arith, signed, past, late, earlier.first)))

        by_period : (k : ℕ) → Has k m → ⊥
        by_period k has =
            by_lt {P = ⊥} k period (λ lt. passed k lt m (high, end) has)
            (λ ge. by_lt {P = ⊥} period k
            (λ lt. by_lt {P = ⊥} (period + 1) k (λ far. behind k has (omega (arith, far)))
            (λ near.
            let same : k ≡ period + 1 = omega (arith, lt, near) in
            none-next following look other finds earlier.second m high late end (subst (λ (i : ℕ). Has i m) same has)))
            (λ le. at k has (omega (arith, ge, le))))

    -- the same of looks
    pub looks-first : ((i j : ℕ) (m n : ℤ) → i + 2 ≤ j → IsValidDay m → IsValidDay n → Has i m → Has j n → m <ℤ n) →
        (current : Option PeriodDays) → IsLook Has last period current → (day : ℤ) → Finds first last current (Some day) →
        (following : Option PeriodDays) → IsLook Has last (period + 1) following → (other : Option ℤ) → Finds first last following other →
        (n : ℤ) → IsEarlier day other n → IsFirstOf (IsOfSome Has) first last n
    looks-first apart None look day finds following next other found n earlier = none-some (sym finds)
    looks-first apart (Some days) look day one following next other found n earlier =
        first-of_two apart days (look.some days refl) day one following next other found n earlier

    pub looks-ended : (current : Option PeriodDays) → IsLook Has last period current → is_some current ≡ false →
        (n : ℤ) → IsBetween first last n → ¬ (IsOfSome Has n)
    looks-ended None look none = ended-none look
    looks-ended (Some days) look none = cc

    pub looks-passed : (current : Option PeriodDays) → IsLook Has last period current → Finds first last current None →
        is_some current ≡ true → ArePassed Has (period + 1) first last
    looks-passed None look finds some = cc
    looks-passed (Some days) look none some = passed-next days (look.some days refl) none
