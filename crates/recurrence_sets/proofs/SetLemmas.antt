-- Days in a set of bits, by how far they are behind its first day.
use Rattle.std.proofs.Common.{◌≡◌, ◌∙◌, ℕ, zero, suc, ◌+◌, ◌*◌, ◌<◌, ◌≤◌, ◌⊎◌, inl, inr, Bool, true, false, cond, length, refl, sym, ap, subst, arith, ℤ, pos, negsuc, ◌+ℤ◌, ◌-ℤ◌, ◌≤ℤ◌, ◌<ℤ◌}
use Rattle.std.specs.Prelude.{IsTrue}
use Rattle.cal_days.specs.Day.{IsBetween}
use Rattle.cal_days.proofs.Signed.{signed, by_lt, by_bool}
use Rattle.cal_rule.specs.Sets.{has_number}
use Rattle.recurrence_sets.specs.Days.{HasCount, IsFirstOf}
use Rattle.recurrence_sets.specs.Numbers.{IsFirstPassing, count_below}
use Rattle.recurrence_sets.specs.PeriodBits.{has_day, has_offset}
use Rattle.recurrence_sets.specs.declared.period_days.PeriodDays.{PeriodDays}
use Rattle.recurrence_sets.proofs.DayLemmas.{count-empty, count-like, count-push}
use Rattle.recurrence_sets.proofs.NumberLemmas.{count-suc, count-zero}
use Rattle.recurrence_sets.proofs.WordLemmas.{number-past}

-- ---- days as numbers

pub day-at : (d : PeriodDays) (i : ℕ) → has_day d (d.first +ℤ pos i) ≡ has_number d.words i
day-at d i = let back : d.first +ℤ pos i -ℤ d.first ≡ pos i = omega (arith, signed) in ap (has_offset d.words) back

-- a day of a set is so far behind its first
pub record Offset (d : PeriodDays) (n : ℤ) : Type 0 where
  pub offset : ℕ
  pub is : n ≡ d.first +ℤ pos offset
  pub has : has_number d.words offset ≡ true

pub day-offset : (d : PeriodDays) (n : ℤ) → IsTrue (has_day d n) → Offset d n
day-offset d n has = by_offset (n -ℤ d.first) refl has where
  by_offset : (z : ℤ) → n -ℤ d.first ≡ z → has_offset d.words z ≡ true → Offset d n
  by_offset (pos i) e h = record { offset = i; is = omega (arith, signed, e); has = h }
  by_offset (negsuc i) e h = cc

false-true : {A : Type 0} → false ≡ true → A
false-true e = cc

module _ (d : PeriodDays) (long : length d.words ≡ 7) where
  pub offset-few : (i : ℕ) → has_number d.words i ≡ true → i < 448
  offset-few i has =
      by_lt {P = i < 448} i 448 (λ lt. lt)
      (λ ge. let none = number-past d.words i (omega (arith, long, ge)) in false-true (sym none ∙ has))

  -- a day of a set is among the 448
  pub day-row : (n : ℤ) → IsTrue (has_day d n) → (d.first ≤ℤ n) × (n <ℤ (d.first +ℤ pos 448))
  day-row n has =
      let o = day-offset d n has in
      let few = offset-few o.offset o.has in
      (omega (arith, signed, o.is), omega (arith, signed, o.is, few))

  module _ (day : ℤ) (from : ℕ) (before : (i : ℕ) → i < from → (d.first +ℤ pos i) <ℤ day)
      (after : (i : ℕ) → i < 448 → from ≤ i → day ≤ℤ (d.first +ℤ pos i)) where
    -- a day from another on is as far behind
    reached : (n : ℤ) (o : Offset d n) → day ≤ℤ n → from ≤ o.offset
    reached n o high =
        by_lt {P = from ≤ o.offset} o.offset from
        (λ lt. let early = before o.offset lt in absurd (omega (arith, signed, early, high, o.is)))
        (λ ge. ge)

    -- none was found
    pub between-none : (last : ℤ) → ((i : ℕ) → from ≤ i → i < 64 * length d.words → has_number d.words i ≡ false) →
        (n : ℤ) → IsBetween day last n → ¬ (IsTrue (has_day d n))
    between-none last none n within has =
        let o = day-offset d n has in
        let few : o.offset < 64 * length d.words = omega (arith, long, offset-few o.offset o.has) in
        false-true (sym (none o.offset (reached n o within.0) few) ∙ o.has)

    module _ (k : ℕ) (first : IsFirstPassing (has_number d.words) from (64 * length d.words) k) where
      -- each day from the other on is at or behind the one that was found
      not-before : (n : ℤ) → day ≤ℤ n → IsTrue (has_day d n) → (d.first +ℤ pos k) ≤ℤ n
      not-before n high has =
          let o = day-offset d n has in
          by_lt {P = (d.first +ℤ pos k) ≤ℤ n} o.offset k
          (λ lt. false-true (sym (first.least o.offset (reached n o high) lt) ∙ o.has))
          (λ ge. omega (arith, signed, o.is, ge))

      -- it is past all
      pub between-past : (last : ℤ) → last <ℤ (d.first +ℤ pos k) →
          (n : ℤ) → IsBetween day last n → ¬ (IsTrue (has_day d n))
      between-past last past n within has =
          let low = not-before n within.0 has in
          absurd (omega (arith, signed, low, past, within.1))

      pub between-first : (last n : ℤ) → n ≡ d.first +ℤ pos k → n ≤ℤ last → IsFirstOf (λ m. IsTrue (has_day d m)) day last n
      between-first last n is within = record {
        kept = ap (has_day d) is ∙ day-at d k ∙ first.passes;
        within = (omega (arith, signed, is, after k (omega (arith, long, first.within)) first.reached), within);
        least = λ m high low has. let late = not-before m high has in absurd (omega (arith, signed, late, low, is));
      }

-- ---- counts

-- a day that is so far behind a first one, below a limit, where a test passes
pub record Passing (f : ℕ → Bool) (first : ℤ) (k : ℕ) (n : ℤ) : Type 0 where
  pub offset : ℕ
  pub below : offset < k
  pub is : n ≡ first +ℤ pos offset
  pub has : f offset ≡ true

pub passing-count : (f : ℕ → Bool) (first : ℤ) (k : ℕ) → HasCount (Passing f first k) (count_below f k)
passing-count f first zero =
    subst (HasCount (Passing f first 0)) (sym (count-zero f)) (count-empty (Passing f first 0) (λ n p. absurd (omega (arith, p.below))))
passing-count f first (suc k) =
    let before = passing-count f first k in
    by_bool {P = HasCount (Passing f first (suc k)) (count_below f (suc k))} (f k)
    (λ on.
    let more : count_below f k + 1 ≡ count_below f (suc k) = sym (count-suc f k ∙ ap (λ (b : Bool). count_below f k + cond b 1 0) on) in
    subst (HasCount (Passing f first (suc k))) more
    (count-push (Passing f first k) (Passing f first (suc k)) (count_below f k) (first +ℤ pos k)
    (λ m p. omega (arith, signed, p.is, p.below)) (record { offset = k; below = omega arith; is = refl; has = on })
    wider (narrower on) before))
    (λ off.
    let same : count_below f k ≡ count_below f (suc k) = sym (count-suc f k ∙ ap (λ (b : Bool). count_below f k + cond b 1 0) off ∙ omega arith) in
    subst (HasCount (Passing f first (suc k))) same
    (count-like (Passing f first k) (Passing f first (suc k)) (count_below f k) wider (kept off) before)) where
      wider : (m : ℤ) → Passing f first k m → Passing f first (suc k) m
      wider m p = record { offset = p.offset; below = omega (arith, p.below); is = p.is; has = p.has }

      narrower : f k ≡ true → (m : ℤ) → Passing f first (suc k) m → Passing f first k m ⊎ (first +ℤ pos k ≡ m)
      narrower on m p =
          by_lt {P = Passing f first k m ⊎ (first +ℤ pos k ≡ m)} p.offset k
          (λ lt. inl (record { offset = p.offset; below = lt; is = p.is; has = p.has }))
          (λ ge. let same : p.offset ≡ k = omega (arith, p.below, ge) in inr (sym (p.is ∙ ap (λ (i : ℕ). first +ℤ pos i) same)))

      kept : f k ≡ false → (m : ℤ) → Passing f first (suc k) m → Passing f first k m
      kept off m p =
          by_lt {P = Passing f first k m} p.offset k
          (λ lt. record { offset = p.offset; below = lt; is = p.is; has = p.has })
          (λ ge. let same : p.offset ≡ k = omega (arith, p.below, ge) in false-true (sym off ∙ ap f (sym same) ∙ p.has))

-- the days of a set before another
pub before-count : (d : PeriodDays) → length d.words ≡ 7 → (day : ℤ) (to : ℕ) →
    ((i : ℕ) → i < to → (d.first +ℤ pos i) <ℤ day) → ((i : ℕ) → i < 448 → to ≤ i → day ≤ℤ (d.first +ℤ pos i)) →
    HasCount (λ n. IsTrue (has_day d n) × (n <ℤ day)) (count_below (has_number d.words) to)
before-count d long day to before after =
    count-like (Passing (has_number d.words) d.first to) (λ n. IsTrue (has_day d n) × (n <ℤ day)) (count_below (has_number d.words) to) out into
    (passing-count (has_number d.words) d.first to) where
      out : (n : ℤ) → Passing (has_number d.words) d.first to n → IsTrue (has_day d n) × (n <ℤ day)
      out n p = (ap (has_day d) p.is ∙ day-at d p.offset ∙ p.has, omega (arith, signed, p.is, before p.offset p.below))

      into : (n : ℤ) → IsTrue (has_day d n) × (n <ℤ day) → Passing (has_number d.words) d.first to n
      into n (has, low) =
          let o = day-offset d n has in
          record {
            offset = o.offset;
            below = by_lt {P = o.offset < to} o.offset to (λ lt. lt)
                (λ ge. let late = after o.offset (offset-few d long o.offset o.has) ge in absurd (omega (arith, signed, late, low, o.is)));
            is = o.is;
            has = o.has;
          }
