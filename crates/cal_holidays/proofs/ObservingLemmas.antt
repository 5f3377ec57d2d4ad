-- In which years a rule is kept: the test, and years in steps.
use Rattle.std.proofs.Common.{◌≡◌, ◌<◌, ◌≤◌, ◌+◌, ◌-◌, ◌*◌, ◌/◌, ◌%◌, ℕ, zero, suc, Bool, true, false, List, [], ◌∷◌, Option, Some, None, refl, ap, ◌∙◌, arith, ℤ, pos, neg_ℤ, ◌+ℤ◌, ◌-ℤ◌, ◌≤ℤ◌}
use Rattle.std.specs.Prelude.{int_le, nat_eq}
use Rattle.std.proofs.Math.Nat.{div-add-mod, le_of_mul-le-mul_right, mod-lt, mul-le-mul_right, mul-mod_left}
use Rattle.std.proofs.lemmas.Bool.{eqb-true}
use Rattle.std.proofs.lemmas.Bool.Decides.{nat_tests}
use Rattle.std.proofs.lemmas.Int.{ints}
use Rattle.std.specs.Option.{unwrap_or}
use Rattle.cal_days.specs.Day.{IsBetween}
use Rattle.cal_days.specs.Sums.{years_up}
use Rattle.cal_days.proofs.RangeLemmas.{is_between-true}
use Rattle.cal_days.proofs.Signed.{by_lt, signed}
use Rattle.cal_types.proofs.DateTests.{and-left, and-right, true-and}
use Rattle.cal_holidays.specs.Moving.{AreSteps, IsFirstFrom, IsFirstStep, IsLastYear}
use Rattle.cal_holidays.specs.Observing.{IsKept, are_proper_moves, is_every, is_kept, is_move, is_since, is_until, move_on}
use Rattle.cal_holidays.specs.declared.rule_years.RuleYears.{RuleYears}

same_some : (a b : ℤ) → ◌≡◌ {A = Option ℤ} (Some a) (Some b) → a ≡ b
same_some a b e = cc

no_some : (a : ℤ) → ◌≡◌ {A = Option ℤ} None (Some a) → ⊥
no_some a e = cc

-- ---- the test

abbrev Since : Option ℤ → ℕ → ℤ → Type 0
Since since every y = (s : ℤ) → since ≡ Some s → (k : ℕ) × (y ≡ s +ℤ pos (k * every))

since-true : (since : Option ℤ) (every : ℕ) (y : ℤ) → is_since since every y ≡ true → Since since every y
since-true None every y h s e = absurd (no_some s e)
since-true (Some r) every y h s e =
    let le : r ≤ℤ y = omega (arith, signed, and-left (int_le r y) _ h) in
    let rest : years_up (y -ℤ r) % every ≡ 0 = eqb-true _ _ (and-right (int_le r y) _ h) in
    let parts = div-add-mod (years_up (y -ℤ r)) every in
    let k = years_up (y -ℤ r) / every in
    let size : years_up (y -ℤ r) ≡ k * every = omega (arith, parts, rest) in
    let same = same_some r s e in
    (k, omega (arith, signed, size, le, same))

true-since : (since : Option ℤ) (every : ℕ) (y : ℤ) → Since since every y → is_since since every y ≡ true
true-since None every y h = refl
true-since (Some r) every y h =
    let at = h r refl in
    let low : int_le r y ≡ true = let le : r ≤ℤ y = omega (arith, signed, at.1) in grind (arith, ints, le) in
    let size : years_up (y -ℤ r) ≡ at.0 * every = omega (arith, signed, at.1) in
    let rest : years_up (y -ℤ r) % every ≡ 0 = ap (λ (n : ℕ). n % every) size ∙ mul-mod_left at.0 every in
    let is : nat_eq (years_up (y -ℤ r) % every) 0 ≡ true = grind (arith, nat_tests, rest) in
    true-and (int_le r y) _ low is

abbrev Until : Option ℤ → ℤ → Type 0
Until until y = (u : ℤ) → until ≡ Some u → y ≤ℤ u

until-true : (until : Option ℤ) (y : ℤ) → is_until until y ≡ true → Until until y
until-true None y h u e = absurd (no_some u e)
until-true (Some v) y h u e = let same = same_some v u e in omega (arith, signed, h, same)

true-until : (until : Option ℤ) (y : ℤ) → Until until y → is_until until y ≡ true
true-until None y h = refl
true-until (Some v) y h = let le = h v refl in grind (arith, ints, le)

pub kept-true : (years : RuleYears) (y : ℤ) → is_kept years y ≡ true → IsKept years y
kept-true years y h = record {
  since = since-true years.since years.every y (and-left (is_since years.since years.every y) _ h);
  until = until-true years.until y (and-right (is_since years.since years.every y) _ h);
}

pub true-kept : (years : RuleYears) (y : ℤ) → IsKept years y → is_kept years y ≡ true
true-kept years y h = true-and _ _ (true-since years.since years.every y h.since) (true-until years.until y h.until)

-- ---- years in steps

-- a year that is so many steps after the first one, where no year with fewer comes late enough
at_step : (since : ℤ) (every : ℕ) (low y : ℤ) (q : ℕ) → y ≡ since +ℤ pos (q * every) → low ≤ℤ y
    → ((k : ℕ) → low ≤ℤ (since +ℤ pos (k * every)) → q ≤ k) → IsFirstStep since every low y
at_step since every low y q e le least = record {
  from = le;
  step = (q, e);
  all = λ k late.
      let most = least k late in
      let parts : k ≡ q + (k - q) = omega (arith, most) in
      let whole : k * every ≡ (q + (k - q)) * every = ap (λ n. n * every) parts in
      (k - q, omega (arith, signed, whole, e));
}

pub step_since : (since : ℤ) (every : ℕ) (low : ℤ) → low ≤ℤ since → IsFirstStep since every low since
step_since since every low le = at_step since every low since 0 (omega (arith, signed)) le (λ k late. omega arith)

pub step_on : (since : ℤ) (every : ℕ) (low : ℤ) (d : ℕ) → 0 < every → low ≡ since +ℤ pos d → d % every ≡ 0 → IsFirstStep since every low low
step_on since every low d some e none =
    let parts = div-add-mod d every in
    let whole : d ≡ d / every * every = omega (arith, parts, none) in
    at_step since every low low (d / every) (omega (arith, signed, e, whole)) (omega (arith, signed)) (λ k late.
    let more : d / every * every ≤ k * every = omega (arith, signed, late, e, whole) in
    le_of_mul-le-mul_right more some)

pub step_past : (since : ℤ) (every : ℕ) (low y : ℤ) (d : ℕ) → 0 < every → low ≡ since +ℤ pos d → 0 < d % every → y ≡ low +ℤ pos every -ℤ pos (d % every)
    → IsFirstStep since every low y
step_past since every low y d some e more is =
    let parts = div-add-mod d every in
    let whole : d ≡ d / every * every + d % every = omega (arith, parts) in
    let few : d % every < every = mod-lt d some in
    at_step since every low y (d / every + 1) (omega (arith, signed, e, whole, is)) (omega (arith, signed, is, few)) (λ k late.
    by_lt {P = d / every + 1 ≤ k} (d / every) k (λ lt. omega (arith, lt)) (λ ge.
    let less : k * every ≤ d / every * every = mul-le-mul_right every ge in
    absurd (omega (arith, signed, late, e, whole, more, less))))

last-high : (until : Option ℤ) (high last : ℤ) → IsLastYear until high last → last ≤ℤ high
last-high None high last is = omega (arith, signed, is)
last-high (Some u) high last is = is.1

last-until : (until : Option ℤ) (high last y : ℤ) → IsLastYear until high last → y ≤ℤ last → Until until y
last-until None high last y is le u e = absurd (no_some u e)
last-until (Some v) high last y is le u e = let same = same_some v u e in omega (arith, signed, is.0, le, same)

until-last : (until : Option ℤ) (high last y : ℤ) → IsLastYear until high last → Until until y → y ≤ℤ high → y ≤ℤ last
until-last None high last y is h le = omega (arith, signed, is, le)
until-last (Some v) high last y is h le = is.2 y (h v refl) le

pub steps-of : (since until : Option ℤ) (every : ℕ) (low high first last : ℤ) → is_every since every ≡ true → IsFirstFrom since every low first → IsLastYear until high last
    → AreSteps (record { since = since; until = until; every = every }) low high (record { first = first; last = last; every = every })
steps-of None until every low high first last proper begin end =
    let single : every ≡ 1 = eqb-true every 1 proper in record {
      all = λ y kept within.
          let i = years_up (y -ℤ low) in
          let whole : i * every ≡ i * 1 = ap (λ n. i * n) single in
          (i, omega (arith, signed, whole, begin, within.0), until-last until high last y end kept.until within.1);
      kept = λ i le. record { since = λ s e. absurd (no_some s e); until = last-until until high last _ end le };
      some = (omega (arith, single), omega (arith, single));
      first = omega (arith, signed, begin);
      last = last-high until high last end;
    }
steps-of (Some s) until every low high first last proper begin end = record {
  all = λ y kept within.
      let at = kept.since s refl in
      let on = begin.all at.0 (omega (arith, signed, at.1, within.0)) in
      (on.0, omega (arith, signed, at.1, on.1), until-last until high last y end kept.until within.1);
  kept = λ i le. record {
    since = λ r e.
        let same = same_some s r e in
        let q = begin.step in
        let whole : (q.0 + i) * every ≡ q.0 * every + i * every = omega arith in
        (q.0 + i, omega (arith, signed, q.1, whole, same));
    until = last-until until high last _ end le;
  };
  some = (grind (arith, nat_tests, proper), grind (arith, nat_tests, proper));
  first = begin.from;
  last = last-high until high last end;
}

-- ---- moves

one-small : (o : Option ℤ) → is_move o ≡ true → IsBetween (neg_ℤ (pos 6)) (pos 6) (unwrap_or o (pos 0))
one-small None h = (omega (arith, signed), omega (arith, signed))
one-small (Some days) h = is_between-true _ _ days h

pub move-small : (moves : List (Option ℤ)) → are_proper_moves moves ≡ true → (d : ℕ) → IsBetween (neg_ℤ (pos 6)) (pos 6) (move_on moves d)
move-small [] h d = (omega (arith, signed), omega (arith, signed))
move-small (o ∷ moves) h zero = one-small o (and-left (is_move o) _ h)
move-small (o ∷ moves) h (suc d) = move-small moves (and-right (is_move o) _ h) d
