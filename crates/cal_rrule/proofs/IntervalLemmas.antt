-- Days that lie a multiple of some days behind a start.
use Rattle.std.proofs.Common.{◌≡◌, ◌∙◌, ℕ, ◌+◌, ◌-◌, ◌*◌, ◌/◌, ◌%◌, ◌<◌, ◌≤◌, ◌⊎◌, ℤ, pos, ◌+ℤ◌, ◌≤ℤ◌, ◌<ℤ◌, int_lt, sym, ap, subst, arith}
use mathlib.Core.Logic.{inl, inr, ⊎_elim}
use Rattle.std.proofs.Math.Nat.{add-mul}
use Rattle.std.proofs.lemmas.Bool.{cases_lt}
use Rattle.std.proofs.lemmas.Nat.{div-add-mod', mul-le}
use Rattle.cal_days.proofs.Signed.{by_bool, signed}
use Rattle.cal_rrule.specs.Masks.{Adds, IsInterval, IsIntervalBelow}
use Rattle.cal_rrule.proofs.MaskLemmas.{adds-as, adds-none, adds-then}
use Rattle.recurrence_sets.specs.declared.period_days.PeriodDays.{PeriodDays}

-- one step more
pub next-step : (s c e : ℕ) → (s + (c + 1)) * e ≡ (s + c) * e + e
next-step s c e =
    let regroup : s + (c + 1) ≡ (s + c) + 1 = omega arith in
    let one : 1 * e ≡ e = omega arith in
    ap (λ (m : ℕ). m * e) regroup ∙ add-mul (s + c) 1 e ∙ ap (λ (m : ℕ). (s + c) * e + m) one

-- the quotient, rounded up
div-parts : (a e : ℕ) → 0 < e → ((a + e - 1) / e * e ≤ a + e - 1) × (a ≤ (a + e - 1) / e * e)
div-parts a e some =
    let whole = div-add-mod' (a + e - 1) e in
    let rest : (a + e - 1) % e < e = omega (arith, some) in
    (omega (arith, whole), omega (arith, whole, rest, some))

pub steps-reach : (from start : ℤ) (a e : ℕ) → 0 < e → (start ≤ℤ from → from ≡ start +ℤ pos a) →
    from ≤ℤ (start +ℤ pos ((a + e - 1) / e * e))
steps-reach from start a e some is =
    let parts = div-parts a e some in
    by_bool (int_lt from start) (λ h. omega (arith, signed, h))
    (λ h. let at = is (omega (arith, signed, h)) in omega (arith, signed, at, parts.1))

pub steps-least : (from start : ℤ) (a e j : ℕ) → 0 < e → (start ≤ℤ from → from ≡ start +ℤ pos a) →
    (from ≤ℤ start → a ≡ 0) → j < (a + e - 1) / e → (start +ℤ pos (j * e)) <ℤ from
steps-least from start a e j some is none low =
    let parts = div-parts a e some in
    let more : (j + 1) * e ≤ (a + e - 1) / e * e = mul-le (j + 1) e ((a + e - 1) / e) e (omega (arith, low)) (omega arith) in
    let split : (j + 1) * e ≡ j * e + 1 * e = add-mul j 1 e in
    let one : 1 * e ≡ e = omega arith in
    let under : j * e < a = omega (arith, parts.0, more, split, one, some) in
    by_bool (int_lt from start) (λ h. let zero_days = none (omega (arith, signed, h)) in absurd (omega (arith, under, zero_days)))
    (λ h. let at = is (omega (arith, signed, h)) in omega (arith, signed, at, under))

pub steps-few : (a e : ℕ) → 0 < e → a ≤ 4000000000 → e < 4294967296 → (a + e - 1) / e * e ≤ 9000000000
steps-few a e some few small = let parts = div-parts a e some in omega (arith, parts.0, few, small)

-- no step
pub interval-none : (days : PeriodDays) (start to : ℤ) (every low high : ℕ) → high ≤ low →
    Adds days days (IsIntervalBelow start every low high to)
interval-none days start to every low high none =
    adds-none days (IsIntervalBelow start every low high to) (λ n p. omega (arith, none, p.1, p.2))

pub interval-more : (old mid new : PeriodDays) (start to day : ℤ) (every low high : ℕ) →
    Adds old mid (IsIntervalBelow start every low high to) → Adds mid new (λ n. n ≡ day) →
    day ≡ start +ℤ pos (high * every) → low ≤ high → day <ℤ to →
    Adds old new (IsIntervalBelow start every low (high + 1) to)
interval-more old mid new start to day every low high before one is order below =
    adds-as old new (λ n. IsIntervalBelow start every low high to n ⊎ (n ≡ day)) (IsIntervalBelow start every low (high + 1) to)
    (adds-then old mid new (IsIntervalBelow start every low high to) (λ n. n ≡ day) before one)
    (λ n. (there n, λ p. back_again n p.0 p.1 p.2 p.3 p.4))
  where
    there : (n : ℤ) → IsIntervalBelow start every low high to n ⊎ (n ≡ day) → IsIntervalBelow start every low (high + 1) to n
    there n (inl p) = (p.0, p.1, omega (arith, p.2), p.3, p.4)
    there n (inr e) = (high, order, omega arith, e ∙ is, subst (λ (m : ℤ). m <ℤ to) (sym e) below)

    back_again : (n : ℤ) (k : ℕ) → low ≤ k → k < high + 1 → n ≡ start +ℤ pos (k * every) → n <ℤ to →
        IsIntervalBelow start every low high to n ⊎ (n ≡ day)
    back_again n k least most at under =
        ⊎_elim (λ less. inl (k, least, less, at, under)) (λ more. inr (last (omega (arith, most, more)))) (cases_lt k high)
      where
        last : k ≡ high → n ≡ day
        last same = at ∙ ap (λ (j : ℕ). start +ℤ pos (j * every)) same ∙ sym is

-- all steps from the least one on
pub interval-all : (old new : PeriodDays) (start from to day : ℤ) (every low high : ℕ) →
    Adds old new (IsIntervalBelow start every low high to) → from ≤ℤ (start +ℤ pos (low * every)) →
    ((j : ℕ) → j < low → (start +ℤ pos (j * every)) <ℤ from) → day ≡ start +ℤ pos (high * every) → to ≤ℤ day →
    Adds old new (IsInterval start every from to)
interval-all old new start from to day every low high adds reached least is past =
    adds-as old new (IsIntervalBelow start every low high to) (IsInterval start every from to) adds
    (λ n. (λ p. there n p.0 p.1 p.3 p.4, λ p. back_again n p.0 p.1 p.2 p.3))
  where
    there : (n : ℤ) (k : ℕ) → low ≤ k → n ≡ start +ℤ pos (k * every) → n <ℤ to → IsInterval start every from to n
    there n k more at under =
        let product : low * every ≤ k * every = mul-le low every k every more (omega arith) in
        (k, at, omega (arith, signed, at, reached, product), under)

    back_again : (n : ℤ) (k : ℕ) → n ≡ start +ℤ pos (k * every) → from ≤ℤ n → n <ℤ to →
        IsIntervalBelow start every low high to n
    back_again n k at above under =
        (k, ⊎_elim too_few (λ h. h) (cases_lt k low), ⊎_elim (λ h. h) too_many (cases_lt k high), at, under)
      where
        too_few : k < low → low ≤ k
        too_few h = let before = least k h in absurd (omega (arith, signed, at, above, before))

        too_many : high ≤ k → k < high
        too_many h =
            let product : high * every ≤ k * every = mul-le high every k every h (omega arith) in
            absurd (omega (arith, signed, at, is, past, under, product))
