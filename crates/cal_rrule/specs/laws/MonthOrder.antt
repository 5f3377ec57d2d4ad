-- Months in the sequence of all months, and where they begin.
use Rattle.std.proofs.Common.{◌≡◌, ◌∙◌, ℕ, ◌+◌, ◌≤◌, ◌<◌, nat_lt, Bool, true, false, ℤ, pos, ◌+ℤ◌, ◌≤ℤ◌, ◌<ℤ◌, refl, ap, arith}
use mathlib.Core.Logic.{◌⊎◌, inl, inr}
use Rattle.std.proofs.lemmas.Bool.Decides.{nat_tests}
use Rattle.cal_days.proofs.Signed.{signed}
use Rattle.cal_types.specs.CalendarList.{CalendarList, HasPlace, IsBefore, IsDate, IsLawful, IsMonthsAfter, date, day_number, month_count, month_length, month_number}
use Rattle.cal_types.proofs.ListLemmas.{by_place_order, day_number-first, day_number-rises, days_before-end, days_before-next, month_number-next, month_number-order, month_number-place, start_of_year-next}

-- the month after a month, in the sequence of months, begins on the day behind it
pub next-first : (c : CalendarList) → IsLawful c → (y : ℤ) (i : ℕ) → HasPlace c y i →
    (z : ℤ) × (j : ℕ) × IsMonthsAfter c y i (pos 1) z j
    × (day_number c (date z j 1) ≡ day_number c (date y i 1) +ℤ pos (month_length c y i))
next-first c law y i place = by_end (nat_lt i (month_count c y)) refl
  where
    by_end : (b : Bool) → nat_lt i (month_count c y) ≡ b → (z : ℤ) × (j : ℕ) × IsMonthsAfter c y i (pos 1) z j
        × (day_number c (date z j 1) ≡ day_number c (date y i 1) +ℤ pos (month_length c y i))
    by_end true e =
        let low : i < month_count c y = grind (arith, nat_tests, e) in (
          y,
          i + 1,
          record {
            place = (omega arith, omega (arith, low));
            moved = omega (arith, signed, month_number-place c y i place.0, month_number-place c y (i + 1) (omega arith));
          },
          omega (arith, signed, days_before-next c y i place),
        )
    by_end false e =
        let last : month_count c y ≤ i = grind (arith, nat_tests, e) in (
          y +ℤ pos 1,
          1,
          record {
            place = (omega arith, omega (arith, law.count (y +ℤ pos 1)));
            moved = omega (arith, signed, place, last, month_number-place c y i place.0, month_number-next c y);
          },
          omega (
            arith,
            signed,
            day_number-first c (y +ℤ pos 1),
            start_of_year-next c y,
            days_before-next c y i place,
            days_before-end c y (i + 1) (omega (arith, last)),
          ),
        )

-- a month begins behind the ends of earlier months
pub month-behind : (c : CalendarList) → IsLawful c → (y : ℤ) (i : ℕ) (z : ℤ) (j : ℕ) → HasPlace c y i → HasPlace c z j →
    month_number c y i <ℤ month_number c z j → (day_number c (date y i 1) +ℤ pos (month_length c y i)) ≤ℤ day_number c (date z j 1)
month-behind c law y i z j here there less =
    by_place_order y i z j before
    (λ h. absurd (omega (arith, signed, less, month_number-order c z j y i there here h)))
    (λ years places. let same : month_number c y i ≡ month_number c z j =
    ap (λ (x : ℤ). month_number c x i) years ∙ ap (λ (k : ℕ). month_number c z k) places in
    absurd (omega (arith, signed, less, same)))
  where
    last : IsDate c (date y i (month_length c y i))
    last = record { place = here; day = ((law.lengths y i here).0, omega arith) }

    first : IsDate c (date z j 1)
    first = record { place = there; day = (omega arith, (law.lengths z j there).0) }

    order : (y <ℤ z) ⊎ ((y ≡ z) × (i < j)) → IsBefore (y, i, month_length c y i) (z, j, 1)
    order (inl years) = inl years
    order (inr p) = inr (p.0, inl p.1)

    before : (y <ℤ z) ⊎ ((y ≡ z) × (i < j)) → (day_number c (date y i 1) +ℤ pos (month_length c y i)) ≤ℤ day_number c (date z j 1)
    before h =
        let rises = day_number-rises c (date y i (month_length c y i)) (date z j 1) last first (order h) in
        omega (arith, signed, rises, (law.lengths y i here).0)

-- and a month behind the next one begins at least a day later
pub month-after_next : (c : CalendarList) → IsLawful c → (y : ℤ) (i : ℕ) (z : ℤ) (j : ℕ) → HasPlace c y i → HasPlace c z j →
    (month_number c y i +ℤ pos 2) ≤ℤ month_number c z j →
    (day_number c (date y i 1) +ℤ pos (month_length c y i) +ℤ pos 1) ≤ℤ day_number c (date z j 1)
month-after_next c law y i z j here there far =
    let next = next-first c law y i here in
    let behind = month-behind c law next.0 next.1 z j next.2.place there (omega (arith, signed, next.2.moved, far)) in
    omega (arith, signed, next.3, behind, (law.lengths next.0 next.1 next.2.place).0)
