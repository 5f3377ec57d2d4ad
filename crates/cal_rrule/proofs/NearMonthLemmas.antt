-- The months before and after a month.
use Rattle.std.proofs.Common.{◌≡◌, ◌∙◌, ℕ, ◌+◌, ◌≤◌, ◌<◌, ℤ, pos, ◌+ℤ◌, ◌-ℤ◌, sym, ap, subst, arith}
use Rattle.cal_days.specs.Day.{IsFieldYear}
use Rattle.cal_days.proofs.Signed.{signed}
use Rattle.cal_types.specs.CalendarList.{CalendarList, HasPlace, IsLawful, IsMonthsAfter, IsOn, date, day_number, month_count, month_length, month_number, start_of_year}
use Rattle.cal_types.proofs.ListLemmas.{date-within, day_number-first, first-place, month_number-injective, month_number-next, month_number-place, start_of_year-next, year_length-most, year_length-some}
use Rattle.cal_rrule.specs.Looks.{IsMonthLook, look_stretch}
use Rattle.cal_rrule.specs.NearDays.{IsNearDay, IsNearList}
use Rattle.cal_rrule.specs.Stretches.{end_of}
use Rattle.cal_rrule.specs.declared.month_look.MonthLook.{MonthLook}
use Rattle.cal_rrule.specs.laws.MonthOrder.{next-first}
use Rattle.cal_rrule.proofs.MonthStepLemmas.{first-on}

-- the month after a month of the same year
pub after-within : (c : CalendarList) (y z : ℤ) (i j : ℕ) → HasPlace c y i → i < month_count c y → z ≡ y → j ≡ i + 1 →
    IsMonthsAfter c y i (pos 1) z j
after-within c y z i j place low same is = subst (λ (x : ℤ). IsMonthsAfter c y i (pos 1) x j) (sym same) (record {
  place = (omega (arith, is), omega (arith, low, is));
  moved = omega (arith, signed, is, month_number-place c y i place.0, month_number-place c y j (omega (arith, is)));
})

-- and of the next one
pub after-last : (c : CalendarList) → IsLawful c → (y z : ℤ) (i : ℕ) → HasPlace c y i → month_count c y ≤ i → z ≡ y +ℤ pos 1 →
    IsMonthsAfter c y i (pos 1) z 1
after-last c law y z i place last is = record {
  place = first-place c z law;
  moved = omega (arith, signed, place, last, begins, month_number-place c y i place.0, month_number-next c y);
}
  where
    begins : month_number c z 1 ≡ month_number c (y +ℤ pos 1) 1
    begins = ap (λ (x : ℤ). month_number c x 1) is

-- the month before a month of the same year
pub before-within : (c : CalendarList) (y z : ℤ) (i j : ℕ) → HasPlace c y i → 1 < i → z ≡ y → i ≡ j + 1 →
    HasPlace c z j × IsMonthsAfter c z j (pos 1) y i
before-within c y z i j place more same is =
    let here : HasPlace c y j = (omega (arith, more, is), omega (arith, place.1, is)) in
    subst (λ (x : ℤ). HasPlace c x j × IsMonthsAfter c x j (pos 1) y i) (sym same)
    (here, record { place = place; moved = omega (arith, signed, is, month_number-place c y i place.0, month_number-place c y j here.0) })

-- and of the year before
pub before-first : (c : CalendarList) → IsLawful c → (y z : ℤ) (i j : ℕ) → HasPlace c y i → i ≤ 1 → y ≡ z +ℤ pos 1 →
    j ≡ month_count c z → HasPlace c z j × IsMonthsAfter c z j (pos 1) y i
before-first c law y z i j place first is count = (
  here,
  record { place = place; moved = omega (arith, signed, same, count, month_number-place c z j here.0, month_number-next c z) },
)
  where
    here : HasPlace c z j
    here = (omega (arith, count, law.count z), omega (arith, count))

    one : i ≡ 1
    one = omega (arith, first, place.0)

    same : month_number c y i ≡ month_number c (z +ℤ pos 1) 1
    same = ap (λ (k : ℕ). month_number c y k) one ∙ ap (λ (x : ℤ). month_number c x 1) is

-- a month begins where the month before it ends
pub after-first : (c : CalendarList) → IsLawful c → (y : ℤ) (i : ℕ) (z : ℤ) (j : ℕ) → HasPlace c y i → IsMonthsAfter c y i (pos 1) z j →
    day_number c (date z j 1) ≡ day_number c (date y i 1) +ℤ pos (month_length c y i)
after-first c law y i z j place after =
    let next = next-first c law y i place in
    let at = month_number-injective c z j next.0 next.1 after.place next.2.place (after.moved ∙ sym next.2.moved) in
    ap (λ (x : ℤ). day_number c (date x j 1)) at.0 ∙ ap (λ (k : ℕ). day_number c (date next.0 k 1)) at.1 ∙ next.3

module _ (c : CalendarList) (law : IsLawful c) (nearby : IsNearList c) (look : MonthLook) (is : IsMonthLook c look)
    (near : IsNearDay look.first) where
  -- fields can name its year
  pub look-field : IsFieldYear look.year
  look-field =
      nearby.years look.first (date look.year look.place 1) (omega (arith, signed, near.0), omega (arith, signed, near.1))
      (subst (λ (n : ℤ). IsOn c n (date look.year look.place 1)) (sym is.is_first) (first-on c law look.year look.place is.is_place))

  -- and the year before it, if it is the first month of its year
  pub field-before : look.place ≤ 1 → IsFieldYear (look.year -ℤ pos 1)
  field-before first =
      let y = look.year -ℤ pos 1 in
      let some = year_length-some c law y in
      let most = year_length-most c y law in
      let one : look.place ≡ 1 = omega (arith, first, is.is_place.0) in
      let same : look.year ≡ y +ℤ pos 1 = omega (arith, signed) in
      let begins : look.first ≡ start_of_year c (y +ℤ pos 1) =
      is.is_first ∙ ap (λ (k : ℕ). day_number c (date look.year k 1)) one ∙ day_number-first c look.year
      ∙ ap (λ (x : ℤ). start_of_year c x) same in
      let ends = start_of_year-next c y in
      let found = date-within c y 0 some in
      subst IsFieldYear found.2
      (nearby.years (start_of_year c y +ℤ pos 0) found.0
      (omega (arith, signed, near.0, begins, ends, most), omega (arith, signed, near.1, begins, ends, some)) found.1)

  -- the month after it
  pub next-begins : (z : ℤ) (j : ℕ) → IsMonthsAfter c look.year look.place (pos 1) z j →
      end_of (look_stretch look) ≡ day_number c (date z j 1)
  next-begins z j after =
      omega (arith, signed, after-first c law look.year look.place z j is.is_place after, is.is_first, is.is_length)

  pub next-field : (z : ℤ) (j : ℕ) → IsMonthsAfter c look.year look.place (pos 1) z j → IsFieldYear z
  next-field z j after =
      let begins = next-begins z j after in
      let short = (law.lengths look.year look.place is.is_place).1 in
      nearby.years (day_number c (date z j 1)) (date z j 1)
      (omega (arith, signed, begins, near.0), omega (arith, signed, begins, near.1, is.is_length, short))
      (first-on c law z j after.place)

  -- and the month before it
  pub last-ends : (z : ℤ) (j : ℕ) → HasPlace c z j → IsMonthsAfter c z j (pos 1) look.year look.place →
      look.first ≡ day_number c (date z j 1) +ℤ pos (month_length c z j)
  last-ends z j place after = is.is_first ∙ after-first c law z j look.year look.place place after

  pub last-field : (z : ℤ) (j : ℕ) → HasPlace c z j → IsMonthsAfter c z j (pos 1) look.year look.place → IsFieldYear z
  last-field z j place after =
      let ends = last-ends z j place after in
      let short = (law.lengths z j place).1 in
      nearby.years (day_number c (date z j 1)) (date z j 1)
      (omega (arith, signed, ends, near.0, short), omega (arith, signed, ends, near.1))
      (first-on c law z j place)
