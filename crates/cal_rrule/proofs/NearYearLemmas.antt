-- The years before and after a year.
use Rattle.std.proofs.Common.{◌≡◌, ◌∙◌, ◌≤◌, ℤ, pos, ◌+ℤ◌, ◌-ℤ◌, ◌≤ℤ◌, ◌<ℤ◌, refl, ap, arith}
use Rattle.std.proofs.lemmas.Int.{by_lt_z}
use Rattle.cal_days.specs.Day.{IsFieldYear}
use Rattle.cal_days.proofs.Signed.{signed}
use Rattle.cal_types.specs.CalendarList.{CalendarList, IsLawful, date, start_of_year, year_length}
use Rattle.cal_types.proofs.ListLemmas.{day_number-first, first-date, start_of_year-later, start_of_year-next, year_length-most, year_length-some}
use Rattle.cal_rrule.specs.Looks.{IsYearLook, look_year}
use Rattle.cal_rrule.specs.NearDays.{IsNearDay, IsNearList}
use Rattle.cal_rrule.specs.Stretches.{InStretch, end_of}
use Rattle.cal_rrule.specs.declared.year_look.YearLook.{YearLook}

-- fields can name a year whose first day is near
pub start-field : (c : CalendarList) → IsLawful c → IsNearList c → (y : ℤ) → (start_of_year c y +ℤ pos 403) ≤ℤ pos 365253403 →
    pos 0 ≤ℤ (start_of_year c y +ℤ pos 365253000) → IsFieldYear y
start-field c law nearby y low high =
    nearby.years (start_of_year c y) (date y 1 1) (omega (arith, signed, high), omega (arith, signed, low))
    (record { date = first-date c y law; day = day_number-first c y })

-- a day is in one year
pub one-year : (c : CalendarList) (y z n : ℤ) → start_of_year c y ≤ℤ n → n <ℤ (start_of_year c y +ℤ pos (year_length c y)) →
    start_of_year c z ≤ℤ n → n <ℤ (start_of_year c z +ℤ pos (year_length c z)) → y ≡ z
one-year c y z n low high least most =
    by_lt_z {P = y ≡ z} y z (λ lt. absurd (omega (arith, signed, start_of_year-later c y z lt, high, least)))
    (λ ge. by_lt_z {P = y ≡ z} z y (λ lt. absurd (omega (arith, signed, start_of_year-later c z y lt, low, most)))
    (λ le. omega (arith, signed, ge, le)))

-- a year has a day
pub some-days : (c : CalendarList) → IsLawful c → (look : YearLook) → IsYearLook c look → 1 ≤ look.days
some-days c law look is = omega (arith, is.is_whole, year_length-some c law look.year)

module _ (c : CalendarList) (law : IsLawful c) (look : YearLook) (is : IsYearLook c look) where
  -- the year after a year begins where it ends
  pub next-starts : (z : ℤ) → z ≡ look.year +ℤ pos 1 → start_of_year c z ≡ end_of (look_year look)
  next-starts z next =
      let starts = ap (λ (x : ℤ). start_of_year c x) next in
      omega (arith, signed, starts, start_of_year-next c look.year, is.is_start, is.is_whole)

  -- and the year before it ends where it begins
  pub last-stops : (z : ℤ) → z ≡ look.year -ℤ pos 1 → look.first ≡ start_of_year c z +ℤ pos (year_length c z)
  last-stops z last =
      let same : look.year ≡ z +ℤ pos 1 = omega (arith, signed, last) in
      let starts = ap (λ (x : ℤ). start_of_year c x) same in
      omega (arith, signed, starts, start_of_year-next c z, is.is_start)

  -- fields can name it, and them
  pub own-field : IsNearList c → IsNearDay look.first → IsFieldYear look.year
  own-field nearby near =
      start-field c law nearby look.year (omega (arith, signed, is.is_start, near.1)) (omega (arith, signed, is.is_start, near.0))

  pub next-year-field : IsNearList c → IsNearDay look.first → (z : ℤ) → z ≡ look.year +ℤ pos 1 → IsFieldYear z
  next-year-field nearby near z next =
      let starts = next-starts z next in
      let most = year_length-most c look.year law in
      start-field c law nearby z (omega (arith, signed, starts, near.1, most, is.is_whole)) (omega (arith, signed, starts, near.0))

  pub last-year-field : IsNearList c → IsNearDay look.first → (z : ℤ) → z ≡ look.year -ℤ pos 1 → IsFieldYear z
  last-year-field nearby near z last =
      let stops = last-stops z last in
      let most = year_length-most c z law in
      start-field c law nearby z (omega (arith, signed, stops, near.1)) (omega (arith, signed, stops, near.0, most))

  -- the year of the day behind a year
  pub year-joins : (b : YearLook) → IsYearLook c b → InStretch (look_year b) (end_of (look_year look)) →
      (b.year ≡ look.year +ℤ pos 1) × (b.first ≡ end_of (look_year look))
  year-joins b other within = (next, other.is_start ∙ next-starts b.year next)
    where
      starts : start_of_year c (look.year +ℤ pos 1) ≡ end_of (look_year look)
      starts = next-starts (look.year +ℤ pos 1) refl

      next : b.year ≡ look.year +ℤ pos 1
      next = one-year c b.year (look.year +ℤ pos 1) (end_of (look_year look))
          (omega (arith, signed, within.0, other.is_start)) (omega (arith, signed, within.1, other.is_start, other.is_whole))
          (omega (arith, signed, starts)) (omega (arith, signed, starts, year_length-some c law (look.year +ℤ pos 1)))

  -- and of the day before it
  pub year-meets : (b : YearLook) → IsYearLook c b → InStretch (look_year b) (look.first -ℤ pos 1) →
      (b.year ≡ look.year -ℤ pos 1) × (end_of (look_year b) ≡ look.first)
  year-meets b other within = (
    last,
    omega (arith, signed, last-stops b.year last, other.is_start, other.is_whole),
  )
    where
      stops : look.first ≡ start_of_year c (look.year -ℤ pos 1) +ℤ pos (year_length c (look.year -ℤ pos 1))
      stops = last-stops (look.year -ℤ pos 1) refl

      last : b.year ≡ look.year -ℤ pos 1
      last = one-year c b.year (look.year -ℤ pos 1) (look.first -ℤ pos 1)
          (omega (arith, signed, within.0, other.is_start)) (omega (arith, signed, within.1, other.is_start, other.is_whole))
          (omega (arith, signed, stops, year_length-some c law (look.year -ℤ pos 1))) (omega (arith, signed, stops))
