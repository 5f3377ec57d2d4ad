-- Dates of a list: years join, dates are ordered as their day numbers, and each day number has one date.
use Rattle.std.proofs.Common.{◌≡◌, ℕ, zero, suc, ◌+◌, ◌-◌, ◌*◌, ◌<◌, ◌≤◌, ◌⊎◌, inl, inr, Bool, true, false, cond, nat_eq, Option, Some, None, eq-eqb, List, [], ◌∷◌, length, get_or, refl, sym, ap, ◌∙◌, arith, ℤ, pos, ◌+ℤ◌, ◌-ℤ◌, ◌<ℤ◌, ◌≤ℤ◌}
use Rattle.std.proofs.lemmas.Int.{by_lt_z}
use Rattle.std.proofs.lemmas.Bool.{eqb-true, ne_eqb}
use Rattle.std.proofs.lemmas.List.{take_all}
use Rattle.std.proofs.lemmas.List.Sums.{sum_by_more}
use Rattle.std.specs.List.{position_from}
use Rattle.cal_types.specs.Month.{MonthParts, month_rank}
use Rattle.cal_types.specs.declared.options.Overflow.{Overflow}
use Rattle.cal_types.specs.declared.options.Overflow.TheVariants.{Constrain, Reject}
use Rattle.cal_days.specs.Sums.{span}
use Rattle.cal_types.specs.CalendarList.{month_at, place_of, spot, first_of_two, Entry, no_entry, days_of, CalendarList, Date, date, year_length, month_count, month_length, start_of_year, days_before, day_number, HasPlace, IsDate, IsOn, month_number, IsBefore, IsLawful}
use Rattle.cal_days.proofs.Signed.{signed, by_lt, by_bool}
use Rattle.cal_days.proofs.SumLemmas.{span-same, span-next, span-unique, span-later, span-finds}

-- the anchor year starts on the anchor day
pub start_of_year-anchor : (c : CalendarList) → start_of_year c c.anchor_year ≡ c.anchor_day
unfolding start_of_year
start_of_year-anchor c = omega (arith, signed, span-same (year_length c) c.anchor_year)

-- the next year starts where a year ends
pub start_of_year-next : (c : CalendarList) (y : ℤ) → start_of_year c (y +ℤ pos 1) ≡ start_of_year c y +ℤ pos (year_length c y)
unfolding start_of_year
start_of_year-next c y = omega (arith, signed, span-next (year_length c) c.anchor_year y)

-- a formula that meets the anchor and joins gives each start
pub start_of_year-unique : (c : CalendarList) (f : ℤ → ℤ) → f c.anchor_year ≡ c.anchor_day → ((y : ℤ) → f (y +ℤ pos 1) ≡ f y +ℤ pos (year_length c y)) → (y : ℤ) → start_of_year c y ≡ f y
unfolding start_of_year
start_of_year-unique c f anchor join y = omega (arith, signed, span-unique (year_length c) c.anchor_year f join y)

-- a later year starts at or after the end of this one
pub start_of_year-later : (c : CalendarList) (y later : ℤ) → y <ℤ later → (start_of_year c y +ℤ pos (year_length c y)) ≤ℤ start_of_year c later
unfolding start_of_year
start_of_year-later c y later h = omega (arith, signed, span-later (year_length c) c.anchor_year y later h)

-- the first month starts with the year
pub days_before-first : (c : CalendarList) (y : ℤ) → days_before c y 1 ≡ 0
unfolding days_before
days_before-first c y = refl

-- the next month starts where a month ends
pub days_before-next : (c : CalendarList) (y : ℤ) (i : ℕ) → HasPlace c y i → days_before c y (i + 1) ≡ days_before c y i + month_length c y i
unfolding days_before
days_before-next c y i h =
    let same : i + 1 - 1 ≡ i - 1 + 1 = omega arith in
    rw same (sum_by_more days_of (c.entries y) (i - 1) no_entry (omega arith))

-- past the last month lies the whole year
pub days_before-end : (c : CalendarList) (y : ℤ) (i : ℕ) → month_count c y < i → days_before c y i ≡ year_length c y
unfolding days_before
days_before-end c y i h = rw (take_all (i - 1) (c.entries y) (omega arith))

days_before-add : (c : CalendarList) (y : ℤ) (i k : ℕ) → 1 ≤ i → days_before c y i ≤ days_before c y (i + k)
days_before-add c y i zero h = let same : i + 0 ≡ i = omega arith in rw same (omega arith)
days_before-add c y i (suc k) h =
    let same : i + suc k ≡ i + k + 1 = omega arith in
    let so_far = days_before-add c y i k h in
    by_lt {P = days_before c y i ≤ days_before c y (i + suc k)} (month_count c y) (i + k)
    (λ past. omega (arith, days_before-end c y (i + k) past, days_before-end c y (i + suc k) (omega arith)))
    (λ le. rw same (omega (arith, days_before-next c y (i + k) (omega arith, le))))

-- a later month starts at or after the end of this one
pub days_before-later : (c : CalendarList) (y : ℤ) (i j : ℕ) → HasPlace c y i → i < j → days_before c y i + month_length c y i ≤ days_before c y j
days_before-later c y i j h lt =
    let same : i + 1 + (j - (i + 1)) ≡ j = omega arith in
    omega (arith, days_before-next c y i h, rw same at (days_before-add c y (i + 1) (j - (i + 1)) (omega arith)))

-- a date lies within its year
pub date-in_year : (c : CalendarList) (t : Date) → IsDate c t → days_before c t.year t.month + t.day ≤ year_length c t.year
date-in_year c t h =
    omega (arith, days_before-later c t.year t.month (month_count c t.year + 1) h.place (omega arith), days_before-end c t.year (month_count c t.year + 1) (omega arith))

-- dates in order have day numbers in order
pub day_number-rises : (c : CalendarList) (t u : Date) → IsDate c t → IsDate c u → IsBefore (t.year, t.month, t.day) (u.year, u.month, u.day) → day_number c t <ℤ day_number c u
day_number-rises c t u h k (inl years) = omega (arith, signed, date-in_year c t h, start_of_year-later c t.year u.year years)
day_number-rises c t u h k (inr (same, inl places)) =
    let starts = ap (start_of_year c) same in
    let here = ap (λ (y : ℤ). days_before c y u.month) same in
    omega (arith, signed, days_before-later c t.year t.month u.month h.place places)
day_number-rises c t u h k (inr (same, inr (places, days))) =
    let starts = ap (start_of_year c) same in
    let here = ap (λ (y : ℤ). days_before c y t.month) same ∙ ap (days_before c u.year) places in
    omega (arith, signed)

-- of two triples one is before the other, or they are the same
pub by_order : {P : Type 0} (y : ℤ) (m d : ℕ) (z : ℤ) (n e : ℕ) → (IsBefore (y, m, d) (z, n, e) → P) → (IsBefore (z, n, e) (y, m, d) → P) → (y ≡ z → m ≡ n → d ≡ e → P) → P
by_order {P} y m d z n e before after same =
    by_lt_z {P = P} y z (λ lt. before (inl lt)) (λ ge.
    by_lt_z {P = P} z y (λ lt. after (inl lt)) (λ le.
    let years : y ≡ z = omega (arith, signed) in
    by_lt m n (λ lt. before (inr (years, inl lt))) (λ above.
    by_lt n m (λ lt. after (inr (sym years, inl lt))) (λ below.
    let places : m ≡ n = omega arith in
    by_lt d e (λ lt. before (inr (years, inr (places, lt)))) (λ high.
    by_lt e d (λ lt. after (inr (sym years, inr (sym places, lt)))) (λ low. same years places (omega arith)))))))

same_date : (t u : Date) → t.year ≡ u.year → t.month ≡ u.month → t.day ≡ u.day → t ≡ u
same_date t u e f g = let parts : date t.year t.month t.day ≡ date u.year u.month u.day = cc in parts

-- and back: dates whose day numbers are in order are in order
pub day_number-order : (c : CalendarList) (t u : Date) → IsDate c t → IsDate c u → day_number c t <ℤ day_number c u → IsBefore (t.year, t.month, t.day) (u.year, u.month, u.day)
day_number-order c t u h k lt =
    by_order {P = IsBefore (t.year, t.month, t.day) (u.year, u.month, u.day)} t.year t.month t.day u.year u.month u.day
    (λ before. before)
    (λ after. absurd (omega (arith, signed, day_number-rises c u t k h after)))
    (λ years places days. absurd (omega (arith, signed, ap (day_number c) (same_date t u years places days))))

-- dates with the same day number are the same
pub day_number-injective : (c : CalendarList) (t u : Date) → IsDate c t → IsDate c u → day_number c t ≡ day_number c u → t ≡ u
day_number-injective c t u h k e =
    by_order {P = t ≡ u} t.year t.month t.day u.year u.month u.day
    (λ before. absurd (omega (arith, signed, day_number-rises c t u h k before)))
    (λ after. absurd (omega (arith, signed, day_number-rises c u t k h after)))
    (same_date t u)

-- a day number has one date
pub on-unique : (c : CalendarList) (n : ℤ) (t u : Date) → IsOn c n t → IsOn c n u → t ≡ u
on-unique c n t u h k = day_number-injective c t u h.date k.date (h.day ∙ sym k.day)

-- the months of all years are one sequence
pub month_number-order : (c : CalendarList) (y : ℤ) (i : ℕ) (z : ℤ) (j : ℕ) → HasPlace c y i → HasPlace c z j → (y <ℤ z) ⊎ ((y ≡ z) × (i < j)) → month_number c y i <ℤ month_number c z j
unfolding month_number
month_number-order c y i z j h k (inl years) = omega (arith, signed, span-later (month_count c) c.anchor_year y z years)
month_number-order c y i z j h k (inr (same, lt)) = let here = ap (span (month_count c) c.anchor_year) same in omega (arith, signed)

-- of two months one is before the other, or they are the same
pub by_place_order : {P : Type 0} (y : ℤ) (i : ℕ) (z : ℤ) (j : ℕ) → ((y <ℤ z) ⊎ ((y ≡ z) × (i < j)) → P) → ((z <ℤ y) ⊎ ((z ≡ y) × (j < i)) → P) → (y ≡ z → i ≡ j → P) → P
by_place_order {P} y i z j before after same =
    by_lt_z {P = P} y z (λ lt. before (inl lt)) (λ ge.
    by_lt_z {P = P} z y (λ lt. after (inl lt)) (λ le.
    let years : y ≡ z = omega (arith, signed) in
    by_lt i j (λ lt. before (inr (years, lt))) (λ above.
    by_lt j i (λ lt. after (inr (sym years, lt))) (λ below. same years (omega arith)))))

-- a number is that of one month
pub month_number-injective : (c : CalendarList) (y : ℤ) (i : ℕ) (z : ℤ) (j : ℕ) → HasPlace c y i → HasPlace c z j → month_number c y i ≡ month_number c z j → (y ≡ z) × (i ≡ j)
month_number-injective c y i z j h k e =
    by_place_order {P = (y ≡ z) × (i ≡ j)} y i z j
    (λ before. absurd (omega (arith, signed, month_number-order c y i z j h k before)))
    (λ after. absurd (omega (arith, signed, month_number-order c z j y i k h after)))
    (λ years places. (years, places))

-- and each whole number is the number of one
pub month-finds : (c : CalendarList) → IsLawful c → (n : ℤ) → (y : ℤ) × (i : ℕ) × HasPlace c y i × (month_number c y i ≡ n)
unfolding month_number
month-finds c law n =
    let found = span-finds (month_count c) c.anchor_year (λ y. omega (arith, law.count y)) n in
    (found.0, found.1 + 1, (omega arith, omega (arith, found.2)), omega (arith, signed, found.3))

find_place : (c : CalendarList) (y : ℤ) (a k : ℕ) → k ≤ month_count c y → a < days_before c y (k + 1) → (i : ℕ) × HasPlace c y i × (days_before c y i ≤ a) × (a < days_before c y i + month_length c y i)
find_place c y a zero le lt = absurd (omega (arith, days_before-first c y))
find_place c y a (suc k) le lt =
    let same : suc k ≡ k + 1 = omega arith in
    by_lt {P = (i : ℕ) × HasPlace c y i × (days_before c y i ≤ a) × (a < days_before c y i + month_length c y i)} a (days_before c y (k + 1))
    (λ below. find_place c y a k (omega arith) below)
    (λ above. (suc k, (omega arith, le), rw same (omega arith), omega (arith, days_before-next c y (suc k) (omega arith, le))))

-- no year is empty
pub year_length-some : (c : CalendarList) → IsLawful c → (y : ℤ) → 0 < year_length c y
year_length-some c law y =
    let has : HasPlace c y 1 = (omega arith, omega (arith, law.count y)) in
    omega (arith, law.lengths y 1 has, days_before-later c y 1 (month_count c y + 1) has (omega (arith, law.count y)), days_before-end c y (month_count c y + 1) (omega arith))

-- the day number a after a year's first day, within the year, is a date of that year
pub date-within : (c : CalendarList) (y : ℤ) (a : ℕ) → a < year_length c y → (t : Date) × IsOn c (start_of_year c y +ℤ pos a) t × (t.year ≡ y)
date-within c y a lt =
    let found = find_place c y a (month_count c y) (omega arith) (omega (arith, days_before-end c y (month_count c y + 1) (omega arith))) in
    let i = found.0 in (
      date y i (a - days_before c y i + 1),
      record {
        date = record { place = found.1; day = (omega arith, omega (arith, found.2, found.3)) };
        day = omega (arith, signed, found.2);
      },
      refl,
    )

-- each day number has a date
pub on-finds : (c : CalendarList) → IsLawful c → (n : ℤ) → (t : Date) × IsOn c n t
on-finds c law n =
    let year = span-finds (year_length c) c.anchor_year (year_length-some c law) (n -ℤ c.anchor_day) in
    let found = date-within c year.0 year.1 year.2 in
    (found.0, record { date = found.1.date; day = unfold start_of_year in omega (arith, signed, found.1.day, year.3) })

position_from-cons : {K : Type 0} (t : K → Bool) (i : ℕ) (x : K) (xs : List K) (b : Bool) → t x ≡ b → position_from t i (x ∷ xs) ≡ cond b (Some i) (position_from t (i + 1) xs)
position_from-cons t i x xs b e = ap (λ (v : Bool). cond v (Some i) (position_from t (i + 1) xs)) e

position_from-some : {K : Type 0} (t : K → Bool) (i : ℕ) (xs : List K) (k : ℕ) (d : K) → position_from t i xs ≡ Some k → (i ≤ k) × (k < i + length xs) × (t (get_or xs (k - i) d) ≡ true)
position_from-some t i [] k d e = cc
position_from-some {K} t i (x ∷ xs) k d e =
    by_bool {P = (i ≤ k) × (k < i + length (x ∷ xs)) × (t (get_or (x ∷ xs) (k - i) d) ≡ true)} (t x)
    (λ holds.
    let first : Some i ≡ Some k = sym (position_from-cons t i x xs true holds) ∙ e in
    let same : i ≡ k = cc in
    let none : k - i ≡ 0 = omega arith in
    (omega arith, omega arith, rw none holds))
    (λ fails.
    let rest = position_from-some t (i + 1) xs k d (sym (position_from-cons t i x xs false fails) ∙ e) in
    let back : k - i ≡ suc (k - (i + 1)) = omega arith in
    (omega arith, omega arith, rw back rest.2))

position_from-here : {K : Type 0} (t : K → Bool) (i : ℕ) (xs : List K) (k : ℕ) (d : K) → k < length xs → t (get_or xs k d) ≡ true → ((j : ℕ) → j < k → t (get_or xs j d) ≡ false) → position_from t i xs ≡ Some (i + k)
position_from-here t i [] k d lt holds before = absurd (omega arith)
position_from-here t i (x ∷ xs) zero d lt holds before = let same : i + 0 ≡ i = omega arith in rw same (position_from-cons t i x xs true holds)
position_from-here t i (x ∷ xs) (suc k) d lt holds before =
    let same : i + suc k ≡ i + 1 + k = omega arith in
    rw same (position_from-cons t i x xs false (before 0 (omega arith)) ∙ position_from-here t (i + 1) xs k d (omega arith) holds (λ j h. before (suc j) (omega arith)))

-- the place of a month has it
pub place_of-some : (c : CalendarList) (y : ℤ) (m : MonthParts) (i : ℕ) → place_of c y m ≡ Some i → HasPlace c y i × (month_rank (month_at c y i) ≡ month_rank m)
unfolding place_of
place_of-some c y m i e =
    let found = position_from-some (λ (e : Entry). nat_eq (month_rank e.month) (month_rank m)) 1 (c.entries y) i no_entry e in
    ((omega arith, omega arith), eqb-true (month_rank (month_at c y i)) (month_rank m) found.2)

-- and a month of a year is found in its place
pub place_of-own : (c : CalendarList) (y : ℤ) (i : ℕ) → ((j k : ℕ) → HasPlace c y j → HasPlace c y k → j < k → month_rank (month_at c y j) < month_rank (month_at c y k)) → HasPlace c y i → place_of c y (month_at c y i) ≡ Some i
unfolding place_of
place_of-own c y i rises h =
    let same : 1 + (i - 1) ≡ i = omega arith in
    rw same at (position_from-here (λ (e : Entry). nat_eq (month_rank e.month) (month_rank (month_at c y i))) 1 (c.entries y) (i - 1) no_entry (omega arith)
    (eq-eqb (month_rank (month_at c y i)) (month_rank (month_at c y i)) refl)
    (λ j lt.
    let back : j + 1 - 1 ≡ j = omega arith in
    let same_month = ap (λ (n : ℕ). month_rank (get_or (c.entries y) n no_entry).month) back in
    ne_eqb (month_rank (get_or (c.entries y) j no_entry).month) (month_rank (month_at c y i))
    (λ e. omega (arith, same_month, rises (j + 1) i (omega arith, omega arith) h (omega arith)))))

-- where a year has the month, its place is the spot
pub spot-own : (c : CalendarList) (y : ℤ) (m : MonthParts) (o : Overflow) (i : ℕ) → place_of c y m ≡ Some i → spot c y m o ≡ Some i
unfolding spot
spot-own c y m Reject i e = e
spot-own c y m Constrain i e = rw e

-- a spot is a place of the year
pub spot-place : (c : CalendarList) (y : ℤ) (m : MonthParts) (o : Overflow) (i : ℕ) → spot c y m o ≡ Some i → HasPlace c y i
unfolding spot
spot-place c y m Reject i e = (place_of-some c y m i e).0
spot-place c y m Constrain i e = either_place (place_of c y m) refl where
  either_place : (r : Option ℕ) → place_of c y m ≡ r → HasPlace c y i
  either_place (Some k) f = (place_of-some c y m i (f ∙ sym (sym e ∙ ap (λ r. first_of_two r (place_of c y (c.stand_in m))) f))).0
  either_place None f = (place_of-some c y (c.stand_in m) i (sym (sym e ∙ ap (λ r. first_of_two r (place_of c y (c.stand_in m))) f))).0

days_before-most : (c : CalendarList) (y : ℤ) → IsLawful c → (k : ℕ) → k ≤ month_count c y → days_before c y (k + 1) ≤ 31 * k
days_before-most c y law zero h = omega (arith, days_before-first c y)
days_before-most c y law (suc k) h =
    let here : HasPlace c y (k + 1) = (omega arith, omega arith) in
    let same : suc k + 1 ≡ k + 1 + 1 = omega arith in
    rw same (omega (arith, days_before-most c y law k (omega arith), days_before-next c y (k + 1) here, law.lengths y (k + 1) here))

-- no year has more than 403 days
pub year_length-most : (c : CalendarList) (y : ℤ) → IsLawful c → year_length c y ≤ 403
year_length-most c y law =
    omega (arith, law.count y, days_before-most c y law (month_count c y) (omega arith), days_before-end c y (month_count c y + 1) (omega arith))

-- a day of a year that comes after the month in place i lies in a later month
pub place-next : (c : CalendarList) (y : ℤ) (i rest : ℕ) → HasPlace c y i → days_before c y i + rest < year_length c y → month_length c y i ≤ rest → HasPlace c y (i + 1) × (days_before c y (i + 1) + (rest - month_length c y i) ≡ days_before c y i + rest)
place-next c y i rest h last le =
    let next = days_before-next c y i h in
    by_lt {P = HasPlace c y (i + 1) × (days_before c y (i + 1) + (rest - month_length c y i) ≡ days_before c y i + rest)} (month_count c y) (i + 1)
    (λ past. absurd (omega (arith, days_before-end c y (i + 1) past, next)))
    (λ within. ((omega arith, within), omega (arith, next)))

-- and else it is a day of that month
pub on-rest : (c : CalendarList) (y : ℤ) (i rest : ℕ) (n : ℤ) → HasPlace c y i → start_of_year c y +ℤ pos (days_before c y i + rest) ≡ n → rest < month_length c y i → IsOn c n (date y i (rest + 1))
on-rest c y i rest n h e lt = record {
  date = record { place = h; day = (omega arith, omega arith) };
  day = omega (arith, signed);
}

-- the first date of a year is its first day
pub day_number-first : (c : CalendarList) (y : ℤ) → day_number c (date y 1 1) ≡ start_of_year c y
day_number-first c y = omega (arith, signed, days_before-first c y)

-- each year has a first month
pub first-place : (c : CalendarList) (y : ℤ) → IsLawful c → HasPlace c y 1
first-place c y law = (omega arith, omega (arith, law.count y))

-- and that month a first day
pub first-date : (c : CalendarList) (y : ℤ) → IsLawful c → IsDate c (date y 1 1)
first-date c y law = record { place = first-place c y law; day = (omega arith, (law.lengths y 1 (first-place c y law)).0) }

-- months of a year have numbers in a row
pub month_number-place : (c : CalendarList) (y : ℤ) (i : ℕ) → 1 ≤ i → month_number c y i +ℤ pos 1 ≡ month_number c y 1 +ℤ pos i
unfolding month_number
month_number-place c y i h = omega (arith, signed)

-- the next year's first month follows the last of this year
pub month_number-next : (c : CalendarList) (y : ℤ) → month_number c (y +ℤ pos 1) 1 ≡ month_number c y 1 +ℤ pos (month_count c y)
unfolding month_number
month_number-next c y = omega (arith, signed, span-next (month_count c) c.anchor_year y)
