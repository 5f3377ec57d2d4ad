-- The date that is counted for a day number is the date on that day, in each lawful list.
use Rattle.std.proofs.Common.{◌≡◌, ℕ, zero, suc, ◌+◌, ◌-◌, ◌<◌, ◌≤◌, Bool, true, false, cond, nat_lt, List, [], ◌∷◌, length, get_or, take, sum_by, refl, ap, arith, ℤ, pos, ◌+ℤ◌, ◌-ℤ◌, ◌≤ℤ◌}
use Rattle.std.proofs.lemmas.Bool.Decides.{nat_tests}
use Rattle.std.proofs.lemmas.List.Sums.{sum_by-cons}
use Rattle.cal_days.specs.Sums.{years_up}
use Rattle.cal_days.proofs.Signed.{signed, by_bool}
use Rattle.cal_types.specs.CalendarList.{CalendarList, Entry, no_entry, days_of, year_length, start_of_year, days_before, IsOn, IsLawful}
use Rattle.cal_types.proofs.ListLemmas.{start_of_year-anchor, start_of_year-next, year_length-some}
use Rattle.cal_types.specs.DayDates.{place_after, date_in, date_after, year_before, date_on}

-- a place, from i on, and a day, that lie so many days after the first of the months
record LiesAfter (es : List Entry) (i days : ℕ) (there : ℕ × ℕ) : Type 0 where
  low : i ≤ there.0
  high : there.0 - i < length es
  day : (1 ≤ there.1) × (there.1 ≤ (get_or es (there.0 - i) no_entry).days)
  count : sum_by days_of (take (there.0 - i) es) + there.1 ≡ days + 1

lies_first : (e : Entry) (es : List Entry) (i days : ℕ) → days < e.days → LiesAfter (e ∷ es) i days (i, days + 1)
lies_first e es i days lt =
    let none : i - i ≡ 0 = omega arith in
    record { low = omega arith; high = omega arith; day = (omega arith, rw none (omega arith)); count = rw none (omega arith) }

lies_later : (e : Entry) (es : List Entry) (i days : ℕ) (there : ℕ × ℕ) → e.days ≤ days → LiesAfter es (i + 1) (days - e.days) there → LiesAfter (e ∷ es) i days there
lies_later e es i days there le h =
    let back : there.0 - i ≡ suc (there.0 - (i + 1)) = omega (arith, h.low) in
    record {
      low = omega (arith, h.low);
      high = omega (arith, h.low, h.high);
      day = (omega (arith, h.day), rw back (h.day.1));
      count = rw (back, sum_by-cons days_of e (take (there.0 - (i + 1)) es)) (omega (arith, h.count));
    }

place_after-cons : (e : Entry) (es : List Entry) (i days : ℕ) (b : Bool) → nat_lt days e.days ≡ b → place_after (e ∷ es) i days ≡ cond b (i, days + 1) (place_after es (i + 1) (days - e.days))
unfolding place_after
place_after-cons e es i days b h = ap (λ (v : Bool). cond v (i, days + 1) (place_after es (i + 1) (days - e.days))) h

-- the place that is counted lies there
place_after-lies : (es : List Entry) (i days : ℕ) → days < sum_by days_of es → LiesAfter es i days (place_after es i days)
place_after-lies [] i days lt = absurd (omega arith)
place_after-lies (e ∷ es) i days lt =
    by_bool {P = LiesAfter (e ∷ es) i days (place_after (e ∷ es) i days)} (nat_lt days e.days)
    (λ h. rw (place_after-cons e es i days true h) (lies_first e es i days (grind (arith, nat_tests))))
    (λ h.
    let le : e.days ≤ days = grind (arith, nat_tests) in
    rw (place_after-cons e es i days false h) (lies_later e es i days (place_after es (i + 1) (days - e.days)) le (place_after-lies es (i + 1) (days - e.days) (omega (arith, sum_by-cons days_of e es)))))

-- a day within a year is the date that is counted in it
date_in-on : (c : CalendarList) (y : ℤ) (days : ℕ) → days < year_length c y → IsOn c (start_of_year c y +ℤ pos days) (date_in c y days)
unfolding days_before
date_in-on c y days lt =
    let lies = place_after-lies (c.entries y) 1 days lt in
    record {
      date = record { place = (lies.low, omega (arith, lies.low, lies.high)); day = lies.day };
      day = omega (arith, signed, lies.count, lies.day);
    }

date_after-step : (c : CalendarList) (most : ℕ) (y : ℤ) (days : ℕ) (b : Bool) → nat_lt days (year_length c y) ≡ b → date_after c (suc most) y days ≡ cond b (date_in c y days) (date_after c most (y +ℤ pos 1) (days - year_length c y))
unfolding date_after
date_after-step c most y days b h = ap (λ (v : Bool). cond v (date_in c y days) (date_after c most (y +ℤ pos 1) (days - year_length c y))) h

date_after-none : (c : CalendarList) (y : ℤ) (days : ℕ) → date_after c zero y days ≡ date_in c y days
unfolding date_after
date_after-none c y days = refl

-- years that are passed lead to the date of the day
date_after-on : (c : CalendarList) → IsLawful c → (most : ℕ) (y : ℤ) (days : ℕ) → days ≤ most → IsOn c (start_of_year c y +ℤ pos days) (date_after c most y days)
date_after-on c law zero y days le = rw (date_after-none c y days) (date_in-on c y days (omega (arith, year_length-some c law y)))
date_after-on c law (suc most) y days le =
    by_bool {P = IsOn c (start_of_year c y +ℤ pos days) (date_after c (suc most) y days)} (nat_lt days (year_length c y))
    (λ h. rw (date_after-step c most y days true h) (date_in-on c y days (grind (arith, nat_tests))))
    (λ h.
    let passed : year_length c y ≤ days = grind (arith, nat_tests) in
    let same : start_of_year c (y +ℤ pos 1) +ℤ pos (days - year_length c y) ≡ start_of_year c y +ℤ pos days = omega (arith, signed, start_of_year-next c y) in
    rw (date_after-step c most y days false h) (rw same at (date_after-on c law most (y +ℤ pos 1) (days - year_length c y) (omega (arith, year_length-some c law y)))))

-- so many years before the anchor start at least as many days before it
starts_before : (c : CalendarList) → IsLawful c → (k : ℕ) → start_of_year c (c.anchor_year -ℤ pos k) ≤ℤ (c.anchor_day -ℤ pos k)
starts_before c law zero =
    let same : c.anchor_year -ℤ pos 0 ≡ c.anchor_year = omega (arith, signed) in
    rw same (omega (arith, signed, start_of_year-anchor c))
starts_before c law (suc k) =
    let same : c.anchor_year -ℤ pos (suc k) +ℤ pos 1 ≡ c.anchor_year -ℤ pos k = omega (arith, signed) in
    let next = rw same at (start_of_year-next c (c.anchor_year -ℤ pos (suc k))) in
    omega (arith, signed, next, starts_before c law k, year_length-some c law (c.anchor_year -ℤ pos (suc k)))

-- the date of a day number is the date on that day
pub date_on-on : (c : CalendarList) → IsLawful c → (n : ℤ) → IsOn c n (date_on c n)
unfolding date_on
date_on-on c law n =
    let y = year_before c n in
    let days = years_up (n -ℤ start_of_year c y) in
    let same : start_of_year c y +ℤ pos days ≡ n = omega (arith, signed, starts_before c law (years_up (c.anchor_day -ℤ n))) in
    rw same at (date_after-on c law days y days (omega arith))
