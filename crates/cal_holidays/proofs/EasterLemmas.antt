-- Easter comes once in each year, and the day that is counted from it is found from year to year.
use Rattle.std.proofs.Common.{◌≡◌, ◌<◌, ◌≤◌, ℕ, Bool, true, false, Option, Some, None, refl, sym, ap, subst, arith, ℤ, pos, neg_ℤ, ◌+ℤ◌, ◌-ℤ◌, ◌<ℤ◌, ◌≤ℤ◌}
use Rattle.std.specs.Prelude.{int_lt, int_le, nat_eq, MatchOption}
use Rattle.std.proofs.lemmas.Bool.Decides.{nat_tests}
use Rattle.std.proofs.lemmas.Int.{by_lt_z, ints}
use Rattle.cal_base.specs.laws.OffsetListLaws.{offset_list-lawful}
use Rattle.cal_base.proofs.OffsetYears.{start_of_year-offset}
use Rattle.cal_days.specs.Day.{IsBetween, IsValidDay}
use Rattle.cal_days.specs.Division.{floor_mod}
use Rattle.cal_days.specs.Gregorian.{gregorian_start}
use Rattle.cal_days.specs.Easter.{IsSundayAfter, adjusted_epact, gregorian_epact, gregorian_shifted_epact, is_moon_earlier, julian_epact, metonic_year, century_of}
use Rattle.cal_days.proofs.DivisionLemmas.{floor_parts}
use Rattle.cal_days.proofs.GregorianLemmas.{gregorian_start-next, gregorian_year_length-parts}
use Rattle.cal_days.proofs.JulianLemmas.{julian_start-next, julian_year_length-parts}
use Rattle.cal_days.proofs.Signed.{by_bool, signed}
use Rattle.cal_julian.specs.laws.JulianLaws.{julian_list-lawful, start_of_year-julian}
use Rattle.cal_types.specs.CalendarList.{IsLawful, start_of_year}
use Rattle.cal_types.proofs.DateTests.{and-left, and-right, true-and, not_true}
use Rattle.cal_types.proofs.ListLemmas.{date-in_year, start_of_year-later, start_of_year-next}
use Rattle.cal_types.specs.DayDates.{date_on}
use Rattle.cal_holidays.specs.NamedDays.{IsEasterOf}
use Rattle.cal_holidays.specs.Naming.{easter_list, easter_moon, is_sunday_behind, year_on, year_start}
use Rattle.cal_holidays.specs.OwnDays.{IsValidOne}
use Rattle.cal_types.proofs.DayDateLemmas.{date_on-on}

listed_start : (j : Bool) (y : ℤ) → start_of_year (easter_list j) y ≡ year_start j y
listed_start false y =
    let same : y -ℤ pos 0 ≡ y = omega (arith, signed) in
    subst (λ z. start_of_year (easter_list false) z ≡ gregorian_start y) same (start_of_year-offset (pos 0) (record { number = y }))
listed_start true y = start_of_year-julian y

-- a year has at least 365 days
long_year : (j : Bool) (y : ℤ) → (year_start j y +ℤ pos 365) ≤ℤ year_start j (y +ℤ pos 1)
long_year false y = omega (arith, signed, gregorian_start-next y, gregorian_year_length-parts y)
long_year true y = omega (arith, signed, julian_start-next y, julian_year_length-parts y)

epact_most : (e m : ℕ) (b : Bool) → is_moon_earlier e m ≡ b → e < 30 → adjusted_epact e m ≤ 30
epact_most e m true is lt = rw is (omega arith)
epact_most e m false is lt = rw is (omega arith)

gregorian_epact-most : (y : ℤ) → gregorian_epact y ≤ 30
unfolding gregorian_epact
gregorian_epact-most y =
    let e = gregorian_shifted_epact (metonic_year y) (century_of y) in
    epact_most e (metonic_year y) (is_moon_earlier e (metonic_year y)) refl (floor_parts _ 30 (omega arith)).1

julian_epact-most : (y : ℤ) → julian_epact y ≤ 30
unfolding julian_epact
julian_epact-most y = omega arith

-- the full moon before Easter, counted back from the next year
moon_within : (j : Bool) (y : ℤ) → IsBetween (year_start j (y +ℤ pos 1) -ℤ pos 287) (year_start j (y +ℤ pos 1) -ℤ pos 257) (easter_moon j y)
moon_within false y = (omega (arith, signed, gregorian_epact-most y), omega (arith, signed))
moon_within true y = (omega (arith, signed, julian_epact-most y), omega (arith, signed))

-- so Easter lies in its year
easter_within : (j : Bool) (y e : ℤ) → IsSundayAfter (easter_moon j y) e → (year_start j y ≤ℤ e) × (e <ℤ year_start j (y +ℤ pos 1))
easter_within j y e is =
    let moon = moon_within j y in
    (omega (arith, signed, moon.0, is.1, long_year j y), omega (arith, signed, moon.1, is.2))

one_sunday : (day a b : ℤ) → IsSundayAfter day a → IsSundayAfter day b → a ≡ b
one_sunday day a b p q =
    omega (arith, signed, p.0, p.1, p.2, q.0, q.1, q.2, floor_parts a 7 (omega arith), floor_parts b 7 (omega arith))

pub tested_sunday : (day n : ℤ) → is_sunday_behind day n ≡ true → IsSundayAfter day n
tested_sunday day n h =
    let later = and-right (nat_eq (floor_mod n 7) 0) _ h in
    (grind (arith, nat_tests, and-left (nat_eq (floor_mod n 7) 0) _ h), omega (arith, ints, and-left (int_lt day n) _ later), omega (arith, ints, and-right (int_lt day n) _ later))

pub sunday_tested : (day n : ℤ) → IsSundayAfter day n → is_sunday_behind day n ≡ true
sunday_tested day n is =
    let a : nat_eq (floor_mod n 7) 0 ≡ true = grind (arith, nat_tests, is.0) in
    let b = by_bool {P = int_lt day n ≡ true} (int_lt day n) (λ e. e) (λ e. absurd (omega (arith, ints, is.1))) in
    let c = by_bool {P = int_le n (day +ℤ pos 7) ≡ true} (int_le n (day +ℤ pos 7)) (λ e. e) (λ e. absurd (omega (arith, ints, is.2))) in
    true-and _ _ a (true-and _ _ b c)

pub lawful : (j : Bool) → IsLawful (easter_list j)
lawful false = offset_list-lawful (pos 0)
lawful true = julian_list-lawful

-- the year of a day
abbrev pub year_of : Bool → ℤ → ℤ
year_of j n = year_on (easter_list j) n

year_within : (j : Bool) (n : ℤ) → (year_start j (year_of j n) ≤ℤ n) × (n <ℤ year_start j (year_of j n +ℤ pos 1))
year_within j n =
    let c = easter_list j in
    let on = date_on-on c (lawful j) n in
    let y = year_of j n in
    let start = listed_start j y in
    let next = listed_start j (y +ℤ pos 1) in
    let length = start_of_year-next c y in
    (omega (arith, signed, on.day, start, on.date.day), omega (arith, signed, on.day, start, next, length, date-in_year c (date_on c n) on.date, on.date.day))

starts_rise : (j : Bool) (y z : ℤ) → y <ℤ z → year_start j (y +ℤ pos 1) ≤ℤ year_start j z
starts_rise j y z lt =
    let c = easter_list j in
    omega (arith, signed, start_of_year-later c y z lt, start_of_year-next c y, listed_start j z, listed_start j (y +ℤ pos 1))

-- a day that lies before a year is of a year before it
pub year_least : (j : Bool) (n y : ℤ) → year_start j y ≤ℤ n → y ≤ℤ year_of j n
year_least j n y le = by_lt_z {P = y ≤ℤ year_of j n} (year_of j n) y
    (λ lt. absurd (omega (arith, signed, starts_rise j (year_of j n) y lt, year_within j n)))
    (λ ge. ge)

pub year_most : (j : Bool) (n y : ℤ) → n <ℤ year_start j (y +ℤ pos 1) → year_of j n ≤ℤ y
year_most j n y lt = by_lt_z {P = year_of j n ≤ℤ y} y (year_of j n)
    (λ more. absurd (omega (arith, signed, starts_rise j y (year_of j n) more, year_within j n)))
    (λ le. le)

-- Easter of a year lies in that year
pub easter_year : (j : Bool) (y e : ℤ) → IsSundayAfter (easter_moon j y) e → year_of j e ≡ y
easter_year j y e is =
    let within = easter_within j y e is in
    let low = year_least j e y within.0 in
    let high = year_most j e y within.1 in
    omega (arith, signed, low, high)

-- Easter of a later year comes later
pub easter_rises : (j : Bool) (y z m n : ℤ) → y ≤ℤ z → IsSundayAfter (easter_moon j y) m → IsSundayAfter (easter_moon j z) n → m ≤ℤ n
easter_rises j y z m n le p q = by_lt_z {P = m ≤ℤ n} y z
    (λ lt. omega (arith, signed, starts_rise j y z lt, easter_within j y m p, easter_within j z n q))
    (λ ge.
    let same : z ≡ y = omega (arith, signed, le, ge) in
    omega (arith, signed, one_sunday (easter_moon j y) m n p (subst (λ k. IsSundayAfter (easter_moon j k) n) same q)))

two_years : (j : Bool) (y : ℤ) → (year_start j y +ℤ pos 730) ≤ℤ year_start j (y +ℤ pos 2)
two_years j y =
    let two : y +ℤ pos 1 +ℤ pos 1 ≡ y +ℤ pos 2 = omega (arith, signed) in
    omega (arith, signed, long_year j y, long_year j (y +ℤ pos 1), ap (year_start j) two)

-- the year of an Easter at most 400 days from a day lies at most two years from the day's
pub easter_least : (j : Bool) (y e day low : ℤ) → IsSundayAfter (easter_moon j y) e → year_start j low ≤ℤ day → day ≤ℤ (e +ℤ pos 400) → (low -ℤ pos 2) ≤ℤ y
easter_least j y e day low is start near =
    let two : low -ℤ pos 2 +ℤ pos 2 ≡ low = omega (arith, signed) in
    let back = two_years j (low -ℤ pos 2) in
    let least = year_least j e (low -ℤ pos 2) (omega (arith, signed, back, ap (year_start j) two, start, near)) in
    omega (arith, signed, least, easter_year j y e is)

pub easter_most : (j : Bool) (y e day high : ℤ) → IsSundayAfter (easter_moon j y) e → day <ℤ year_start j (high +ℤ pos 1) → e ≤ℤ (day +ℤ pos 400) → y ≤ℤ (high +ℤ pos 2)
easter_most j y e day high is end near =
    let three : high +ℤ pos 1 +ℤ pos 2 ≡ high +ℤ pos 2 +ℤ pos 1 = omega (arith, signed) in
    let ahead = two_years j (high +ℤ pos 1) in
    let most = year_most j e (high +ℤ pos 2) (omega (arith, signed, ahead, ap (year_start j) three, end, near)) in
    omega (arith, signed, most, easter_year j y e is)

pub easter-of : (julian : Bool) (y n : ℤ) → IsSundayAfter (easter_moon julian y) n → IsEasterOf julian y n
easter-of false y n h = h
easter-of true y n h = h

pub of-easter : (julian : Bool) (y n : ℤ) → IsEasterOf julian y n → IsSundayAfter (easter_moon julian y) n
of-easter false y n h = h
of-easter true y n h = h

-- the day that was found is the valid one that is so many days from Easter, where it is valid
pub easter-one : (j : Bool) (y offset day : ℤ) (found : Option ℤ) → IsSundayAfter (easter_moon j y) (day -ℤ offset)
    → MatchOption found (IsValidDay day → ⊥) (λ d. (d ≡ day) × IsValidDay day) → IsValidOne (λ n. IsEasterOf j y (n -ℤ offset)) found
easter-one j y offset day None is not = λ n valid h.
    let same = one_sunday (easter_moon j y) (day -ℤ offset) (n -ℤ offset) is (of-easter j y (n -ℤ offset) h) in
    let there : n ≡ day = omega (arith, signed, same) in
    not (subst IsValidDay there valid)
easter-one j y offset day (Some d) is (e, valid) =
    (subst (λ (z : ℤ). IsEasterOf j y (z -ℤ offset)) (sym e) (easter-of j y (day -ℤ offset) is), subst IsValidDay (sym e) valid)
