-- The dates that numbers stand for.
use Rattle.std.proofs.Common.{◌≡◌, ℕ, ◌≤◌, Bool, true, false, ◌&&◌, nat_le, cond, Result, Ok, Err, refl, ap, ◌∙◌, arith, codes, ℤ, pos, neg_ℤ, ◌+ℤ◌, ◌≤ℤ◌, ◌<ℤ◌}
use Rattle.std.specs.Prelude.{is_ok}
use Rattle.std.proofs.lemmas.Bool.Decides.{nat_tests}
use Rattle.cal_days.specs.Day.{IsBetween, IsValidDay, is_between}
use Rattle.cal_days.proofs.RangeLemmas.{is_between-true, true-is_between}
use Rattle.cal_types.specs.CalendarList.{Date, IsDate, day_number, month_count, month_length, start_of_year}
use Rattle.cal_base.specs.IsoSystem.{iso_list}
use Rattle.cal_base.specs.GregorianList.{gregorian_list}
use Rattle.cal_base.specs.laws.GregorianLaws.{start_of_year-gregorian}
use Rattle.cal_days.specs.Division.{floor_div}
use Rattle.cal_days.specs.Gregorian.{gregorian_start, leap_days_through}
use Rattle.cal_days.proofs.Signed.{signed}
use Rattle.std.proofs.lemmas.Int.{by_lt_z}
use Rattle.cal_types.proofs.ListLemmas.{start_of_year-later, date-in_year}
use Rattle.cal_types.proofs.RenumberedLemmas.{start_of_year-renumbered}
use Rattle.cal_base.specs.laws.OffsetListLaws.{offset_list-plain}
use Rattle.cal_errors.specs.RangeParts.{RangeParts}
use Rattle.cal_types.specs.Placing.{out_of_range, placed_day, placed_in_year}
use Rattle.icu_calendar.specs.RecordDates.{numbered_date}

-- a date that exists in a year that a record may name
pub numbered-ok : (t : Date) → IsBetween (neg_ℤ (pos 999999)) (pos 999999) t.year → IsDate iso_list t → numbered_date t ≡ Ok t
unfolding numbered_date
numbered-ok t year h =
    let in_range = true-is_between (neg_ℤ (pos 999999)) (pos 999999) t.year year in
    let month : (nat_le 1 t.month && nat_le t.month (month_count iso_list t.year)) ≡ true = grind (arith, nat_tests, h.place) in
    let day : (nat_le 1 t.day && nat_le t.day (month_length iso_list t.year t.month)) ≡ true = grind (arith, nat_tests, h.day) in
    rw (in_range, month, day) refl

-- a test before an answer
when_ok : {A E : Type 0} (b : Bool) (answer : Result A E) (e : E) → is_ok (cond b answer (Err e)) ≡ true → (b ≡ true) × (is_ok answer ≡ true)
when_ok true answer e h = (refl, h)
when_ok false answer e h = absurd cc

-- and what the tests of the numbers say
pub record Exists (t : Date) : Type 0 where
  pub year : IsBetween (neg_ℤ (pos 999999)) (pos 999999) t.year
  pub date : IsDate iso_list t

pub numbered-exists : (t : Date) → is_ok (numbered_date t) ≡ true → Exists t
unfolding numbered_date
numbered-exists t h =
    let year = when_ok (is_between (neg_ℤ (pos 999999)) (pos 999999) t.year) (placed_in_year iso_list t.year t.month t.day) _ h in
    let month = when_ok (nat_le 1 t.month && nat_le t.month (month_count iso_list t.year)) (placed_day iso_list t.year t.month t.day) _ year.1 in
    let day = when_ok (nat_le 1 t.day && nat_le t.day (month_length iso_list t.year t.month)) (Ok t) _ month.1 in
    record {
      year = is_between-true (neg_ℤ (pos 999999)) (pos 999999) t.year year.0;
      date = record { place = grind (arith, nat_tests, month.0); day = grind (arith, nat_tests, day.0) };
    }

-- a number that is out of its range
abbrev pub refused : RangeParts → Result Date RangeParts
refused e = Err e

-- a year of the list has twelve months
pub twelve_months : (y : ℤ) → month_count iso_list y ≡ 12
twelve_months y = (offset_list-plain (pos 0)).count y

-- a month of a year, and a year that a record may name
pub placed-month : (y : ℤ) (i d : ℕ) → 1 ≤ i → i ≤ 12 → placed_in_year iso_list y i d ≡ placed_day iso_list y i d
placed-month y i d low high =
    let month : (nat_le 1 i && nat_le i (month_count iso_list y)) ≡ true = grind (arith, nat_tests, twelve_months y) in
    rw month refl

pub placed-no_month : (y : ℤ) (i d : ℕ) → (nat_le 1 i && nat_le i 12) ≡ false → placed_in_year iso_list y i d ≡ Err (out_of_range (codes "month") (pos i) (pos 1) (pos 12))
placed-no_month y i d h = rw (twelve_months y, h) refl

pub numbered-year : (t : Date) → IsBetween (neg_ℤ (pos 999999)) (pos 999999) t.year → numbered_date t ≡ placed_in_year iso_list t.year t.month t.day
unfolding numbered_date
numbered-year t h = let year = true-is_between (neg_ℤ (pos 999999)) (pos 999999) t.year h in rw year refl

pub numbered-no_year : (t : Date) → is_between (neg_ℤ (pos 999999)) (pos 999999) t.year ≡ false → numbered_date t ≡ Err (out_of_range (codes "year") t.year (neg_ℤ (pos 999999)) (pos 999999))
unfolding numbered_date
numbered-no_year t h = rw h refl

-- the numbers of a date that is there
pub numbered-is : (t : Date) → numbered_date t ≡ Ok t → Exists t
numbered-is t e = numbered-exists t (rw e refl)

-- the list's years start where the Gregorian rule says
iso_start : (y : ℤ) → start_of_year iso_list y ≡ gregorian_start y
iso_start y =
    let same : y +ℤ pos 0 ≡ y = omega (arith, signed) in
    start_of_year-renumbered (pos 0) gregorian_list y ∙ (start_of_year-gregorian (y +ℤ pos 0) ∙ ap gregorian_start same)

first_year_start : gregorian_start (neg_ℤ (pos 999999)) ≡ neg_ℤ (pos 365242499)
unfolding gregorian_start leap_days_through floor_div
first_year_start = refl

year_after_last_start : gregorian_start (pos 1000000) ≡ pos 365242135
unfolding gregorian_start leap_days_through floor_div
year_after_last_start = refl

first_year_on : (y : ℤ) → neg_ℤ (pos 999999) ≤ℤ y → neg_ℤ (pos 365242499) ≤ℤ start_of_year iso_list y
first_year_on y low =
    let first = iso_start (neg_ℤ (pos 999999)) ∙ first_year_start in
    by_lt_z {P = neg_ℤ (pos 365242499) ≤ℤ start_of_year iso_list y} (neg_ℤ (pos 999999)) y
    (λ lt. omega (arith, signed, first, start_of_year-later iso_list (neg_ℤ (pos 999999)) y lt))
    (λ le. let same : y ≡ neg_ℤ (pos 999999) = omega (arith, signed) in omega (arith, signed, first, ap (start_of_year iso_list) same))

-- a day of a year that a record may name is valid
pub numbered-valid : (t : Date) → Exists t → IsValidDay (day_number iso_list t)
numbered-valid t h =
    let low = first_year_on t.year h.year.0 in
    let after = iso_start (pos 1000000) ∙ year_after_last_start in
    let later : t.year <ℤ pos 1000000 = omega (arith, signed, h.year) in
    let high = start_of_year-later iso_list t.year (pos 1000000) later in
    (omega (arith, signed, low), omega (arith, signed, after, high, date-in_year iso_list t h.date, h.date.day))
