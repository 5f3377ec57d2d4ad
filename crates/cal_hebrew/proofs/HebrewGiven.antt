-- What a given year of the Hebrew calendar says of its length, and the date of a day by that.
use Rattle.std.proofs.Common.{◌≡◌, ℕ, ◌+◌, ◌≤◌, Bool, ap, subst, ◌∙◌, arith, ℤ, pos, ◌+ℤ◌}
use Rattle.cal_days.specs.Hebrew.{IsHebrewLength, hebrew_leap, hebrew_year_length}
use Rattle.cal_days.proofs.Signed.{signed}
use Rattle.cal_days.proofs.HebrewLemmas.{hebrew_year_length-is}
use Rattle.cal_types.specs.CalendarList.{HasPlace, IsOn, date, start_of_year}
use Rattle.cal_arith.specs.Given.{IsGiven}
use Rattle.cal_hebrew.specs.HebrewList.{hebrew_list, hebrew_years}
use Rattle.cal_hebrew.specs.laws.HebrewMonths.{days_before-hebrew, hebrew_leap-length, month_count-hebrew, month_length-hebrew}
use Rattle.cal_hebrew.specs.HebrewPlaces.{IsYearLength, days_before_place, is_leap_length, place_count, place_length}
use Rattle.cal_hebrew.specs.declared.hebrew_year.HebrewYear.{HebrewYear}

-- it is the year's
pub given-length : (y : HebrewYear) → IsGiven hebrew_years y → hebrew_year_length y.extended_year ≡ y.length
given-length y given = ap (λ (x : HebrewYear). x.length) given.same

-- so by it the year is a leap year
pub given-leap : (y : HebrewYear) → IsGiven hebrew_years y → hebrew_leap y.extended_year ≡ is_leap_length y.length
given-leap y given = hebrew_leap-length y.extended_year ∙ ap is_leap_length (given-length y given)

-- the length of a year is one of the six
pub one_of_six : (y : ℤ) (n : ℕ) → hebrew_year_length y ≡ n → IsYearLength n
one_of_six y n same = subst IsYearLength same (subst (λ (b : Bool). IsHebrewLength b (hebrew_year_length y)) (hebrew_leap-length y) (hebrew_year_length-is y))

-- day p of a year, counted from 0, by the place of its month and its day there
pub on-place : (y : ℤ) (n p i d : ℕ) → hebrew_year_length y ≡ n → (1 ≤ i) × (i ≤ place_count n) → days_before_place n i + d ≡ p + 1 → (1 ≤ d) × (d ≤ place_length n i) → IsOn hebrew_list (start_of_year hebrew_list y +ℤ pos p) (date y i d)
on-place y n p i d same place before day =
    let here : HasPlace hebrew_list y i = (place.0, omega (arith, place.1, month_count-hebrew y, ap place_count same)) in
    let days = days_before-hebrew y i here ∙ ap (λ (k : ℕ). days_before_place k i) same in
    let length = month_length-hebrew y i here ∙ ap (λ (k : ℕ). place_length k i) same in
    record {
      date = record { place = here; day = (day.0, omega (arith, day.1, length)) };
      day = omega (arith, signed, before, days, day.0);
    }
