-- What is read of any packed date is a year.
use Rattle.std.proofs.Common.{◌≡◌, ◌≤◌, ◌<◌, ◌%◌, ◌/◌, ◌^◌, ◌||◌, ℕ, nat_eq, nat_lt, List, IsTrue, refl, subst, sym, arith, ℤ, pos, ◌+ℤ◌}
use Rattle.std.proofs.lemmas.Bool.Decides.{nat_tests}
use Rattle.cal_days.proofs.Signed.{by_bool, signed}
use Rattle.date_bytes.specs.Bytes.{year_from}
use Rattle.date_bytes.specs.EastAsianBytes.{bits_in, bits_of_places, leap_in, long_in, place_of, start_in}
use Rattle.cal_east_asian.specs.EastAsianYear.{IsEastAsianYear, january_19, is_leap_place, months_of_year}
use Rattle.cal_east_asian.specs.RuleYears.{rule_year}
use Rattle.cal_east_asian.specs.laws.RuleYearLaws.{rule_year-rule}

pub place-read : (n : ℕ) → IsTrue (is_leap_place (place_of n))
place-read n =
    by_bool {P = IsTrue (is_leap_place (place_of n))} (nat_lt n 2 || nat_lt 13 n)
    (λ none. rw none refl)
    (λ some. rw some (grind (arith, nat_tests)))

pub valid-by : (p : List ℕ) → IsEastAsianYear (rule_year (year_from 3 p)) (january_19 (rule_year (year_from 3 p)) +ℤ pos (start_in p)) (leap_in p)
valid-by p =
    let few : start_in p ≤ 34 = omega arith in
    (rule_year-rule (year_from 3 p), ((omega (arith, signed), omega (arith, signed, few)), place-read (bits_in p / 8192 % 16)))

-- with no more bits than months
pub powers : (leap : ℕ) → 2 ^ months_of_year leap ≡ bits_of_places leap
powers leap = by_bool {P = 2 ^ months_of_year leap ≡ bits_of_places leap} (nat_eq leap 0) (λ none. rw none refl) (λ some. rw some refl)

rest-below : (bits leap : ℕ) → bits % bits_of_places leap < bits_of_places leap
rest-below bits leap =
    by_bool {P = bits % bits_of_places leap < bits_of_places leap} (nat_eq leap 0) (λ none. rw none (omega arith)) (λ some. rw some (omega arith))

pub few-by : (p : List ℕ) → long_in p < 2 ^ months_of_year (leap_in p)
few-by p = subst (λ (n : ℕ). long_in p < n) (sym (powers (leap_in p))) (rest-below (bits_in p) (leap_in p))
