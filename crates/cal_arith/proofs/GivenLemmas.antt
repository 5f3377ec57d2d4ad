-- Years that a calendar gave.
use Rattle.std.proofs.Common.{◌≡◌, ℤ, refl, sym, ap, ◌∙◌, subst, to_z, of_z, w32}
use Rattle.cal_days.specs.Day.{IsRuleYear}
use Rattle.cal_arith.specs.Given.{CalendarYears, IsGiven}
use Rattle.cal_arith.proofs.WordLemmas.{word}

-- what a call gave for a number is the year of that number
pub given_by : {Y : Type 0} (years : CalendarYears Y) (law : (y : ℤ) → IsRuleYear y → years.extended (years.year_of y) ≡ y) (r : Y) (t n : ℤ) → r ≡ years.year_of t → t ≡ n → IsRuleYear n → IsGiven years r × (years.extended r ≡ n)
given_by years law r t n e same range =
    let is_year : r ≡ years.year_of n = e ∙ ap years.year_of same in
    let numbered : years.extended r ≡ n = ap years.extended is_year ∙ law n range in
    (record { same = ap years.year_of numbered ∙ sym is_year; range = subst IsRuleYear (sym numbered) range }, numbered)

-- the same of a number of 32 bits
pub given_of_word : {Y : Type 0} (years : CalendarYears Y) (law : (y : ℤ) → IsRuleYear y → years.extended (years.year_of y) ≡ y) (r : Y) (n : ℤ) → r ≡ years.year_of (to_z w32 (of_z w32 n)) → IsRuleYear n → IsGiven years r × (years.extended r ≡ n)
given_of_word years law r n e range = given_by years law r _ n e (word n _ refl range) range
