-- Dates of the Indian list by years that begin with the second month, Vaisakha, on a fixed day after March 1.
use Rattle.std.proofs.Common.{◌≡◌, ℕ, ◌+◌, ◌-◌, ◌*◌, ◌≤◌, ◌<◌, Bool, true, false, cond, if◌then◌else◌, min, refl, sym, ap, ◌∙◌, arith, ℤ, pos, ◌+ℤ◌, ◌-ℤ◌}
use Rattle.std.specs.Prelude.{nat_le}
use Rattle.std.proofs.lemmas.Bool.Decides.{nat_tests}
use Rattle.cal_days.specs.Gregorian.{first_of_march, gregorian_start}
use Rattle.cal_days.proofs.Signed.{signed, by_lt}
use Rattle.cal_days.proofs.GregorianLemmas.{gregorian_start-next, gregorian_year_length-parts, leap_day}
use Rattle.cal_types.specs.CalendarList.{date, day_number, start_of_year, HasPlace, IsOn}
use Rattle.cal_types.proofs.ListLemmas.{days_before-first}
use Rattle.cal_types.proofs.MonthCases.{by_month, by_thirteen}
use Rattle.cal_julian.specs.IndianList.{indian_days_before, indian_leap, indian_list, indian_month_length, vaisakha_days_before, vaisakha_month}
use Rattle.cal_julian.specs.laws.IndianLaws.{days_before-indian, indian_list-plain, month_length-indian, start_of_year-indian}

-- the days before a month, in closed form
pub vaisakha_days_before-closed : (m : ℕ) → 2 ≤ m → m ≤ 13 → 30 * (m - 2) + min (m - 2) 5 ≡ vaisakha_days_before m
vaisakha_days_before-closed m low high =
    by_thirteen (λ m. 2 ≤ m → 30 * (m - 2) + min (m - 2) 5 ≡ vaisakha_days_before m)
    (λ h. absurd (omega arith)) (λ h. refl) (λ h. refl) (λ h. refl) (λ h. refl) (λ h. refl) (λ h. refl) (λ h. refl) (λ h. refl) (λ h. refl) (λ h. refl) (λ h. refl) (λ h. refl) m (omega arith) high low

-- the first month, whose last day is the leap day
first_month : Bool → ℕ
first_month leap = if leap then 31 else 30

first_month-parts : (leap : Bool) → first_month leap ≡ 30 + cond leap 1 0
unfolding first_month
first_month-parts true = refl
first_month-parts false = refl

first_month-length : (leap : Bool) → indian_month_length leap 1 ≡ first_month leap
unfolding first_month
first_month-length leap = refl

days_before-vaisakha : (leap : Bool) (m : ℕ) → 2 ≤ m → m ≤ 12 → indian_days_before leap m ≡ vaisakha_days_before m + first_month leap
unfolding first_month
days_before-vaisakha true m low high =
    by_month (λ m. 2 ≤ m → indian_days_before true m ≡ vaisakha_days_before m + 31)
    (λ h. absurd (omega arith)) (λ h. refl) (λ h. refl) (λ h. refl) (λ h. refl) (λ h. refl) (λ h. refl) (λ h. refl) (λ h. refl) (λ h. refl) (λ h. refl) (λ h. refl) m (omega arith) high low
days_before-vaisakha false m low high =
    by_month (λ m. 2 ≤ m → indian_days_before false m ≡ vaisakha_days_before m + 30)
    (λ h. absurd (omega arith)) (λ h. refl) (λ h. refl) (λ h. refl) (λ h. refl) (λ h. refl) (λ h. refl) (λ h. refl) (λ h. refl) (λ h. refl) (λ h. refl) (λ h. refl) m (omega arith) high low

-- no other month's length depends on the year
pub month_length-others : (leap : Bool) (m : ℕ) → 2 ≤ m → m ≤ 12 → indian_month_length leap m ≡ indian_month_length true m
month_length-others leap m low high =
    by_month (λ m. 2 ≤ m → indian_month_length leap m ≡ indian_month_length true m)
    (λ h. absurd (omega arith)) (λ h. refl) (λ h. refl) (λ h. refl) (λ h. refl) (λ h. refl) (λ h. refl) (λ h. refl) (λ h. refl) (λ h. refl) (λ h. refl) (λ h. refl) m (omega arith) high low

-- the day number of a year's first day of Vaisakha
abbrev pub first_of_vaisakha : ℤ → ℤ
first_of_vaisakha y = first_of_march (y +ℤ pos 78) +ℤ pos 51

-- it follows the first month
first_of_vaisakha-year : (y : ℤ) → first_of_vaisakha y ≡ start_of_year indian_list y +ℤ pos (first_month (indian_leap y))
first_of_vaisakha-year y = omega (arith, signed, start_of_year-indian y, gregorian_start-next (y +ℤ pos 78), gregorian_year_length-parts (y +ℤ pos 78), first_month-parts (indian_leap y))

-- and the next year starts 335 days later
first_of_vaisakha-next : (y z : ℤ) → z ≡ y +ℤ pos 1 → start_of_year indian_list z ≡ first_of_vaisakha y +ℤ pos 335
first_of_vaisakha-next y z e =
    let same : z +ℤ pos 78 ≡ y +ℤ pos 78 +ℤ pos 1 = omega (arith, signed, e) in
    omega (arith, signed, start_of_year-indian z, ap gregorian_start same)

-- the day number of a date from Vaisakha on
day_number-vaisakha : (y : ℤ) (m d : ℕ) → 2 ≤ m → m ≤ 12 → day_number indian_list (date y m d) ≡ first_of_vaisakha y +ℤ pos (vaisakha_days_before m + (d - 1))
day_number-vaisakha y m d low high = omega (arith, signed, first_of_vaisakha-year y, days_before-indian y m, days_before-vaisakha (indian_leap y) m low high)

-- and of one in the first month, by the year before
day_number-next : (y z : ℤ) (d : ℕ) → z ≡ y +ℤ pos 1 → day_number indian_list (date z 1 d) ≡ first_of_vaisakha y +ℤ pos (335 + (d - 1))
day_number-next y z d e = omega (arith, signed, first_of_vaisakha-next y z e, days_before-first indian_list z)

-- in any month, by the year that begins with Vaisakha
pub day_number-in_vaisakha_year : (y z : ℤ) (m i d : ℕ) → (2 ≤ m) × (m ≤ 13) → vaisakha_month m ≡ i → z ≡ (if nat_le m 12 then y else y -ℤ pos 1) → day_number indian_list (date y i d) ≡ first_of_vaisakha z +ℤ pos (vaisakha_days_before m + (d - 1))
day_number-in_vaisakha_year y z m i d place same year =
    by_lt {P = day_number indian_list (date y i d) ≡ first_of_vaisakha z +ℤ pos (vaisakha_days_before m + (d - 1))} 12 m
    (λ above.
    let late : nat_le m 12 ≡ false = grind (arith, nat_tests) in
    let before : z ≡ y -ℤ pos 1 = year ∙ ap (λ b. if b then y else y -ℤ pos 1) late in
    let month : 1 ≡ i = omega (arith, place.1, above, sym (ap (λ b. if b then m else m - 12) late) ∙ same) in
    let days : vaisakha_days_before m ≡ 335 = ap (λ b. if b then indian_days_before true m - 31 else 335) late in
    sym (ap (λ (n : ℕ). day_number indian_list (date y n d)) month) ∙ (day_number-next z y d (omega (arith, signed, before)) ∙ ap (λ (n : ℕ). first_of_vaisakha z +ℤ pos (n + (d - 1))) (sym days)))
    (λ below.
    let early : nat_le m 12 ≡ true = grind (arith, nat_tests) in
    let here : z ≡ y = year ∙ ap (λ b. if b then y else y -ℤ pos 1) early in
    let month : m ≡ i = sym (ap (λ b. if b then m else m - 12) early) ∙ same in
    sym (ap (λ (n : ℕ). day_number indian_list (date y n d)) month) ∙ (day_number-vaisakha y m d place.0 below ∙ ap (λ (n : ℤ). first_of_vaisakha n +ℤ pos (vaisakha_days_before m + (d - 1))) (sym here)))

-- a day that is found by its place after a first day of Vaisakha is a day of that month
pub on-vaisakha : (y rd : ℤ) (m d : ℕ) → 2 ≤ m → m ≤ 12 → (1 ≤ d) × (d ≤ indian_month_length true m) → first_of_vaisakha y +ℤ pos (vaisakha_days_before m + (d - 1)) ≡ rd → IsOn indian_list rd (date y m d)
on-vaisakha y rd m d low high day same =
    let place : HasPlace indian_list y m = (omega arith, omega (arith, indian_list-plain.count y)) in
    let length = month_length-indian y m ∙ month_length-others (indian_leap y) m low high in
    record { date = record { place = place; day = (day.0, omega (arith, length, day.1)) }; day = day_number-vaisakha y m d low high ∙ same }

-- the day of a Gregorian year that lies p days after its March 1, and p days and the leap day after the last of February in a common year
module _ (g : ℤ) (p x : ℕ) (counted : x ≡ p + leap_day g) where
  -- up to 20 days after that it is in the last month of the Indian year that began before the Gregorian one
  pub on-last : (y : ℤ) → y ≡ g -ℤ pos 79 → x < 21 → IsOn indian_list (first_of_march g +ℤ pos p) (date y 12 (x + 10))
  on-last y e early =
      let year : y +ℤ pos 78 +ℤ pos 1 ≡ g = omega (arith, signed, e) in
      on-vaisakha y (first_of_march g +ℤ pos p) 12 (x + 10) (omega arith) (omega arith) (omega arith, omega (arith, early))
      (omega (arith, signed, counted, ap gregorian_start year, gregorian_start-next g, gregorian_year_length-parts g))

  -- and up to 50 days in the first month of the next
  pub on-first : (z : ℤ) → z ≡ g -ℤ pos 78 → p < 51 → 21 ≤ x → IsOn indian_list (first_of_march g +ℤ pos p) (date z 1 (x - 20))
  on-first z e early late =
      let year : z +ℤ pos 78 ≡ g = omega (arith, signed, e) in
      let place : HasPlace indian_list z 1 = (omega arith, omega (arith, indian_list-plain.count z)) in
      let length = month_length-indian z 1 ∙ (first_month-length (indian_leap z) ∙ first_month-parts (indian_leap z)) in
      let leap = ap leap_day year in
      record {
        date = record { place = place; day = (omega (arith, late), omega (arith, length, leap, counted, early)) };
        day = omega (arith, signed, counted, late, days_before-first indian_list z, start_of_year-indian z, ap gregorian_start year, gregorian_start-next g, gregorian_year_length-parts g);
      }
