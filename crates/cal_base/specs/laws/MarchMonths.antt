-- The months of years that begin on March 1, counted from 3 to 14, in closed form, and their days in each list that has Gregorian months.
-- Source: Neri and Schneider, Euclidean affine functions and their application to calendar algorithms (2022).
use Rattle.std.proofs.Common.{◌≡◌, ℕ, ◌+◌, ◌-◌, ◌*◌, ◌/◌, ◌%◌, ◌<◌, ◌≤◌, Bool, true, false, if◌then◌else◌, refl, sym, subst, ap, ◌∙◌, arith, ℤ, pos, ◌+ℤ◌, ◌-ℤ◌, ◌<ℤ◌}
use Rattle.std.specs.Prelude.{nat_le}
use Rattle.std.proofs.lemmas.Bool.Decides.{nat_tests}
use Rattle.cal_days.proofs.Signed.{signed, by_lt}
use Rattle.cal_types.specs.CalendarList.{CalendarList, date, day_number, start_of_year, HasPlace, IsOn}
use Rattle.cal_types.proofs.ListLemmas.{start_of_year-next}
use Rattle.cal_types.proofs.MonthCases.{by_month}
use Rattle.cal_base.specs.GregorianList.{gregorian_days_before, gregorian_month_length, march_month, march_days_before, march_month_most, HasGregorianMonths}
use Rattle.cal_base.specs.laws.GregorianMonths.{days_before-gregorian, month_length-gregorian, year_length-gregorian, gregorian-plain}

-- what holds of each month from 3 to 14
by_march : (P : ℕ → Type 0) → P 3 → P 4 → P 5 → P 6 → P 7 → P 8 → P 9 → P 10 → P 11 → P 12 → P 13 → P 14 → (m : ℕ) → 3 ≤ m → m ≤ 14 → P m
by_march P a b c d e f g h j k l n m low high =
    let same : m - 2 + 2 ≡ m = omega arith in
    subst P same (by_month (λ i. P (i + 2)) a b c d e f g h j k l n (m - 2) (omega arith) (omega arith))

-- the days from March 1 to a month, in closed form
pub march_days_before-closed : (m : ℕ) → 3 ≤ m → m ≤ 14 → (979 * m - 2919) / 32 ≡ march_days_before m
march_days_before-closed = by_march (λ m. (979 * m - 2919) / 32 ≡ march_days_before m) refl refl refl refl refl refl refl refl refl refl refl refl

-- the closed form finds the month of a day, and the day
abbrev IsMarchDay : ℕ → ℕ → ℕ → Type 0
IsMarchDay p m r = (march_days_before m + r ≡ p) × (r < march_month_most m)

abbrev Finds : ℕ → ℕ → Type 0
Finds p m = m ≡ (2141 * p + 197913) / 65536 → IsMarchDay p m ((2141 * p + 197913) % 65536 / 2141)

pub march_day_found : (p m : ℕ) → p < 366 → 3 ≤ m → m ≤ 14 → Finds p m
march_day_found p m h = by_march (Finds p)
    (λ e. (grind (arith, nat_tests), grind (arith, nat_tests)))
    (λ e. (grind (arith, nat_tests), grind (arith, nat_tests)))
    (λ e. (grind (arith, nat_tests), grind (arith, nat_tests)))
    (λ e. (grind (arith, nat_tests), grind (arith, nat_tests)))
    (λ e. (grind (arith, nat_tests), grind (arith, nat_tests)))
    (λ e. (grind (arith, nat_tests), grind (arith, nat_tests)))
    (λ e. (grind (arith, nat_tests), grind (arith, nat_tests)))
    (λ e. (grind (arith, nat_tests), grind (arith, nat_tests)))
    (λ e. (grind (arith, nat_tests), grind (arith, nat_tests)))
    (λ e. (grind (arith, nat_tests), grind (arith, nat_tests)))
    (λ e. (grind (arith, nat_tests), grind (arith, nat_tests)))
    (λ e. (grind (arith, nat_tests), grind (arith, nat_tests)))
    m

pub march_month_found : (p : ℕ) → p < 366 → (3 ≤ (2141 * p + 197913) / 65536) × ((2141 * p + 197913) / 65536 ≤ 14)
march_month_found p h = (omega arith, omega arith)

-- January and February go before March 1
days_before_march : Bool → ℕ
days_before_march leap = if leap then 60 else 59

year_from_march : (leap : Bool) → (if leap then 366 else 365) ≡ days_before_march leap + 306
unfolding days_before_march
year_from_march true = refl
year_from_march false = refl

days_before-march : (leap : Bool) (m : ℕ) → 3 ≤ m → m ≤ 12 → gregorian_days_before leap m ≡ march_days_before m + days_before_march leap
unfolding days_before_march
days_before-march true m low high = by_march (λ m. m ≤ 12 → gregorian_days_before true m ≡ march_days_before m + 60) (λ h. refl) (λ h. refl) (λ h. refl) (λ h. refl) (λ h. refl) (λ h. refl) (λ h. refl) (λ h. refl) (λ h. refl) (λ h. refl) (λ h. absurd (omega arith)) (λ h. absurd (omega arith)) m low (omega arith) high
days_before-march false m low high = by_march (λ m. m ≤ 12 → gregorian_days_before false m ≡ march_days_before m + 59) (λ h. refl) (λ h. refl) (λ h. refl) (λ h. refl) (λ h. refl) (λ h. refl) (λ h. refl) (λ h. refl) (λ h. refl) (λ h. refl) (λ h. absurd (omega arith)) (λ h. absurd (omega arith)) m low (omega arith) high

month_length-march : (leap : Bool) (m : ℕ) → 3 ≤ m → m ≤ 12 → gregorian_month_length leap m ≡ march_month_most m
month_length-march leap m low high = by_march (λ m. m ≤ 12 → gregorian_month_length leap m ≡ march_month_most m) (λ h. refl) (λ h. refl) (λ h. refl) (λ h. refl) (λ h. refl) (λ h. refl) (λ h. refl) (λ h. refl) (λ h. refl) (λ h. refl) (λ h. absurd (omega arith)) (λ h. absurd (omega arith)) m low (omega arith) high

-- January and February, which are the months 13 and 14 of the year before
next_days_before : (leap : Bool) (m : ℕ) → 13 ≤ m → m ≤ 14 → gregorian_days_before leap (m - 12) + 306 ≡ march_days_before m
next_days_before leap m low high =
    by_march (λ m. 13 ≤ m → gregorian_days_before leap (m - 12) + 306 ≡ march_days_before m)
    (λ h. absurd (omega arith)) (λ h. absurd (omega arith)) (λ h. absurd (omega arith)) (λ h. absurd (omega arith)) (λ h. absurd (omega arith)) (λ h. absurd (omega arith)) (λ h. absurd (omega arith)) (λ h. absurd (omega arith)) (λ h. absurd (omega arith)) (λ h. absurd (omega arith)) (λ h. refl) (λ h. refl) m (omega arith) high low

-- the days of January, and those of February that the year has
next_month_length : (leap : Bool) (m r : ℕ) → 13 ≤ m → m ≤ 14 → r < march_month_most m → march_days_before m + r < 306 + days_before_march leap → r < gregorian_month_length leap (m - 12)
unfolding days_before_march
next_month_length true m r low high = by_march (λ m. 13 ≤ m → r < march_month_most m → march_days_before m + r < 366 → r < gregorian_month_length true (m - 12))
    (λ h. absurd (omega arith)) (λ h. absurd (omega arith)) (λ h. absurd (omega arith)) (λ h. absurd (omega arith)) (λ h. absurd (omega arith)) (λ h. absurd (omega arith)) (λ h. absurd (omega arith)) (λ h. absurd (omega arith)) (λ h. absurd (omega arith)) (λ h. absurd (omega arith)) (λ h most early. most) (λ h most early. most) m (omega arith) high low
next_month_length false m r low high = by_march (λ m. 13 ≤ m → r < march_month_most m → march_days_before m + r < 365 → r < gregorian_month_length false (m - 12))
    (λ h. absurd (omega arith)) (λ h. absurd (omega arith)) (λ h. absurd (omega arith)) (λ h. absurd (omega arith)) (λ h. absurd (omega arith)) (λ h. absurd (omega arith)) (λ h. absurd (omega arith)) (λ h. absurd (omega arith)) (λ h. absurd (omega arith)) (λ h. absurd (omega arith)) (λ h most early. most) (λ h most early. omega (arith, early)) m (omega arith) high low

-- the day number of a year's March 1
abbrev pub march_start_of : CalendarList → ℤ → ℤ
march_start_of c y = start_of_year c (y +ℤ pos 1) -ℤ pos 306

module _ (leap : ℤ → Bool) (c : CalendarList) (has : HasGregorianMonths leap c) where
  march_start-year : (y : ℤ) → march_start_of c y ≡ start_of_year c y +ℤ pos (days_before_march (leap y))
  march_start-year y = omega (arith, signed, start_of_year-next c y, year_length-gregorian leap c has y, year_from_march (leap y))

  -- the day number of a date from March on, by the year's March 1
  pub day_number-march : (y : ℤ) (m d : ℕ) → 3 ≤ m → m ≤ 12 → day_number c (date y m d) ≡ march_start_of c y +ℤ pos (march_days_before m + (d - 1))
  day_number-march y m d low high = omega (arith, signed, march_start-year y, days_before-gregorian leap c has y m, days_before-march (leap y) m low high)

  -- and of one in January or February, by March 1 of the year before
  pub day_number-next : (y z : ℤ) (m d : ℕ) → z ≡ y +ℤ pos 1 → 13 ≤ m → m ≤ 14 → day_number c (date z (m - 12) d) ≡ march_start_of c y +ℤ pos (march_days_before m + (d - 1))
  day_number-next y z m d e low high = omega (arith, signed, ap (start_of_year c) e, days_before-gregorian leap c has z (m - 12), next_days_before (leap z) m low high)

  -- in any month, by the year that begins on March 1
  pub day_number-in_march_year : (y z : ℤ) (m i d : ℕ) → (3 ≤ m) × (m ≤ 14) → march_month m ≡ i → z ≡ (if nat_le m 12 then y else y -ℤ pos 1) → day_number c (date y i d) ≡ march_start_of c z +ℤ pos (march_days_before m + (d - 1))
  day_number-in_march_year y z m i d place same year =
      by_lt {P = day_number c (date y i d) ≡ march_start_of c z +ℤ pos (march_days_before m + (d - 1))} 12 m
      (λ above.
      let late : nat_le m 12 ≡ false = grind (arith, nat_tests) in
      let before : z ≡ y -ℤ pos 1 = year ∙ ap (λ b. if b then y else y -ℤ pos 1) late in
      let month : m - 12 ≡ i = sym (ap (λ b. if b then m else m - 12) late) ∙ same in
      sym (ap (λ (n : ℕ). day_number c (date y n d)) month) ∙ day_number-next z y m d (omega (arith, signed, before)) above place.1)
      (λ below.
      let early : nat_le m 12 ≡ true = grind (arith, nat_tests) in
      let here : z ≡ y = year ∙ ap (λ b. if b then y else y -ℤ pos 1) early in
      let month : m ≡ i = sym (ap (λ b. if b then m else m - 12) early) ∙ same in
      sym (ap (λ (n : ℕ). day_number c (date y n d)) month) ∙ (day_number-march y m d place.0 below ∙ ap (λ (n : ℤ). march_start_of c n +ℤ pos (march_days_before m + (d - 1))) (sym here)))

  -- a day that is found by its place after a March 1 is a day of that month
  pub on-march : (y rd : ℤ) (m d : ℕ) → 3 ≤ m → m ≤ 12 → (1 ≤ d) × (d ≤ march_month_most m) → march_start_of c y +ℤ pos (march_days_before m + (d - 1)) ≡ rd → IsOn c rd (date y m d)
  on-march y rd m d low high day same =
      let plain = gregorian-plain leap c has in
      let place : HasPlace c y m = (omega arith, omega (arith, plain.count y)) in
      let length = month_length-gregorian leap c has y m ∙ month_length-march (leap y) m low high in
      record { date = record { place = place; day = (day.0, omega (arith, length, day.1)) }; day = day_number-march y m d low high ∙ same }

  pub on-next : (y z rd : ℤ) (m d : ℕ) → z ≡ y +ℤ pos 1 → 13 ≤ m → m ≤ 14 → (1 ≤ d) × (d ≤ march_month_most m) → march_start_of c y +ℤ pos (march_days_before m + (d - 1)) ≡ rd → rd <ℤ march_start_of c z → IsOn c rd (date z (m - 12) d)
  on-next y z rd m d e low high day same before =
      let plain = gregorian-plain leap c has in
      let place : HasPlace c z (m - 12) = (omega arith, omega (arith, plain.count z)) in
      let early : march_days_before m + (d - 1) < 306 + days_before_march (leap z) = omega (arith, signed, march_start-year z, ap (start_of_year c) e, same, before) in
      let length = month_length-gregorian leap c has z (m - 12) in
      let last = next_month_length (leap z) m (d - 1) low high (omega (arith, day)) early in
      record { date = record { place = place; day = (day.0, omega (arith, length, last, day.0)) }; day = day_number-next y z m d e low high ∙ same }
