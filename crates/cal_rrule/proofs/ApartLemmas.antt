-- Blocks of periods that aren't next to each other have their days in order.
use Rattle.std.proofs.Common.{◌≡◌, ◌∙◌, ℕ, ◌+◌, ◌*◌, ◌/◌, ◌<◌, ◌≤◌, ◌⊎◌, nat_lt, if◌then◌else◌, Bool, true, false, ℤ, pos, ◌+ℤ◌, ◌≤ℤ◌, ◌<ℤ◌, refl, ap, subst, arith}
use mathlib.Core.Logic.{inl, inr}
use Rattle.std.proofs.Math.Nat.{add-mul}
use Rattle.std.proofs.lemmas.Bool.Decides.{nat_tests}
use Rattle.std.proofs.lemmas.Int.{by_lt_z}
use Rattle.std.proofs.lemmas.Nat.{le-div, mul-le}
use Rattle.cal_days.proofs.DivisionLemmas.{floor_parts}
use Rattle.cal_days.proofs.Signed.{signed}
use Rattle.cal_types.specs.CalendarList.{CalendarList, Date, HasPlace, IsBefore, IsDate, IsLawful, date, day_number, month_length, month_number}
use Rattle.cal_types.specs.declared.weekday.Weekday.{Weekday}
use Rattle.cal_types.proofs.ListLemmas.{by_place_order, day_number-rises, month_number-order, start_of_year-later}
use Rattle.cal_rule.specs.declared.frequency.Frequency.{Frequency}
use Rattle.cal_rule.specs.declared.frequency.Frequency.TheVariants.{Yearly, Weekly, Daily}
use Rattle.cal_rule.specs.declared.place_set.Place.{Place}
use Rattle.cal_rule.specs.declared.place_set.Place.TheVariants.{FromFront, FromBack}
use Rattle.cal_rule.specs.declared.rule.RecurrenceRule.{RecurrenceRule}
use Rattle.cal_rrule.specs.Blocks.{IsOfBlocks, weekly_periods}
use Rattle.cal_rrule.specs.Periods.{IsNamedInWeeks, IsOfPeriod, IsOfPeriods, NoWeeks}
use Rattle.cal_rrule.specs.Stretches.{end_of, month_stretch}
use Rattle.cal_rrule.specs.Weeks.{BelongsTo, IsWeekNumber, IsWeekOf}

-- a month ends before a later one begins
pub months-in_order : (c : CalendarList) → IsLawful c → (z : ℤ) (j : ℕ) (y : ℤ) (i : ℕ) → HasPlace c z j → HasPlace c y i →
    month_number c z j <ℤ month_number c y i → end_of (month_stretch c (z, j)) ≤ℤ day_number c (date y i 1)
months-in_order c law z j y i one two less =
    by_place_order z j y i before
    (λ h. absurd (omega (arith, signed, less, month_number-order c y i z j two one h)))
    (λ years places. let same : month_number c z j ≡ month_number c y i =
    ap (λ (x : ℤ). month_number c x j) years ∙ ap (λ (k : ℕ). month_number c y k) places in
    absurd (omega (arith, signed, less, same)))
  where
    last : IsDate c (date z j (month_length c z j))
    last = record { place = one; day = ((law.lengths z j one).0, omega arith) }

    first : IsDate c (date y i 1)
    first = record { place = two; day = (omega arith, (law.lengths y i two).0) }

    order : (z <ℤ y) ⊎ ((z ≡ y) × (j < i)) → IsBefore (z, j, month_length c z j) (y, i, 1)
    order (inl years) = inl years
    order (inr p) = inr (p.0, inl p.1)

    before : (z <ℤ y) ⊎ ((z ≡ y) × (j < i)) → end_of (month_stretch c (z, j)) ≤ℤ day_number c (date y i 1)
    before h =
        let rises = day_number-rises c (date z j (month_length c z j)) (date y i 1) last first (order h) in
        omega (arith, signed, rises, (law.lengths z j one).0)

-- the same of DAILY's blocks
pub daily-apart : (c : CalendarList) → IsLawful c → (rule : RecurrenceRule) (t : Date) (i j : ℕ) (m n : ℤ) → i + 2 ≤ j →
    IsOfBlocks Daily c rule t i m → IsOfBlocks Daily c rule t j n → m <ℤ n
daily-apart c law rule t i j m n far p q =
    let less : month_number c p.0.0 p.0.1 <ℤ month_number c q.0.0 q.0.1 = omega (arith, signed, p.1.moved, q.1.moved, far) in
    let order = months-in_order c law p.0.0 p.0.1 q.0.0 q.0.1 p.1.place q.1.place less in
    omega (arith, signed, p.2.1, q.2.0, order)

-- a week belongs to one year
pub year-unique : (c : CalendarList) (y z w : ℤ) → BelongsTo c y w → BelongsTo c z w → y ≡ z
year-unique c y z w one two =
    by_lt_z {P = y ≡ z} y z
    (λ less. absurd (omega (arith, signed, start_of_year-later c y z less, one.1, two.0)))
    (λ le. by_lt_z {P = y ≡ z} z y
    (λ more. absurd (omega (arith, signed, start_of_year-later c z y more, two.1, one.0)))
    (λ ge. omega (arith, signed, le, ge)))

-- two weeks of a day are the same
pub week-unique : (start : Weekday) (n v w : ℤ) → IsWeekOf start n v → IsWeekOf start n w → v ≡ w
week-unique start n v w a b =
    let p = floor_parts v 7 (omega arith) in
    let q = floor_parts w 7 (omega arith) in
    omega (arith, signed, p, q, a.0, a.1, a.2, b.0, b.1, b.2)

-- there is a period in a block
pub periods-some : (interval : ℕ) → 0 < interval → 0 < weekly_periods interval
periods-some interval some = by_test (nat_lt 63 interval) refl
  where
    by_test : (b : Bool) → nat_lt 63 interval ≡ b → 0 < (if b then 1 else 63 / interval)
    by_test true e = omega arith
    by_test false e =
        let few : interval ≤ 63 = grind (arith, nat_tests, e) in
        let least : 1 ≤ 63 / interval = le-div 1 63 interval some (omega (arith, few)) in
        omega (arith, least)

-- and of WEEKLY's
pub weekly-apart : (c : CalendarList) (rule : RecurrenceRule) (t : Date) → rule.frequency ≡ Weekly → (i j : ℕ) (m n : ℤ) →
    i + 2 ≤ j → IsOfBlocks Weekly c rule t i m → IsOfBlocks Weekly c rule t j n → m <ℤ n
weekly-apart c rule t weekly i j m n far p q = by_weeks (of_weekly (i * count + p.0) m p.2.0) (of_weekly (j * count + q.0) n q.2.0)
  where
    count : ℕ
    count = weekly_periods rule.interval

    of_weekly : (k : ℕ) (d : ℤ) → IsOfPeriod c rule t k d → IsOfPeriods Weekly c rule t (k * rule.interval) d
    of_weekly k d h = subst (λ (f : Frequency). IsOfPeriods f c rule t (k * rule.interval) d) weekly h

    periods : (i * count + p.0) + 1 ≤ j * count + q.0
    periods =
        let more : (i + 1) * count ≤ j * count = mul-le (i + 1) count j count (omega (arith, far)) (omega arith) in
        let split : (i + 1) * count ≡ i * count + 1 * count = add-mul i 1 count in
        let one : 1 * count ≡ count = omega arith in
        omega (arith, more, split, one, p.1)

    weeks : (i * count + p.0) * rule.interval + 1 ≤ (j * count + q.0) * rule.interval
    weeks =
        let more : ((i * count + p.0) + 1) * rule.interval ≤ (j * count + q.0) * rule.interval =
        mul-le ((i * count + p.0) + 1) rule.interval (j * count + q.0) rule.interval periods (omega arith) in
        let split : ((i * count + p.0) + 1) * rule.interval ≡ (i * count + p.0) * rule.interval + 1 * rule.interval =
        add-mul (i * count + p.0) 1 rule.interval in
        let one : 1 * rule.interval ≡ rule.interval = omega arith in
        omega (arith, more, split, one, rule.every)

    by_weeks : IsOfPeriods Weekly c rule t ((i * count + p.0) * rule.interval) m →
        IsOfPeriods Weekly c rule t ((j * count + q.0) * rule.interval) n → m <ℤ n
    by_weeks a b =
        let same : a.0 ≡ b.0 = week-unique rule.week_start (day_number c t) a.0 b.0 a.1 b.1 in
        omega (arith, signed, same, a.2.within.1, b.2.within.0, weeks)

-- and of weeks of years
pub weeks-apart : (c : CalendarList) (rule : RecurrenceRule) (t : Date) → rule.frequency ≡ Yearly → ¬ (NoWeeks rule) →
    (i j : ℕ) (m n : ℤ) → i + 2 ≤ j → IsOfBlocks Yearly c rule t i m → IsOfBlocks Yearly c rule t j n → m <ℤ n
weeks-apart c rule t yearly there i j m n far p q = by_years (of_weeks i m p.0) (of_weeks j n q.0)
  where
    of_weeks : (k : ℕ) (d : ℤ) → IsOfPeriod c rule t k d →
        (y w : ℤ) × IsWeekOf rule.week_start (day_number c t) w × BelongsTo c y w
        × IsNamedInWeeks c rule t (y +ℤ pos (k * rule.interval)) d
    of_weeks k d h = (subst (λ (f : Frequency). IsOfPeriods f c rule t (k * rule.interval) d) yearly h).0 there

    years : i * rule.interval + 1 ≤ j * rule.interval
    years =
        let more : (i + 1) * rule.interval ≤ j * rule.interval = mul-le (i + 1) rule.interval j rule.interval (omega (arith, far)) (omega arith) in
        let split : (i + 1) * rule.interval ≡ i * rule.interval + 1 * rule.interval = add-mul i 1 rule.interval in
        let one : 1 * rule.interval ≡ rule.interval = omega arith in
        omega (arith, more, split, one, rule.every)

    belongs : (y w : ℤ) (k : Place) → IsWeekNumber c y w k → BelongsTo c y w
    belongs y w (FromFront k) is = is.1
    belongs y w (FromBack k) is = is.1

    by_weeks : (y z v w : ℤ) → y <ℤ z → IsWeekOf rule.week_start m v → IsWeekOf rule.week_start n w → BelongsTo c y v →
        BelongsTo c z w → m <ℤ n
    by_weeks y z v w less a b one two =
        let order = start_of_year-later c y z less in
        let e = floor_parts v 7 (omega arith) in
        let f = floor_parts w 7 (omega arith) in
        omega (arith, signed, order, one.1, two.0, e, f, a.0, b.0, a.2, b.1)

    by_years : (y w : ℤ) × IsWeekOf rule.week_start (day_number c t) w × BelongsTo c y w
        × IsNamedInWeeks c rule t (y +ℤ pos (i * rule.interval)) m →
        (y w : ℤ) × IsWeekOf rule.week_start (day_number c t) w × BelongsTo c y w
        × IsNamedInWeeks c rule t (y +ℤ pos (j * rule.interval)) n → m <ℤ n
    by_years a b =
        let week : a.1 ≡ b.1 = week-unique rule.week_start (day_number c t) a.1 b.1 a.2 b.2 in
        let year : a.0 ≡ b.0 = year-unique c a.0 b.0 b.1 (subst (λ (v : ℤ). BelongsTo c a.0 v) week a.3) b.3 in
        let u = a.4.week in
        let v = b.4.week in
        by_weeks (a.0 +ℤ pos (i * rule.interval)) (b.0 +ℤ pos (j * rule.interval)) u.0 v.0 (omega (arith, signed, year, years))
        u.1 v.1 (belongs (a.0 +ℤ pos (i * rule.interval)) u.0 u.2 u.4) (belongs (b.0 +ℤ pos (j * rule.interval)) v.0 v.2 v.4)
