-- The occurrence is the sum; under Constrain occurrences rise, and what is refused stays refused.
use Rattle.std.proofs.Common.{◌≡◌, ℕ, zero, suc, ◌+◌, ◌*◌, ◌<◌, ◌≤◌, ◌⊎◌, inl, inr, Bool, true, false, cond, ◌&&◌, nat_lt, min, Option, Some, None, MatchOption, Result, Ok, Err, refl, sym, ap, subst, ◌∙◌, arith, ℤ, pos, neg_ℤ, ◌+ℤ◌, ◌<ℤ◌, ◌≤ℤ◌}
use Rattle.std.specs.Bool.{MatchBool}
use Rattle.std.specs.Option.{option_and_then}
use Rattle.std.proofs.lemmas.Bool.Decides.{nat_tests}
use Rattle.cal_types.specs.Month.{MonthParts}
use Rattle.cal_types.specs.declared.options.Overflow.{Overflow}
use Rattle.cal_types.specs.declared.options.Overflow.TheVariants.{Constrain, Reject}
use Rattle.cal_types.specs.declared.duration.DateDuration.{DateDuration}
use Rattle.cal_types.specs.declared.duration.DateDurationUnit.{DateDurationUnit}
use Rattle.cal_types.specs.declared.duration.DateDurationUnit.TheVariants.{Years, Months, Weeks, Days}
use Rattle.cal_errors.specs.declared.errors.DateAddError.{DateAddError}
use Rattle.cal_errors.specs.declared.errors.DateAddError.TheVariants as fault
use Rattle.cal_days.specs.Day.{IsFieldYear, is_valid_day, is_field_year}
use Rattle.cal_types.specs.CalendarList.{CalendarList, Date, date, month_at, month_count, month_length, month_number, place_of, spot, day_number, HasPlace, IsDate, IsLawful, IsMonthsAfter, IsOn, IsValidDate, IsBefore}
use Rattle.cal_types.specs.Adding.{is_addable, is_reject, IsSum, IsSumFromMonth, IsValidOn}
use Rattle.cal_types.specs.Difference.{Reaches, toward}
use Rattle.cal_days.proofs.Signed.{signed, by_lt}
use Rattle.cal_days.proofs.RangeLemmas.{true-is_between, is_between-true}
use Rattle.cal_types.proofs.ListLemmas.{by_place_order, day_number-rises, month_number-injective, month_number-next, month_number-order, month_number-place, on-finds, spot-own, spot-place}
use Rattle.cal_types.proofs.DifferenceLemmas.{base, base-date, reach-unique, toward-zero}
use Rattle.cal_types.proofs.DifferenceLaws.{base-own, reaches-own}
use Rattle.cal_recur.specs.Occurrence.{day_after, day_from_month, day_in, forward, months_on, next_month, occurrence, units, valid_only}

-- what the next month is, by whether the year has one
abbrev following : ℤ → ℕ → Bool → ℤ × ℕ
following y i more = cond {A = ℤ × ℕ} more (y, i + 1) (y +ℤ pos 1, 1)

-- the next month is the next one in the sequence
next_month-after : (c : CalendarList) → IsLawful c → (m : ℤ × ℕ) → HasPlace c m.0 m.1 → HasPlace c (next_month c m).0 (next_month c m).1 × (month_number c (next_month c m).0 (next_month c m).1 ≡ month_number c m.0 m.1 +ℤ pos 1)
next_month-after c law (y, i) h = by_end (nat_lt i (month_count c y)) refl where
  by_end : (b : Bool) → nat_lt i (month_count c y) ≡ b → HasPlace c (following y i b).0 (following y i b).1 × (month_number c (following y i b).0 (following y i b).1 ≡ month_number c y i +ℤ pos 1)
  by_end true e =
      let lt : i < month_count c y = grind (arith, nat_tests) in
      ((omega arith, omega arith), omega (arith, signed, month_number-place c y i h.0, month_number-place c y (i + 1) (omega arith)))
  by_end false e =
      let le : month_count c y ≤ i = grind (arith, nat_tests) in
      ((omega arith, omega (arith, law.count (y +ℤ pos 1))), omega (arith, signed, h, month_number-place c y i h.0, month_number-next c y))

-- moving month by month is moving in the sequence
pub months_on-after : (c : CalendarList) → IsLawful c → (y : ℤ) (i : ℕ) → HasPlace c y i → (k : ℕ) → IsMonthsAfter c y i (pos k) (months_on c y i k).0 (months_on c y i k).1
unfolding months_on
months_on-after c law y i h zero = record { place = h; moved = omega (arith, signed) }
months_on-after c law y i h (suc k) =
    let so_far = months_on-after c law y i h k in
    let next = next_month-after c law (months_on c y i k) so_far.place in
    record { place = next.0; moved = omega (arith, signed, next.1, so_far.moved) }

-- a sum's day number, where the range of valid days decides
valid_on-day : (c : CalendarList) (n : ℤ) (b : Bool) (r : Result Date DateAddError) → MatchBool b ((t : Date) × IsOn c n t × (r ≡ Ok t)) (r ≡ Err fault.Overflow) → cond b (Some n) None ≡ day_in c r
valid_on-day c n true r (t, h, e) = ap Some (sym h.day) ∙ sym (ap (day_in c) e)
valid_on-day c n false r e = sym (ap (day_in c) e)

-- and where the day of the month does
from_month-day : (c : CalendarList) (y : ℤ) (i d : ℕ) (years months weeks days : ℕ) (o : Overflow) (r : Result Date DateAddError) → IsSumFromMonth c y i d (forward years months weeks days) o r → day_from_month c (y, i) d (7 * weeks + days) o ≡ day_in c r
from_month-day c y i d years months weeks days o r p = by_day (is_reject o && nat_lt last d) p where
  last : ℕ
  last = month_length c y i

  n : ℤ
  n = day_number c (date y i (min d last)) +ℤ pos (7 * weeks + days)

  by_day : (b : Bool) → MatchBool b (r ≡ Err (fault.InvalidDay last)) (IsValidOn c n r) → cond b None (valid_only n) ≡ day_in c r
  by_day true p = sym (ap (day_in c) p)
  by_day false p = valid_on-day c n (is_valid_day n) r p

-- the occurrence has the day number of the sum
pub day_after-sum : (c : CalendarList) → IsLawful c → (shift : ℤ) (t : Date) (years months weeks days : ℕ) (o : Overflow) (r : Result Date DateAddError) → IsSum c shift t (forward years months weeks days) o r → day_after c shift t (forward years months weeks days) o ≡ day_in c r
day_after-sum c law shift t years months weeks days o r p = by_year (is_addable (forward years months weeks days) && is_field_year (y +ℤ shift)) p where
  y : ℤ
  y = t.year +ℤ pos years

  spot_is : Option ℕ
  spot_is = spot c y (month_at c t.year t.month) o

  on : ℕ → Option ℤ
  on i = day_from_month c (months_on c y i months) t.day (7 * weeks + days) o

  Reached : ℕ → Type 0
  Reached i = (z : ℤ) × (j : ℕ) × IsMonthsAfter c y i (pos months) z j × IsSumFromMonth c z j t.day (forward years months weeks days) o r

  by_spot : (m : Option ℕ) → spot_is ≡ m → MatchOption m (r ≡ Err fault.MonthNotInYear) Reached → option_and_then on m ≡ day_in c r
  by_spot None e p = sym (ap (day_in c) p)
  by_spot (Some i) e (z, j, m, p) =
      let after = months_on-after c law y i (spot-place c y (month_at c t.year t.month) o i e) months in
      let same = month_number-injective c (months_on c y i months).0 (months_on c y i months).1 z j after.place m.place (after.moved ∙ sym m.moved) in
      let month : months_on c y i months ≡ (z, j) = ap (λ (a : ℤ). (a, (months_on c y i months).1)) same.0 ∙ ap (λ (b : ℕ). (z, b)) same.1 in
      ap (λ (a : ℤ × ℕ). day_from_month c a t.day (7 * weeks + days) o) month ∙ from_month-day c z j t.day years months weeks days o r p

  by_year : (b : Bool) → MatchBool b (MatchOption spot_is (r ≡ Err fault.MonthNotInYear) Reached) (r ≡ Err fault.Overflow) → cond b (option_and_then on spot_is) None ≡ day_in c r
  by_year true p = by_spot spot_is refl p
  by_year false p = sym (ap (day_in c) p)

-- ---- the same under Constrain, as the month that is reached and the days from its day on

-- the day number that a duration leads to, whatever its size
pub record Lands (c : CalendarList) (t : Date) (years months days : ℕ) (n : ℤ) : Type 0 where
  pub year : ℤ
  pub month : ℕ
  pub reaches : Reaches c t false years months year month
  pub day : n ≡ day_number c (base c t year month) +ℤ pos days

cond_some : (b : Bool) (x : Option ℤ) (n : ℤ) → cond b x None ≡ Some n → (b ≡ true) × (x ≡ Some n)
cond_some true x n e = (refl, e)
cond_some false x n e = cc

pub some_same : {A : Type 0} {x y : A} → Some x ≡ Some y → x ≡ y
some_same e = cc

valid_some : (m n : ℤ) → valid_only m ≡ Some n → (is_valid_day m ≡ true) × (m ≡ n)
valid_some m n e = let parts = cond_some (is_valid_day m) (Some m) n e in (parts.0, some_same parts.1)

then_some : (f : ℕ → Option ℤ) (m : Option ℕ) (n : ℤ) → option_and_then f m ≡ Some n → (i : ℕ) × (m ≡ Some i) × (f i ≡ Some n)
then_some f None n e = cc
then_some f (Some i) n e = (i, refl, e)

-- the limits of adding
abbrev pub within_limits : ℤ → Date → DateDuration → Bool
within_limits shift t u = is_addable u && is_field_year (t.year +ℤ pos u.years +ℤ shift)

-- a day number that adding gives is the one that the duration leads to
pub lands-of : (c : CalendarList) → IsLawful c → (shift : ℤ) (t : Date) (years months weeks days : ℕ) (n : ℤ) → day_after c shift t (forward years months weeks days) Constrain ≡ Some n → (within_limits shift t (forward years months weeks days) ≡ true) × (is_valid_day n ≡ true) × Lands c t years months (7 * weeks + days) n
lands-of c law shift t years months weeks days n e =
    let y = t.year +ℤ pos years in
    let on = λ (i : ℕ). day_from_month c (months_on c y i months) t.day (7 * weeks + days) Constrain in
    let guarded = cond_some (within_limits shift t (forward years months weeks days)) (option_and_then on (spot c y (month_at c t.year t.month) Constrain)) n e in
    let found = then_some on (spot c y (month_at c t.year t.month) Constrain) n guarded.1 in
    let m = months_on c y found.0 months in
    let reached = day_number c (base c t m.0 m.1) +ℤ pos (7 * weeks + days) in
    let valid = valid_some reached n found.2 in
    let after = months_on-after c law y found.0 (spot-place c y (month_at c t.year t.month) Constrain found.0 found.1) months in (
      guarded.0,
      ap is_valid_day (sym valid.1) ∙ valid.0,
      record { year = m.0; month = m.1; reaches = record { from = found.0; spot_is = found.1; moved = after }; day = sym valid.1 },
    )

-- and adding gives it, within its limits
pub of-lands : (c : CalendarList) → IsLawful c → (shift : ℤ) (t : Date) (years months weeks days : ℕ) (n : ℤ) → within_limits shift t (forward years months weeks days) ≡ true → is_valid_day n ≡ true → Lands c t years months (7 * weeks + days) n → day_after c shift t (forward years months weeks days) Constrain ≡ Some n
of-lands c law shift t years months weeks days n limits valid l =
    let y = t.year +ℤ pos years in
    let m = months_on c y l.reaches.from months in
    let after = months_on-after c law y l.reaches.from (spot-place c y (month_at c t.year t.month) Constrain l.reaches.from l.reaches.spot_is) months in
    let same = month_number-injective c m.0 m.1 l.year l.month after.place l.reaches.moved.place (after.moved ∙ sym l.reaches.moved.moved) in
    let month : m ≡ (l.year, l.month) = ap (λ (a : ℤ). (a, m.1)) same.0 ∙ ap (λ (b : ℕ). (l.year, b)) same.1 in
    let day : day_from_month c (l.year, l.month) t.day (7 * weeks + days) Constrain ≡ Some n =
    rw (sym l.day) (ap (λ (b : Bool). cond b (Some n) None) valid) in
    rw (limits, l.reaches.spot_is) (ap (λ (a : ℤ × ℕ). day_from_month c a t.day (7 * weeks + days) Constrain) month ∙ day)

-- each duration leads to a day
pub lands-exist : (c : CalendarList) → IsLawful c → (t : Date) → IsDate c t → (years months days : ℕ) → (n : ℤ) × Lands c t years months days n
lands-exist c law t h years months days =
    let y = t.year +ℤ pos years in
    let stands = law.stands y (month_at c t.year t.month) (law.kind t.year t.month h.place) in
    let after = months_on-after c law y stands.0 (spot-place c y (month_at c t.year t.month) Constrain stands.0 stands.1) months in
    let m = months_on c y stands.0 months in (
      day_number c (base c t m.0 m.1) +ℤ pos days,
      record {
        year = m.0;
        month = m.1;
        reaches = record { from = stands.0; spot_is = stands.1; moved = after };
        day = refl;
      },
    )

-- later months have later days
pub month-rises : (c : CalendarList) → IsLawful c → (t : Date) → IsDate c t → (y : ℤ) (i : ℕ) (z : ℤ) (j : ℕ) → HasPlace c y i → HasPlace c z j → (y <ℤ z) ⊎ ((y ≡ z) × (i < j)) → day_number c (base c t y i) <ℤ day_number c (base c t z j)
month-rises c law t h y i z j p q order =
    day_number-rises c (base c t y i) (base c t z j) (base-date c law t y i p h.day.0) (base-date c law t z j q h.day.0) (before order) where
      before : (y <ℤ z) ⊎ ((y ≡ z) × (i < j)) → IsBefore (y, i, min t.day (month_length c y i)) (z, j, min t.day (month_length c z j))
      before (inl lt) = inl lt
      before (inr (e, lt)) = inr (e, inl lt)

-- a month with the greater number comes later
pub number-order : (c : CalendarList) (y : ℤ) (i : ℕ) (z : ℤ) (j : ℕ) → HasPlace c y i → HasPlace c z j → month_number c y i <ℤ month_number c z j → (y <ℤ z) ⊎ ((y ≡ z) × (i < j))
number-order c y i z j h k lt =
    by_place_order {P = (y <ℤ z) ⊎ ((y ≡ z) × (i < j))} y i z j (λ before. before)
    (λ after. absurd (omega (arith, signed, month_number-order c z j y i k h after)))
    (λ years places. absurd (omega (arith, signed, ap (λ (x : ℤ). month_number c x i) years, ap (month_number c z) places)))

-- years that months reach without moving
pub reach-year : (c : CalendarList) (t : Date) (years : ℕ) (z : ℤ) (j : ℕ) → Reaches c t false years 0 z j → z ≡ t.year +ℤ pos years
reach-year c t years z j r =
    let y = t.year +ℤ pos years in
    let here = spot-place c y (month_at c t.year t.month) Constrain r.from r.spot_is in
    (month_number-injective c z j y r.from r.moved.place here (r.moved.moved ∙ omega (arith, signed))).0

-- more days from one month
days-rise : (c : CalendarList) (t : Date) (k l : ℕ) → k < l → (n m : ℤ) → Lands c t 0 0 k n → Lands c t 0 0 l m → n <ℤ m
days-rise c t k l lt n m p q =
    let same = reach-unique c false t 0 0 p.year p.month q.year q.month p.reaches q.reaches in
    let base_is = ap (λ (y : ℤ). day_number c (base c t y p.month)) same.0 ∙ ap (λ (i : ℕ). day_number c (base c t q.year i)) same.1 in
    omega (arith, signed, p.day, q.day, base_is)

-- as many lead to one day
days-same : (c : CalendarList) (t : Date) (years months k l : ℕ) → k ≡ l → (n m : ℤ) → Lands c t years months k n → Lands c t years months l m → n ≡ m
days-same c t years months k l lt n m p q =
    let same = reach-unique c false t years months p.year p.month q.year q.month p.reaches q.reaches in
    let base_is = ap (λ (y : ℤ). day_number c (base c t y p.month)) same.0 ∙ ap (λ (i : ℕ). day_number c (base c t q.year i)) same.1 in
    omega (arith, signed, p.day, q.day, base_is)

pub lands-same : (c : CalendarList) (t : Date) (unit : DateDurationUnit) (k l : ℕ) → k ≡ l → (n m : ℤ) → Lands c t (units unit k).years (units unit k).months (7 * (units unit k).weeks + (units unit k).days) n → Lands c t (units unit l).years (units unit l).months (7 * (units unit l).weeks + (units unit l).days) m → n ≡ m
lands-same c t unit k l e n m p q =
    let there = subst (λ (i : ℕ). Lands c t (units unit i).years (units unit i).months (7 * (units unit i).weeks + (units unit i).days) n) e p in
    days-same c t (units unit l).years (units unit l).months _ _ refl n m there q

-- more of a unit leads to a later day
pub lands-rise : (c : CalendarList) → IsLawful c → (t : Date) → IsDate c t → (unit : DateDurationUnit) (k l : ℕ) → k < l → (n m : ℤ) → Lands c t (units unit k).years (units unit k).months (7 * (units unit k).weeks + (units unit k).days) n → Lands c t (units unit l).years (units unit l).months (7 * (units unit l).weeks + (units unit l).days) m → n <ℤ m
lands-rise c law t h Years k l lt n m p q =
    let first = reach-year c t k p.year p.month p.reaches in
    let second = reach-year c t l q.year q.month q.reaches in
    let order : p.year <ℤ q.year = omega (arith, signed, first, second) in
    omega (arith, signed, p.day, q.day, month-rises c law t h p.year p.month q.year q.month p.reaches.moved.place q.reaches.moved.place (inl order))
lands-rise c law t h Months k l lt n m p q =
    let from : p.reaches.from ≡ q.reaches.from = some_same (sym p.reaches.spot_is ∙ q.reaches.spot_is) in
    let start = ap (λ (i : ℕ). month_number c (t.year +ℤ pos 0) i) from in
    let order : month_number c p.year p.month <ℤ month_number c q.year q.month = omega (arith, signed, p.reaches.moved.moved, q.reaches.moved.moved, start) in
    omega (
      arith,
      signed,
      p.day,
      q.day,
      month-rises c law t h p.year p.month q.year q.month p.reaches.moved.place q.reaches.moved.place
          (number-order c p.year p.month q.year q.month p.reaches.moved.place q.reaches.moved.place order),
    )
lands-rise c law t h Weeks k l lt n m p q = days-rise c t (7 * k + 0) (7 * l + 0) (omega arith) n m p q
lands-rise c law t h Days k l lt n m p q = days-rise c t (7 * 0 + k) (7 * 0 + l) (omega arith) n m p q

-- more months or days from the same years lead to a later day
pub lands-further : (c : CalendarList) → IsLawful c → (t : Date) → IsDate c t → (years j k a b : ℕ) → j ≤ k → a ≤ b → j + a < k + b → (n m : ℤ) → Lands c t years j a n → Lands c t years k b m → n <ℤ m
lands-further c law t h years j k a b months days more n m p q =
    by_lt {P = n <ℤ m} j k
    (λ lt.
    let from : p.reaches.from ≡ q.reaches.from = some_same (sym p.reaches.spot_is ∙ q.reaches.spot_is) in
    let start = ap (λ (i : ℕ). month_number c (t.year +ℤ pos years) i) from in
    let order : month_number c p.year p.month <ℤ month_number c q.year q.month = omega (arith, signed, p.reaches.moved.moved, q.reaches.moved.moved, start) in
    omega (
      arith,
      signed,
      p.day,
      q.day,
      month-rises c law t h p.year p.month q.year q.month p.reaches.moved.place q.reaches.moved.place
          (number-order c p.year p.month q.year q.month p.reaches.moved.place q.reaches.moved.place order),
    ))
    (λ ge.
    let same : j ≡ k = omega arith in
    let there = subst (λ (i : ℕ). Lands c t years i a n) same p in
    let month = reach-unique c false t years k there.year there.month q.year q.month there.reaches q.reaches in
    let base_is = ap (λ (y : ℤ). day_number c (base c t y there.month)) month.0 ∙ ap (λ (i : ℕ). day_number c (base c t q.year i)) month.1 in
    omega (arith, signed, there.day, q.day, base_is))

-- nothing added leads to the start itself
pub lands-start : (c : CalendarList) → IsLawful c → (t : Date) → IsDate c t → (unit : DateDurationUnit) → Lands c t (units unit 0).years (units unit 0).months (7 * (units unit 0).weeks + (units unit 0).days) (day_number c t)
lands-start c law t h unit = by_unit unit where
  here : Lands c t 0 0 0 (day_number c t)
  here = record {
    year = t.year;
    month = t.month;
    reaches = reaches-own c law false t h 0 0 refl refl;
    day = omega (arith, signed, ap (day_number c) (base-own c t h));
  }

  by_unit : (unit : DateDurationUnit) → Lands c t (units unit 0).years (units unit 0).months (7 * (units unit 0).weeks + (units unit 0).days) (day_number c t)
  by_unit Years = here
  by_unit Months = here
  by_unit Weeks = here
  by_unit Days = here

-- days lead as far from the start's own day
pub lands-days : (c : CalendarList) → IsLawful c → (t : Date) → IsDate c t → (a : ℕ) (n : ℤ) → Lands c t 0 0 a n → n ≡ day_number c t +ℤ pos a
lands-days c law t h a n l =
    let month = reach-unique c false t 0 0 l.year l.month t.year t.month l.reaches (reaches-own c law false t h 0 0 refl refl) in
    let base_is = ap (λ (y : ℤ). day_number c (base c t y l.month)) month.0 ∙ ap (λ (i : ℕ). day_number c (base c t t.year i)) month.1 ∙ ap (day_number c) (base-own c t h) in
    omega (arith, signed, l.day, base_is)

-- the limits of a unit
abbrev pub most : DateDurationUnit → ℕ
most Years = 2080000
most Months = 27040000
most Weeks = 119748571
most Days = 838240000

few-of : (shift : ℤ) (t : Date) (unit : DateDurationUnit) (n : ℕ) → within_limits shift t (units unit n) ≡ true → n ≤ most unit
few-of shift t Years n e = grind (arith, nat_tests)
few-of shift t Months n e = grind (arith, nat_tests)
few-of shift t Weeks n e = grind (arith, nat_tests)
few-of shift t Days n e = grind (arith, nat_tests)

both_true : (a b : Bool) → (a && b) ≡ true → (a ≡ true) × (b ≡ true)
both_true true b e = (refl, e)
both_true false b e = cc

both : (a b : Bool) → a ≡ true → b ≡ true → (a && b) ≡ true
both a b e f = rw (e, f)

-- less of a unit is within the limits too
limits-less : (shift : ℤ) (t : Date) (unit : DateDurationUnit) (k l : ℕ) → k < l → IsFieldYear (t.year +ℤ shift) → within_limits shift t (units unit l) ≡ true → within_limits shift t (units unit k) ≡ true
limits-less shift t Years k l lt field e =
    let parts = both_true (is_addable (units Years l)) (is_field_year (t.year +ℤ pos l +ℤ shift)) e in
    let few = few-of shift t Years l e in
    let year = is_between-true (neg_ℤ (pos 1040000)) (pos 1040000) (t.year +ℤ pos l +ℤ shift) parts.1 in
    both (is_addable (units Years k)) (is_field_year (t.year +ℤ pos k +ℤ shift)) (grind (arith, nat_tests))
    (true-is_between (neg_ℤ (pos 1040000)) (pos 1040000) (t.year +ℤ pos k +ℤ shift) (omega (arith, signed, field, year), omega (arith, signed, field, year)))
limits-less shift t Months k l lt field e =
    let parts = both_true (is_addable (units Months l)) (is_field_year (t.year +ℤ pos 0 +ℤ shift)) e in
    let few = few-of shift t Months l e in
    both (is_addable (units Months k)) (is_field_year (t.year +ℤ pos 0 +ℤ shift)) (grind (arith, nat_tests)) parts.1
limits-less shift t Weeks k l lt field e =
    let parts = both_true (is_addable (units Weeks l)) (is_field_year (t.year +ℤ pos 0 +ℤ shift)) e in
    let few = few-of shift t Weeks l e in
    both (is_addable (units Weeks k)) (is_field_year (t.year +ℤ pos 0 +ℤ shift)) (grind (arith, nat_tests)) parts.1
limits-less shift t Days k l lt field e =
    let parts = both_true (is_addable (units Days l)) (is_field_year (t.year +ℤ pos 0 +ℤ shift)) e in
    let few = few-of shift t Days l e in
    both (is_addable (units Days k)) (is_field_year (t.year +ℤ pos 0 +ℤ shift)) (grind (arith, nat_tests)) parts.1

cond_none : (b : Bool) (x : Option ℤ) (n : ℤ) → cond b None x ≡ Some n → x ≡ Some n
cond_none true x n e = cc
cond_none false x n e = e

from_month-kept : (c : CalendarList) (m : ℤ × ℕ) (d days : ℕ) (n : ℤ) → day_from_month c m d days Reject ≡ Some n → day_from_month c m d days Constrain ≡ Some n
from_month-kept c m d days n e = cond_none (nat_lt (month_length c m.0 m.1) d) (day_from_month c m d days Constrain) n e

spot-place_of : (c : CalendarList) (y : ℤ) (m : MonthParts) (i : ℕ) → spot c y m Reject ≡ Some i → place_of c y m ≡ Some i
unfolding spot
spot-place_of c y m i e = e

-- what is refused under Reject alone
day_after-kept : (c : CalendarList) (shift : ℤ) (t : Date) (years months weeks days : ℕ) (n : ℤ) → day_after c shift t (forward years months weeks days) Reject ≡ Some n → day_after c shift t (forward years months weeks days) Constrain ≡ Some n
day_after-kept c shift t years months weeks days n e =
    let y = t.year +ℤ pos years in
    let m = month_at c t.year t.month in
    let on = λ (i : ℕ). day_from_month c (months_on c y i months) t.day (7 * weeks + days) Reject in
    let guarded = cond_some (within_limits shift t (forward years months weeks days)) (option_and_then on (spot c y m Reject)) n e in
    let found = then_some on (spot c y m Reject) n guarded.1 in
    let own = spot-own c y m Constrain found.0 (spot-place_of c y m found.0 found.1) in
    rw (guarded.0, own) (from_month-kept c (months_on c y found.0 months) t.day (7 * weeks + days) n found.2)

-- where so many of a unit lead
abbrev pub LandsUnits : CalendarList → Date → DateDurationUnit → ℕ → ℤ → Type 0
LandsUnits c t unit k n = Lands c t (units unit k).years (units unit k).months (7 * (units unit k).weeks + (units unit k).days) n

-- no occurrence is before the start
pub lands-not_before : (c : CalendarList) → IsLawful c → (t : Date) → IsDate c t → (unit : DateDurationUnit) (k : ℕ) (n : ℤ) → LandsUnits c t unit k n → day_number c t ≤ℤ n
lands-not_before c law t h unit k n l =
    by_lt {P = day_number c t ≤ℤ n} 0 k
    (λ some. omega (arith, signed, lands-rise c law t h unit 0 k some (day_number c t) n (lands-start c law t h unit) l))
    (λ none.
    let zero_is : 0 ≡ k = omega arith in
    omega (arith, signed, lands-same c t unit 0 k zero_is (day_number c t) n (lands-start c law t h unit) l))

pub occurrence-lands : (c : CalendarList) → IsLawful c → (shift : ℤ) (t : Date) (unit : DateDurationUnit) (k : ℕ) (n : ℤ) → occurrence c shift t unit Constrain k ≡ Some n → (within_limits shift t (units unit k) ≡ true) × (is_valid_day n ≡ true) × LandsUnits c t unit k n
occurrence-lands c law shift t Years k n e = lands-of c law shift t k 0 0 0 n e
occurrence-lands c law shift t Months k n e = lands-of c law shift t 0 k 0 0 n e
occurrence-lands c law shift t Weeks k n e = lands-of c law shift t 0 0 k 0 n e
occurrence-lands c law shift t Days k n e = lands-of c law shift t 0 0 0 k n e

pub lands-occurrence : (c : CalendarList) → IsLawful c → (shift : ℤ) (t : Date) (unit : DateDurationUnit) (k : ℕ) (n : ℤ) → within_limits shift t (units unit k) ≡ true → is_valid_day n ≡ true → LandsUnits c t unit k n → occurrence c shift t unit Constrain k ≡ Some n
lands-occurrence c law shift t Years k n limits valid l = of-lands c law shift t k 0 0 0 n limits valid l
lands-occurrence c law shift t Months k n limits valid l = of-lands c law shift t 0 k 0 0 n limits valid l
lands-occurrence c law shift t Weeks k n limits valid l = of-lands c law shift t 0 0 k 0 n limits valid l
lands-occurrence c law shift t Days k n limits valid l = of-lands c law shift t 0 0 0 k n limits valid l

-- occurrences rise, and where there is one there are all before it
pub occurrence-earlier : (c : CalendarList) → IsLawful c → (shift : ℤ) (t : Date) → IsValidDate c t → IsFieldYear (t.year +ℤ shift) → (unit : DateDurationUnit) (k l : ℕ) → k < l → (m : ℤ) → occurrence c shift t unit Constrain l ≡ Some m → (n : ℤ) × (occurrence c shift t unit Constrain k ≡ Some n) × (n <ℤ m)
occurrence-earlier c law shift t h field unit k l lt m e =
    let later = occurrence-lands c law shift t unit l m e in
    let valid = is_between-true (neg_ℤ (pos 365242499)) (pos 365242134) m later.1 in
    let found = land unit in
    let n = found.0 in
    let before : n <ℤ m = lands-rise c law t h.date unit k l lt n m found.1 later.2 in
    let high = lands-not_before c law t h.date unit k n found.1 in (
      n,
      lands-occurrence c law shift t unit k n (limits-less shift t unit k l lt field later.0)
          (true-is_between (neg_ℤ (pos 365242499)) (pos 365242134) n (omega (arith, signed, high, h.valid), omega (arith, signed, before, valid))) found.1,
      before,
    ) where
      land : (unit : DateDurationUnit) → (n : ℤ) × LandsUnits c t unit k n
      land unit = lands-exist c law t h.date (units unit k).years (units unit k).months (7 * (units unit k).weeks + (units unit k).days)

-- the same of two occurrences
pub occurrence-rises : (c : CalendarList) → IsLawful c → (shift : ℤ) (t : Date) → IsDate c t → (unit : DateDurationUnit) (k l : ℕ) → k < l → (n m : ℤ) → occurrence c shift t unit Constrain k ≡ Some n → occurrence c shift t unit Constrain l ≡ Some m → n <ℤ m
occurrence-rises c law shift t h unit k l lt n m e f =
    lands-rise c law t h unit k l lt n m (occurrence-lands c law shift t unit k n e).2 (occurrence-lands c law shift t unit l m f).2

-- a number of units that can be added is at most 838240000
pub occurrence-few : (c : CalendarList) (shift : ℤ) (t : Date) (unit : DateDurationUnit) (o : Overflow) (k : ℕ) (n : ℤ) → occurrence c shift t unit o k ≡ Some n → k ≤ 838240000
occurrence-few c shift t unit o k n e = by_unit unit (few-of shift t unit k (limits unit e)) where
  limits : (unit : DateDurationUnit) → occurrence c shift t unit o k ≡ Some n → within_limits shift t (units unit k) ≡ true
  limits Years e = (cond_some (within_limits shift t (units Years k)) _ n e).0
  limits Months e = (cond_some (within_limits shift t (units Months k)) _ n e).0
  limits Weeks e = (cond_some (within_limits shift t (units Weeks k)) _ n e).0
  limits Days e = (cond_some (within_limits shift t (units Days k)) _ n e).0

  by_unit : (unit : DateDurationUnit) → k ≤ most unit → k ≤ 838240000
  by_unit Years le = omega arith
  by_unit Months le = omega arith
  by_unit Weeks le = omega arith
  by_unit Days le = omega arith

-- what isn't refused under Reject is the same under Constrain
pub occurrence-kept : (c : CalendarList) (shift : ℤ) (t : Date) (unit : DateDurationUnit) (o : Overflow) (k : ℕ) (n : ℤ) → occurrence c shift t unit o k ≡ Some n → occurrence c shift t unit Constrain k ≡ Some n
occurrence-kept c shift t unit Constrain k n e = e
occurrence-kept c shift t Years Reject k n e = day_after-kept c shift t k 0 0 0 n e
occurrence-kept c shift t Months Reject k n e = day_after-kept c shift t 0 k 0 0 n e
occurrence-kept c shift t Weeks Reject k n e = day_after-kept c shift t 0 0 k 0 n e
occurrence-kept c shift t Days Reject k n e = day_after-kept c shift t 0 0 0 k n e

-- the occurrence has the day number of the sum
pub occurrence-sum : (c : CalendarList) → IsLawful c → (shift : ℤ) (t : Date) (unit : DateDurationUnit) (k : ℕ) (o : Overflow) (r : Result Date DateAddError) → IsSum c shift t (units unit k) o r → occurrence c shift t unit o k ≡ day_in c r
occurrence-sum c law shift t Years k o r p = day_after-sum c law shift t k 0 0 0 o r p
occurrence-sum c law shift t Months k o r p = day_after-sum c law shift t 0 k 0 0 o r p
occurrence-sum c law shift t Weeks k o r p = day_after-sum c law shift t 0 0 k 0 o r p
occurrence-sum c law shift t Days k o r p = day_after-sum c law shift t 0 0 0 k o r p

-- ---- a sum has an answer

valid-exists : (c : CalendarList) → IsLawful c → (n : ℤ) (b : Bool) → (r : Result Date DateAddError) × MatchBool b ((t : Date) × IsOn c n t × (r ≡ Ok t)) (r ≡ Err fault.Overflow)
valid-exists c law n true = let found = on-finds c law n in (Ok found.0, (found.0, found.1, refl))
valid-exists c law n false = (Err fault.Overflow, refl)

from_month-exists : (c : CalendarList) → IsLawful c → (y : ℤ) (i d : ℕ) (u : DateDuration) (o : Overflow) → (r : Result Date DateAddError) × IsSumFromMonth c y i d u o r
from_month-exists c law y i d u o = by_day (is_reject o && nat_lt last d) where
  last : ℕ
  last = month_length c y i

  n : ℤ
  n = day_number c (date y i (min d last)) +ℤ toward u.is_negative (7 * u.weeks + u.days)

  by_day : (b : Bool) → (r : Result Date DateAddError) × MatchBool b (r ≡ Err (fault.InvalidDay last)) (IsValidOn c n r)
  by_day true = (Err (fault.InvalidDay last), refl)
  by_day false = valid-exists c law n (is_valid_day n)

-- where the duration goes forward
pub sum-exists : (c : CalendarList) → IsLawful c → (shift : ℤ) (t : Date) (years months weeks days : ℕ) (o : Overflow) → (r : Result Date DateAddError) × IsSum c shift t (forward years months weeks days) o r
sum-exists c law shift t years months weeks days o = by_year (is_addable (forward years months weeks days) && is_field_year (y +ℤ shift)) where
  y : ℤ
  y = t.year +ℤ pos years

  spot_is : Option ℕ
  spot_is = spot c y (month_at c t.year t.month) o

  Reached : Result Date DateAddError → ℕ → Type 0
  Reached r i = (z : ℤ) × (j : ℕ) × IsMonthsAfter c y i (pos months) z j × IsSumFromMonth c z j t.day (forward years months weeks days) o r

  by_spot : (m : Option ℕ) → spot_is ≡ m → (r : Result Date DateAddError) × MatchOption m (r ≡ Err fault.MonthNotInYear) (Reached r)
  by_spot None e = (Err fault.MonthNotInYear, refl)
  by_spot (Some i) e =
      let after = months_on-after c law y i (spot-place c y (month_at c t.year t.month) o i e) months in
      let m = months_on c y i months in
      let found = from_month-exists c law m.0 m.1 t.day (forward years months weeks days) o in
      (found.0, (m.0, m.1, after, found.1))

  by_year : (b : Bool) → (r : Result Date DateAddError) × MatchBool b (MatchOption spot_is (r ≡ Err fault.MonthNotInYear) (Reached r)) (r ≡ Err fault.Overflow)
  by_year true = by_spot spot_is refl
  by_year false = (Err fault.Overflow, refl)

pub units_sum-exists : (c : CalendarList) → IsLawful c → (shift : ℤ) (t : Date) (unit : DateDurationUnit) (k : ℕ) (o : Overflow) → (r : Result Date DateAddError) × IsSum c shift t (units unit k) o r
units_sum-exists c law shift t Years k o = sum-exists c law shift t k 0 0 0 o
units_sum-exists c law shift t Months k o = sum-exists c law shift t 0 k 0 0 o
units_sum-exists c law shift t Weeks k o = sum-exists c law shift t 0 0 k 0 o
units_sum-exists c law shift t Days k o = sum-exists c law shift t 0 0 0 k o

-- an occurrence is the day of a sum that isn't refused
pub sum-of_occurrence : (c : CalendarList) → IsLawful c → (shift : ℤ) (t : Date) (unit : DateDurationUnit) (k : ℕ) (o : Overflow) (n : ℤ) → occurrence c shift t unit o k ≡ Some n → (u : Date) × IsSum c shift t (units unit k) o (Ok u) × (day_number c u ≡ n)
sum-of_occurrence c law shift t unit k o n e = by_answer found.0 found.1 (sym (occurrence-sum c law shift t unit k o found.0 found.1) ∙ e) where
  found : (r : Result Date DateAddError) × IsSum c shift t (units unit k) o r
  found = units_sum-exists c law shift t unit k o

  by_answer : (r : Result Date DateAddError) → IsSum c shift t (units unit k) o r → day_in c r ≡ Some n → (u : Date) × IsSum c shift t (units unit k) o (Ok u) × (day_number c u ≡ n)
  by_answer (Ok u) sum day = (u, sum, some_same day)
  by_answer (Err _) sum day = cc
