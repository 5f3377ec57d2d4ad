-- The month that lies so many months after a month, as adding months finds it.
use Rattle.std.proofs.Common.{◌≡◌, ◌∙◌, ℕ, ◌+◌, ◌-◌, ◌*◌, ◌≤◌, ◌<◌, ◌&&◌, nat_le, min, Bool, true, false, Option, Some, None, MatchOption, IfSome, Result, Ok, Err, ℤ, pos, neg_ℤ, ◌+ℤ◌, ◌≤ℤ◌, ◌<ℤ◌, refl, sym, ap, subst, arith}
use mathlib.Core.Bool.{true≢false}
use mathlib.Core.Logic.{◌⊎◌, inl, inr}
use Rattle.std.specs.Bool.{MatchBool}
use Rattle.std.proofs.lemmas.Bool.Decides.{nat_tests}
use Rattle.cal_days.specs.Day.{IsBetween, IsValidDay, is_field_year, is_valid_day}
use Rattle.cal_days.proofs.RangeLemmas.{true-is_between}
use Rattle.cal_days.proofs.Signed.{signed}
use Rattle.cal_errors.specs.declared.errors.DateAddError.{DateAddError}
use Rattle.cal_errors.specs.declared.errors.DateAddError.TheVariants as fault
use Rattle.cal_types.specs.Adding.{IsSum, IsSumFromMonth, IsValidOn, is_addable}
use Rattle.cal_types.specs.CalendarList.{CalendarList, Date, HasPlace, IsBefore, IsDate, IsLawful, IsMonthsAfter, IsOn, date, day_number, month_at, month_length, month_number, spot}
use Rattle.cal_types.specs.Difference.{toward}
use Rattle.cal_types.specs.declared.duration.DateDuration.{DateDuration}
use Rattle.cal_types.specs.declared.options.Overflow.TheVariants.{Constrain}
use Rattle.cal_types.proofs.ListLemmas.{by_place_order, day_number-rises, month-finds, month_number-injective, month_number-order, on-finds, on-unique, place_of-own, spot-own}
use Rattle.cal_rrule.specs.Looks.{IsMonthFound, IsMonthHeld, IsMonthLook, IsMonthReached, look_stretch}
use Rattle.cal_rrule.specs.NearDays.{IsNearList}
use Rattle.cal_rrule.specs.Stretches.{InStretch, end_of}
use Rattle.cal_rrule.specs.declared.month_look.MonthLook.{MonthLook}
use Rattle.cal_rrule.specs.laws.MonthOrder.{next-first}
use Rattle.cal_rrule.proofs.LookLemmas.{look-date, look-on, some}

-- so many months forward
abbrev pub ahead : ℕ → DateDuration
ahead months = record { is_negative = false; years = 0; months = months; weeks = 0; days = 0 }

addable : (months : ℕ) → months ≤ 27040000 → is_addable (ahead months) ≡ true
addable months few =
    let test : nat_le months 27040000 ≡ true = grind (arith, nat_tests, few) in
    rw test refl

yes : (A B : Type 0) (b : Bool) → b ≡ true → MatchBool b A B → A
yes A B true e h = h
yes A B false e h = absurd (true≢false (sym e))

both : (a b : Bool) → a ≡ true → b ≡ true → (a && b) ≡ true
both true b e f = f
both false b e f = absurd (true≢false (sym e))

found : (None_is : Type 0) (Some_is : ℕ → Type 0) (o : Option ℕ) (i : ℕ) → o ≡ Some i → MatchOption o None_is Some_is → Some_is i
found None_is Some_is (Some j) i e h = subst Some_is (same e) h
  where
    same : {x y : ℕ} → ◌≡◌ {A = Option ℕ} (Some x) (Some y) → x ≡ y
    same e = cc
found None_is Some_is None i e h = absurd (never e)
  where
    never : ◌≡◌ {A = Option ℕ} None (Some i) → ⊥
    never e = cc

-- a month's first day is on its first date
pub first-on : (c : CalendarList) → IsLawful c → (z : ℤ) (j : ℕ) → HasPlace c z j → IsOn c (day_number c (date z j 1)) (date z j 1)
first-on c law z j place = record {
  date = record { place = place; day = (omega arith, (law.lengths z j place).0) };
  day = refl;
}

-- the date of the first day of a month that is looked at
look-first : (c : CalendarList) → IsLawful c → (look : MonthLook) (t : Date) → IsMonthLook c look → IsOn c look.first t →
    t ≡ date look.year look.place 1
look-first c law look t is on =
    on-unique c look.first t (date look.year look.place 1) on
    (subst (λ (n : ℤ). IsOn c n (date look.year look.place 1)) (sym is.is_first) (first-on c law look.year look.place is.is_place))

module _ (c : CalendarList) (law : IsLawful c) (shift : ℤ) (look : MonthLook) (t : Date) (is : IsMonthLook c look)
    (on : IsOn c look.first t) (field : is_field_year (t.year +ℤ shift) ≡ true) (months : ℕ) (few : months ≤ 27040000)
    (r : Result Date DateAddError) where
  year : ℤ
  year = t.year +ℤ toward false 0

  year-is : t.year +ℤ toward false 0 ≡ t.year
  year-is = omega (arith, signed)

  own-spot : spot c (t.year +ℤ toward false 0) (month_at c t.year t.month) Constrain ≡ Some t.month
  own-spot =
      ap (λ (y : ℤ). spot c y (month_at c t.year t.month) Constrain) year-is
      ∙ spot-own c t.year (month_at c t.year t.month) Constrain t.month (place_of-own c t.year t.month (law.rises t.year) on.date.place)

  -- months added to the first day of a month lead to the first day of one
  pub month-sum : IsSum c shift t (ahead months) Constrain r →
      (z : ℤ) × (j : ℕ) × IsMonthsAfter c look.year look.place (pos months) z j × IsValidOn c (day_number c (date z j 1)) r
  month-sum sum = (step.0, step.1, after, valid)
    where
      tested : (is_addable (ahead months) && is_field_year ((t.year +ℤ toward false 0) +ℤ shift)) ≡ true
      tested = both (is_addable (ahead months)) (is_field_year ((t.year +ℤ toward false 0) +ℤ shift)) (addable months few)
          (ap (λ (y : ℤ). is_field_year (y +ℤ shift)) year-is ∙ field)

      step : (z : ℤ) × (j : ℕ) × IsMonthsAfter c (t.year +ℤ toward false 0) t.month (toward false months) z j
          × IsSumFromMonth c z j t.day (ahead months) Constrain r
      step = found _ _ (spot c (t.year +ℤ toward false 0) (month_at c t.year t.month) Constrain) t.month own-spot
          (yes _ _ (is_addable (ahead months) && is_field_year ((t.year +ℤ toward false 0) +ℤ shift)) tested sum)

      own : t ≡ date look.year look.place 1
      own = look-first c law look t is on

      same : month_number c (t.year +ℤ toward false 0) t.month ≡ month_number c look.year look.place
      same = ap (λ (y : ℤ). month_number c y t.month) year-is ∙ ap (λ (u : Date). month_number c u.year u.month) own

      after : IsMonthsAfter c look.year look.place (pos months) step.0 step.1
      after = record {
        place = step.2.place;
        moved = step.2.moved ∙ ap (λ (n : ℤ). n +ℤ pos months) same;
      }

      day : t.day ≡ 1
      day = ap (λ (u : Date). u.day) own

      begins : day_number c (date step.0 step.1 (min t.day (month_length c step.0 step.1))) +ℤ toward false (7 * 0 + 0)
          ≡ day_number c (date step.0 step.1 1)
      begins = omega (arith, signed, day, (law.lengths step.0 step.1 step.2.place).0)

      valid : IsValidOn c (day_number c (date step.0 step.1 1)) r
      valid = subst (λ (n : ℤ). IsValidOn c n r) begins step.3

-- a sum that was found
ok-on : (c : CalendarList) (n : ℤ) (u : Date) (b : Bool) →
    MatchBool b ((t : Date) × IsOn c n t × (◌≡◌ {A = Result Date DateAddError} (Ok u) (Ok t)))
    (◌≡◌ {A = Result Date DateAddError} (Ok u) (Err fault.Overflow)) → IsOn c n u
ok-on c n u true h = subst (λ (t : Date). IsOn c n t) (sym (same h.2)) h.1
  where
    same : {x y : Date} → ◌≡◌ {A = Result Date DateAddError} (Ok x) (Ok y) → x ≡ y
    same e = cc
ok-on c n u false h = absurd (never h)
  where
    never : ◌≡◌ {A = Result Date DateAddError} (Ok u) (Err fault.Overflow) → ⊥
    never e = cc

-- and one that wasn't
err-off : (c : CalendarList) (n : ℤ) (error : DateAddError) (b : Bool) →
    MatchBool b ((t : Date) × IsOn c n t × (◌≡◌ {A = Result Date DateAddError} (Err error) (Ok t)))
    (◌≡◌ {A = Result Date DateAddError} (Err error) (Err fault.Overflow)) → b ≡ true → ⊥
err-off c n error true h e = never h.2
  where
    never : {t : Date} → ◌≡◌ {A = Result Date DateAddError} (Err error) (Ok t) → ⊥
    never e = cc
err-off c n error false h e = true≢false (sym e)

-- the month of the sum
pub month-found : (c : CalendarList) → IsLawful c → (look m : MonthLook) (months : ℕ) (u : Date) (n : ℤ) →
    (z : ℤ) × (j : ℕ) × IsMonthsAfter c look.year look.place (pos months) z j
    × IsValidOn c (day_number c (date z j 1)) (Ok u) →
    n ≡ day_number c u → IsMonthLook c m → InStretch (look_stretch m) n →
    IsMonthLook c m × IsMonthsAfter c look.year look.place (pos months) m.year m.place
month-found c law look m months u n sum is_day is within = (
  is,
  subst (λ (j : ℕ). IsMonthsAfter c look.year look.place (pos months) m.year j) at.1
      (subst (λ (z : ℤ). IsMonthsAfter c look.year look.place (pos months) z sum.1) at.0 sum.2),
)
  where
    on : IsOn c (day_number c (date sum.0 sum.1 1)) u
    on = ok-on c (day_number c (date sum.0 sum.1 1)) u (is_valid_day (day_number c (date sum.0 sum.1 1))) sum.3

    first : IsOn c n (date sum.0 sum.1 1)
    first = subst (λ (k : ℤ). IsOn c k (date sum.0 sum.1 1)) (sym (is_day ∙ on.day)) (first-on c law sum.0 sum.1 sum.2.place)

    at : (sum.0 ≡ m.year) × (sum.1 ≡ m.place)
    at = look-date c m n (date sum.0 sum.1 1) is within first

-- it begins on the day of the sum
pub month-begins : (c : CalendarList) → IsLawful c → (look m : MonthLook) (months : ℕ) (u : Date) (n : ℤ) →
    (z : ℤ) × (j : ℕ) × IsMonthsAfter c look.year look.place (pos months) z j
    × IsValidOn c (day_number c (date z j 1)) (Ok u) →
    n ≡ day_number c u → IsMonthLook c m → InStretch (look_stretch m) n → m.first ≡ n
month-begins c law look m months u n sum is_day is within =
    let on = ok-on c (day_number c (date sum.0 sum.1 1)) u (is_valid_day (day_number c (date sum.0 sum.1 1))) sum.3 in
    let first : IsOn c n (date sum.0 sum.1 1) =
    subst (λ (k : ℤ). IsOn c k (date sum.0 sum.1 1)) (sym (is_day ∙ on.day)) (first-on c law sum.0 sum.1 sum.2.place) in
    let at = look-date c m n (date sum.0 sum.1 1) is within first in
    is.is_first ∙ ap (λ (y : ℤ). day_number c (date y m.place 1)) (sym at.0)
    ∙ ap (λ (i : ℕ). day_number c (date sum.0 i 1)) (sym at.1) ∙ first.day

-- no month was found
pub month-none : (c : CalendarList) (look : MonthLook) (months : ℕ) (error : DateAddError) →
    (z : ℤ) × (j : ℕ) × IsMonthsAfter c look.year look.place (pos months) z j
    × IsValidOn c (day_number c (date z j 1)) (Err error) →
    (z : ℤ) (j : ℕ) → IsMonthsAfter c look.year look.place (pos months) z j → IsValidDay (day_number c (date z j 1)) → ⊥
month-none c look months error sum z j after valid =
    err-off c (day_number c (date sum.0 sum.1 1)) error (is_valid_day (day_number c (date sum.0 sum.1 1))) sum.3
    (true-is_between _ _ (day_number c (date sum.0 sum.1 1)) (subst IsValidDay same valid))
  where
    at : (z ≡ sum.0) × (j ≡ sum.1)
    at = month_number-injective c z j sum.0 sum.1 after.place sum.2.place (after.moved ∙ sym sum.2.moved)

    same : day_number c (date z j 1) ≡ day_number c (date sum.0 sum.1 1)
    same = ap (λ (y : ℤ). day_number c (date y j 1)) at.0 ∙ ap (λ (i : ℕ). day_number c (date sum.0 i 1)) at.1

-- a look at the month of the day behind a month is one at the month after it
pub look-next : (c : CalendarList) → IsLawful c → (a b : MonthLook) → IsMonthLook c a → IsMonthLook c b →
    InStretch (look_stretch b) (end_of (look_stretch a)) → IsMonthsAfter c a.year a.place (pos 1) b.year b.place
look-next c law a b one two within =
    let next = next-first c law a.year a.place one.is_place in
    let same : day_number c (date next.0 next.1 1) ≡ end_of (look_stretch a) =
    omega (arith, signed, next.3, one.is_first, one.is_length) in
    let on = subst (λ (n : ℤ). IsOn c n (date next.0 next.1 1)) same (first-on c law next.0 next.1 next.2.place) in
    let at = look-date c b (end_of (look_stretch a)) (date next.0 next.1 1) two within on in
    subst (λ (j : ℕ). IsMonthsAfter c a.year a.place (pos 1) b.year j) at.1
    (subst (λ (z : ℤ). IsMonthsAfter c a.year a.place (pos 1) z next.1) at.0 next.2)

-- some months after a month begin behind it
pub look-later : (c : CalendarList) → IsLawful c → (a : MonthLook) (months : ℕ) (z : ℤ) (j : ℕ) → IsMonthLook c a → 0 < months →
    IsMonthsAfter c a.year a.place (pos months) z j → end_of (look_stretch a) ≤ℤ day_number c (date z j 1)
look-later c law a months z j is more after =
    by_place_order a.year a.place z j before
    (λ h. absurd (omega (arith, signed, after.moved, more, month_number-order c z j a.year a.place after.place is.is_place h)))
    (λ years places. absurd (omega (arith, signed, after.moved, more, same years places)))
  where
    same : a.year ≡ z → a.place ≡ j → month_number c a.year a.place ≡ month_number c z j
    same years places = ap (λ (y : ℤ). month_number c y a.place) years ∙ ap (λ (i : ℕ). month_number c z i) places

    last : IsDate c (date a.year a.place (month_length c a.year a.place))
    last = record { place = is.is_place; day = ((law.lengths a.year a.place is.is_place).0, omega arith) }

    first : IsDate c (date z j 1)
    first = record { place = after.place; day = (omega arith, (law.lengths z j after.place).0) }

    order : (a.year <ℤ z) ⊎ ((a.year ≡ z) × (a.place < j)) →
        IsBefore (a.year, a.place, month_length c a.year a.place) (z, j, 1)
    order (inl years) = inl years
    order (inr p) = inr (p.0, inl p.1)

    before : (a.year <ℤ z) ⊎ ((a.year ≡ z) × (a.place < j)) → end_of (look_stretch a) ≤ℤ day_number c (date z j 1)
    before h =
        let rises = day_number-rises c (date a.year a.place (month_length c a.year a.place)) (date z j 1) last first (order h) in
        omega (arith, signed, rises, is.is_first, is.is_length, (law.lengths a.year a.place is.is_place).0)

-- months after the next month are one more after the month
one-more : (c : CalendarList) (a b : MonthLook) (rest months : ℕ) (z : ℤ) (j : ℕ) → months ≡ rest + 1 →
    IsMonthsAfter c a.year a.place (pos 1) b.year b.place →
    IsMonthsAfter c a.year a.place (pos months) z j → IsMonthsAfter c b.year b.place (pos rest) z j
one-more c a b rest months z j is next after =
    record { place = after.place; moved = omega (arith, signed, after.moved, next.moved, is) }

more-one : (c : CalendarList) (a b : MonthLook) (rest months : ℕ) (z : ℤ) (j : ℕ) → months ≡ rest + 1 →
    IsMonthsAfter c a.year a.place (pos 1) b.year b.place →
    IsMonthsAfter c b.year b.place (pos rest) z j → IsMonthsAfter c a.year a.place (pos months) z j
more-one c a b rest months z j is next after =
    record { place = after.place; moved = omega (arith, signed, after.moved, next.moved, is) }

-- the month itself
pub held-zero : (c : CalendarList) (a : MonthLook) (months : ℕ) → IsMonthLook c a → months ≡ 0 → IsMonthHeld c a months (Some a)
held-zero c a months is none = (is, record { place = is.is_place; moved = omega (arith, signed, none) })

-- the day behind the month isn't valid
pub held-none : (c : CalendarList) → IsLawful c → (a : MonthLook) (months : ℕ) (s : ℤ) → IsMonthLook c a → 0 < months →
    IsValidDay s → InStretch (look_stretch a) s → is_valid_day (end_of (look_stretch a)) ≡ false → IsMonthHeld c a months None
held-none c law a months s is more valid within fails z j after n above here =
    let later = look-later c law a months z j is more after in
    let end_valid : IsValidDay (end_of (look_stretch a)) =
    (omega (arith, signed, valid.0, within.1), omega (arith, signed, later, above, here.1)) in
    true≢false (sym (true-is_between _ _ (end_of (look_stretch a)) end_valid) ∙ fails)

-- a month from the next one on
pub held-next : (c : CalendarList) → IsLawful c → (a b : MonthLook) (months rest : ℕ) (s : ℤ) (r : Option MonthLook) →
    IsMonthLook c a → IsMonthLook c b → months ≡ rest + 1 → IsValidDay s → InStretch (look_stretch a) s →
    InStretch (look_stretch b) (end_of (look_stretch a)) → IsMonthFound c b rest r → IsMonthHeld c a months r
held-next c law a b months rest s (Some m) one two is valid within behind given =
    (given.0, more-one c a b rest months m.year m.place is (look-next c law a b one two behind) given.1)
held-next c law a b months rest s None one two is valid within behind given = λ z j after n above here.
    let next = look-next c law a b one two behind in
    let later = look-later c law a months z j one (omega (arith, is)) after in
    given z j (one-more c a b rest months z j is next after)
    (omega (arith, signed, valid.0, within.1, later), omega (arith, signed, above, here.1))

-- the month so many months after a month
month-at : (c : CalendarList) → IsLawful c → (a : MonthLook) (months : ℕ) →
    (z : ℤ) × (j : ℕ) × IsMonthsAfter c a.year a.place (pos months) z j
month-at c law a months =
    let found_at = month-finds c law (month_number c a.year a.place +ℤ pos months) in
    (found_at.0, found_at.1, record { place = found_at.2; moved = found_at.3 })

-- later months begin later
pub month-order : (c : CalendarList) → IsLawful c → (a : MonthLook) (months later : ℕ) (z : ℤ) (j : ℕ) (y : ℤ) (i : ℕ) →
    months ≤ later → IsMonthsAfter c a.year a.place (pos months) z j → IsMonthsAfter c a.year a.place (pos later) y i →
    day_number c (date z j 1) ≤ℤ day_number c (date y i 1)
month-order c law a months later z j y i order one two =
    by_place_order z j y i
    (λ h. omega (arith, signed, day_number-rises c (date z j 1) (date y i 1) (first z j one.place) (first y i two.place) (before h)))
    (λ h. absurd (omega (arith, signed, one.moved, two.moved, order, month_number-order c y i z j two.place one.place h)))
    (λ years places. let same : day_number c (date z j 1) ≡ day_number c (date y i 1) =
    ap (λ (x : ℤ). day_number c (date x j 1)) years ∙ ap (λ (k : ℕ). day_number c (date y k 1)) places in
    omega (arith, signed, same))
  where
    first : (x : ℤ) (k : ℕ) → HasPlace c x k → IsDate c (date x k 1)
    first x k place = record { place = place; day = (omega arith, (law.lengths x k place).0) }

    before : (z <ℤ y) ⊎ ((z ≡ y) × (j < i)) → IsBefore (z, j, 1) (y, i, 1)
    before (inl years) = inl years
    before (inr p) = inr (p.0, inl p.1)

-- so no later month has a valid day if a month has none
pub held-later : (c : CalendarList) → IsLawful c → (a : MonthLook) (months : ℕ) → IsMonthHeld c a months None →
    (later : ℕ) → months ≤ later → (z : ℤ) (j : ℕ) → IsMonthsAfter c a.year a.place (pos later) z j →
    (n : ℤ) → day_number c (date z j 1) ≤ℤ n → IsValidDay n → ⊥
held-later c law a months none later order z j after n above valid =
    let here = month-at c law a months in
    let begins = month-order c law a months later here.0 here.1 z j order here.2 after in
    none here.0 here.1 here.2 n (omega (arith, signed, begins, above)) valid

-- a date whose day is on or behind the first day of a month is of that month or a later one
pub month-later : (c : CalendarList) → IsLawful c → (u : Date) (z : ℤ) (j : ℕ) → IsDate c u → HasPlace c z j →
    day_number c (date z j 1) ≤ℤ day_number c u → month_number c z j ≤ℤ month_number c u.year u.month
month-later c law u z j date_is place least =
    by_place_order u.year u.month z j
    (λ h. absurd (omega (arith, signed, least, day_number-rises c u (date z j 1) date_is first (before h))))
    (λ h. omega (arith, signed, month_number-order c z j u.year u.month place date_is.place h))
    (λ years places. let same : month_number c u.year u.month ≡ month_number c z j =
    ap (λ (y : ℤ). month_number c y u.month) years ∙ ap (λ (i : ℕ). month_number c z i) places in
    omega (arith, signed, same))
  where
    first : IsDate c (date z j 1)
    first = record { place = place; day = (omega arith, (law.lengths z j place).0) }

    before : (u.year <ℤ z) ⊎ ((u.year ≡ z) × (u.month < j)) → IsBefore (u.year, u.month, u.day) (z, j, 1)
    before (inl years) = inl years
    before (inr p) = inr (p.0, inl p.1)

-- the month before the one so many months after a month
month-previous : (c : CalendarList) → IsLawful c → (a : MonthLook) (rest months : ℕ) (z : ℤ) (j : ℕ) → IsMonthLook c a →
    months ≡ rest + 1 → IsMonthsAfter c a.year a.place (pos months) z j →
    (y : ℤ) × (i : ℕ) × IsMonthsAfter c a.year a.place (pos rest) y i
    × (day_number c (date z j 1) ≡ day_number c (date y i 1) +ℤ pos (month_length c y i))
month-previous c law a rest months z j is next after =
    let found_at = month-finds c law (month_number c a.year a.place +ℤ pos rest) in
    let here : IsMonthsAfter c a.year a.place (pos rest) found_at.0 found_at.1 =
    record { place = found_at.2; moved = found_at.3 } in
    let then_at = next-first c law found_at.0 found_at.1 found_at.2 in
    let at = month_number-injective c z j then_at.0 then_at.1 after.place then_at.2.place
    (omega (arith, signed, after.moved, then_at.2.moved, found_at.3, next)) in (
      found_at.0,
      found_at.1,
      here,
      ap (λ (x : ℤ). day_number c (date x j 1)) at.0 ∙ ap (λ (k : ℕ). day_number c (date then_at.0 k 1)) at.1 ∙ then_at.3,
    )

-- the month itself
pub reached-zero : (c : CalendarList) (a : MonthLook) (months : ℕ) → IsMonthLook c a → months ≡ 0 → IsMonthReached c a months (Some a)
reached-zero c a months is none = (is, record { place = is.is_place; moved = omega (arith, signed, none) })

-- the month after a month that was found
pub reached-next : (c : CalendarList) → IsLawful c → (a b d : MonthLook) (rest months : ℕ) → months ≡ rest + 1 → IsMonthLook c b →
    IsMonthsAfter c a.year a.place (pos rest) b.year b.place → IsMonthLook c d → d.first ≡ end_of (look_stretch b) →
    IsMonthReached c a months (Some d)
reached-next c law a b d rest months next one after two joins = (
  two,
  record { place = two.is_place; moved = omega (arith, signed, step.moved, after.moved, next) },
)
  where
    has : 1 ≤ d.days
    has = some c law d two

    step : IsMonthsAfter c b.year b.place (pos 1) d.year d.place
    step = look-next c law b d one two (omega (arith, signed, joins), omega (arith, signed, joins, has))

-- neither it nor an earlier one was found
pub reached-none : (c : CalendarList) → IsLawful c → (a : MonthLook) (rest months : ℕ) → months ≡ rest + 1 → IsMonthLook c a →
    IsMonthHeld c a rest None → IsMonthReached c a months None
reached-none c law a rest months next is none z j after n above =
    let before = month-previous c law a rest months z j is next after in
    none before.0 before.1 before.2 n (omega (arith, signed, before.3, above, (law.lengths before.0 before.1 before.2.place).0))

-- valid days lie few months apart
pub reached-far : (c : CalendarList) → IsLawful c → IsNearList c → (a : MonthLook) (s : ℤ) (months : ℕ) → IsMonthLook c a →
    IsValidDay s → InStretch (look_stretch a) s → 27040001 < months → IsMonthReached c a months None
reached-far c law nearby a s months is valid within far z j after n above here =
    let before = month-previous c law a (months - 1) months z j is (omega (arith, far)) after in
    let own = look-on c a s is within in
    let other = on-finds c law n in
    let later = month-later c law other.0 before.0 before.1 other.1.date before.2.place
    (omega (arith, signed, before.3, above, other.1.day, (law.lengths before.0 before.1 before.2.place).0)) in
    let near = nearby.apart (date a.year a.place own.0) other.0
    (record { date = own.1.date; valid = subst IsValidDay (sym own.1.day) valid })
    (record { date = other.1.date; valid = subst IsValidDay (sym other.1.day) here }) in
    omega (arith, signed, near, later, before.2.moved, far)

-- later months begin later
pub reached-later : (c : CalendarList) → IsLawful c → (a : MonthLook) (months : ℕ) → IsMonthReached c a months None →
    (later : ℕ) → months ≤ later → (z : ℤ) (j : ℕ) → IsMonthsAfter c a.year a.place (pos later) z j →
    (n : ℤ) → day_number c (date z j 1) ≤ℤ (n +ℤ pos 1) → IsValidDay n → ⊥
reached-later c law a months none later order z j after n above valid =
    let here = month-at c law a months in
    let begins = month-order c law a months later here.0 here.1 z j order here.2 after in
    none here.0 here.1 here.2 n (omega (arith, signed, begins, above)) valid

-- a valid first day is near
pub starts-near : (r : Option MonthLook) → IfSome r (λ m. IsValidDay m.first) →
    IfSome r (λ m. IsBetween (neg_ℤ (pos 365242600)) (pos 365242134) m.first)
starts-near (Some m) h = (omega (arith, signed, h.0), h.1)
starts-near None h = h
