-- The weeks of a year, and those that BYWEEKNO has.
use Rattle.std.proofs.Common.{◌≡◌, ◌∙◌, ℕ, ◌+◌, ◌-◌, ◌*◌, ◌/◌, ◌<◌, ◌≤◌, ◌⊎◌, ◌↔◌, IsTrue, Bool, ℤ, pos, negsuc, ◌+ℤ◌, ◌-ℤ◌, ◌≤ℤ◌, ◌<ℤ◌, refl, sym, ap, subst, arith}
use mathlib.Core.Logic.{inl, inr, ⊎_elim}
use Rattle.std.proofs.lemmas.Bool.{cases_lt}
use Rattle.std.proofs.lemmas.Int.{by_lt_z}
use Rattle.cal_days.specs.Division.{floor_mod}
use Rattle.cal_days.proofs.DivisionLemmas.{floor_parts}
use Rattle.cal_days.proofs.Signed.{signed}
use Rattle.cal_types.specs.CalendarList.{CalendarList}
use Rattle.cal_types.specs.declared.weekday.Weekday.{Weekday}
use Rattle.cal_rule.specs.Sets.{has_place}
use Rattle.cal_rule.specs.declared.place_set.Place.{Place}
use Rattle.cal_rule.specs.declared.place_set.Place.TheVariants.{FromFront, FromBack}
use Rattle.cal_rule.specs.declared.place_set.PlaceSet.{PlaceSet}
use Rattle.cal_rule.specs.declared.rule.RecurrenceRule.{RecurrenceRule}
use Rattle.cal_rrule.specs.Looks.{IsYearLook}
use Rattle.cal_rrule.specs.Masks.{Adds}
use Rattle.cal_rrule.specs.Weeks.{BelongsTo, IsWeekNumber, IsWeekOf, IsWeekday, weeks_before, weeks_behind}
use Rattle.cal_rrule.specs.YearWeeks.{AreWeeksOf, IsInNumbered, IsInWeekAt, IsNumbered, IsOfWeekNumbers}
use Rattle.cal_rrule.specs.declared.year_look.YearLook.{YearLook}
use Rattle.cal_rrule.proofs.MaskLemmas.{adds-as, adds-then}
use Rattle.recurrence_sets.specs.declared.period_days.PeriodDays.{PeriodDays}

-- days of one weekday lie whole weeks apart
apart_weeks : (start : Weekday) (first w : ℤ) → IsWeekday start first → IsWeekday start w → (first -ℤ pos 7) <ℤ w →
    (i : ℕ) × (w ≡ weeks_behind first i)
apart_weeks start first w one two above = by_offset (w -ℤ first) refl
  where
    by_offset : (z : ℤ) → w -ℤ first ≡ z → (i : ℕ) × (w ≡ weeks_behind first i)
    by_offset (pos a) e =
        let p = floor_parts first 7 (omega arith) in
        let q = floor_parts w 7 (omega arith) in
        (a / 7, omega (arith, signed, p, q, one, two, e))
    by_offset (negsuc a) e =
        let p = floor_parts first 7 (omega arith) in
        let q = floor_parts w 7 (omega arith) in
        absurd (omega (arith, signed, p, q, one, two, e, above))

behind_weekday : (start : Weekday) (first : ℤ) (i : ℕ) → IsWeekday start first → IsWeekday start (weeks_behind first i)
behind_weekday start first i one =
    let p = floor_parts first 7 (omega arith) in
    let q = floor_parts (weeks_behind first i) 7 (omega arith) in
    let same : floor_mod (weeks_behind first i) 7 ≡ floor_mod first 7 = omega (arith, signed, p, q) in
    same ∙ one

before_weekday : (start : Weekday) (w : ℤ) (i : ℕ) → IsWeekday start w → IsWeekday start (weeks_before w i)
before_weekday start w i one =
    let p = floor_parts w 7 (omega arith) in
    let q = floor_parts (weeks_before w i) 7 (omega arith) in
    let same : floor_mod (weeks_before w i) 7 ≡ floor_mod w 7 = omega (arith, signed, p, q) in
    same ∙ one

-- the weeks of a year that is looked at
pub weeks-of : (c : CalendarList) (start : Weekday) (look : YearLook) (first : ℤ) (count : ℕ) → IsYearLook c look →
    IsWeekOf start (look.first +ℤ pos 3) first →
    ((i : ℕ) → i < count ↔ ((first +ℤ pos (7 * i + 3)) <ℤ (look.first +ℤ pos look.days))) →
    AreWeeksOf c start look.year first count
weeks-of c start look first count is week counts = record {
  begins = week.0;
  exact = λ w of. (λ belongs. there w of belongs, λ p. here w p.0 p.1 p.2);
}
  where
    there : (w : ℤ) → IsWeekday start w → BelongsTo c look.year w → (i : ℕ) × (i < count) × (w ≡ weeks_behind first i)
    there w of belongs =
        let found = apart_weeks start first w week.0 of (omega (arith, signed, belongs.0, is.is_start, week.1, week.2)) in
        (found.0, (counts found.0).1 (omega (arith, signed, belongs.1, is.is_start, is.is_whole, found.1)), found.1)

    here : (w : ℤ) (i : ℕ) → i < count → w ≡ weeks_behind first i → BelongsTo c look.year w
    here w i low at =
        let end = (counts i).0 low in (
          omega (arith, signed, at, is.is_start, week.1, week.2),
          omega (arith, signed, at, is.is_start, is.is_whole, end),
        )

module _ (c : CalendarList) (start : Weekday) (y first : ℤ) (count : ℕ) (are : AreWeeksOf c start y first count) where
  in_year : (i : ℕ) → i < count → BelongsTo c y (weeks_behind first i)
  in_year i low = (are.exact (weeks_behind first i) (behind_weekday start first i are.begins)).1 (i, low, refl)

  -- a number that a week has
  number-of : (w : ℤ) (i : ℕ) (k : Place) → IsWeekday start w → i < count → w ≡ weeks_behind first i → IsWeekNumber c y w k →
      (k ≡ FromFront (i + 1)) ⊎ (k ≡ FromBack (count - i))
  number-of w i (FromFront k) of low at is =
      let back = (are.exact (weeks_before w (k - 1)) (before_weekday start w (k - 1) of)).0 is.2 in
      let least : k ≤ i + 1 = omega (arith, signed, back.2, at, is.0) in
      inl (ap FromFront (⊎_elim
      (λ more. absurd (is.3 (subst (λ (v : ℤ). BelongsTo c y v) (earlier k more) (in_year (i - k) (omega (arith, low))))))
      (λ most. let same : k ≡ i + 1 = omega (arith, least, most) in same) (cases_lt k (i + 1))))
    where
      earlier : (j : ℕ) → j < i + 1 → weeks_behind first (i - j) ≡ weeks_before w j
      earlier j more = omega (arith, signed, at, more)
  number-of w i (FromBack k) of low at is =
      let ahead = (are.exact (weeks_behind w (k - 1)) (behind_weekday start w (k - 1) of)).0 is.2 in
      let most : i + (k - 1) < count = omega (arith, signed, ahead.1, ahead.2, at) in
      inr (ap FromBack (⊎_elim
      (λ more. absurd (is.3 (subst (λ (v : ℤ). BelongsTo c y v) (later k) (in_year (i + k) more))))
      (λ end. let same : k ≡ count - i = omega (arith, most, end, is.0, low) in same) (cases_lt (i + k) count)))
    where
      later : (j : ℕ) → weeks_behind first (i + j) ≡ weeks_behind w j
      later j = omega (arith, signed, at)

  number-front : (w : ℤ) (i : ℕ) → IsWeekday start w → i < count → w ≡ weeks_behind first i → IsWeekNumber c y w (FromFront (i + 1))
  number-front w i of low at = (
    omega arith,
    subst (λ (v : ℤ). BelongsTo c y v) (sym at) (in_year i low),
    subst (λ (v : ℤ). BelongsTo c y v) begin (in_year 0 (omega (arith, low))),
    λ belongs. let back = (are.exact (weeks_before w (i + 1)) (before_weekday start w (i + 1) of)).0 belongs in
        omega (arith, signed, back.2, at),
  )
    where
      begin : weeks_behind first 0 ≡ weeks_before w ((i + 1) - 1)
      begin = omega (arith, signed, at)

  number-back : (w : ℤ) (i : ℕ) → IsWeekday start w → i < count → w ≡ weeks_behind first i → IsWeekNumber c y w (FromBack (count - i))
  number-back w i of low at = (
    omega (arith, low),
    subst (λ (v : ℤ). BelongsTo c y v) (sym at) (in_year i low),
    subst (λ (v : ℤ). BelongsTo c y v) end (in_year (count - 1) (omega (arith, low))),
    λ belongs. let ahead = (are.exact (weeks_behind w (count - i)) (behind_weekday start w (count - i) of)).0 belongs in
        omega (arith, signed, ahead.1, ahead.2, at, low),
  )
    where
      end : weeks_behind first (count - 1) ≡ weeks_behind w ((count - i) - 1)
      end = omega (arith, signed, at, low)

  -- the days of the weeks that BYWEEKNO has
  pub numbered-days : (rule : RecurrenceRule) → rule.week_start ≡ start → (n : ℤ) →
      IsInNumbered rule.weeks first count count n ↔ IsOfWeekNumbers c rule y n
  numbered-days rule same n = (λ p. there p.0 p.1 p.2 p.3, λ p. here p.0 p.1 p.2 p.3 p.4)
    where
      there : (i : ℕ) → i < count → IsNumbered rule.weeks count i → IsInWeekAt first i n → IsOfWeekNumbers c rule y n
      there i low numbered within =
          let of = behind_weekday start first i are.begins in
          let week : IsWeekOf rule.week_start n (weeks_behind first i) =
          (subst (λ (s : Weekday). IsWeekday s (weeks_behind first i)) (sym same) of, within.0, within.1) in
          ⊎_elim
          (λ front. (weeks_behind first i, week, FromFront (i + 1), front, number-front (weeks_behind first i) i of low refl))
          (λ back. (weeks_behind first i, week, FromBack (count - i), back, number-back (weeks_behind first i) i of low refl)) numbered

      here : (w : ℤ) → IsWeekOf rule.week_start n w → (k : Place) → IsTrue (has_place rule.weeks k) → IsWeekNumber c y w k →
          IsInNumbered rule.weeks first count count n
      here w week k has number =
          let of : IsWeekday start w = subst (λ (s : Weekday). IsWeekday s w) same week.0 in
          let at = (are.exact w of).0 (belongs k number) in (
            at.0,
            at.1,
            ⊎_elim (λ e. inl (subst (λ (p : Place). IsTrue (has_place rule.weeks p)) e has))
                (λ e. inr (subst (λ (p : Place). IsTrue (has_place rule.weeks p)) e has))
                (number-of w at.0 k of at.1 at.2 number),
            (omega (arith, signed, at.2, week.1), omega (arith, signed, at.2, week.2)),
          )
        where
          belongs : (k : Place) → IsWeekNumber c y w k → BelongsTo c y w
          belongs (FromFront j) is = is.1
          belongs (FromBack j) is = is.1

-- one week more
pub numbered-more : (set : PlaceSet 1) (first : ℤ) (count i : ℕ) (old mid new : PeriodDays) (b : Bool) →
    Adds old mid (IsInNumbered set first count i) → IsTrue b ↔ IsNumbered set count i →
    Adds mid new (λ n. IsTrue b × IsInWeekAt first i n) → Adds old new (IsInNumbered set first count (i + 1))
numbered-more set first count i old mid new b before is one =
    adds-as old new (λ n. IsInNumbered set first count i n ⊎ (IsTrue b × IsInWeekAt first i n))
    (IsInNumbered set first count (i + 1))
    (adds-then old mid new (IsInNumbered set first count i) (λ n. IsTrue b × IsInWeekAt first i n) before one)
    (λ n. (
      λ h. ⊎_elim (λ p. (p.0, omega (arith, p.1), p.2, p.3)) (λ q. (i, omega arith, is.0 q.0, q.1)) h,
      λ p. ⊎_elim (λ less. inl (p.0, less, p.2, p.3)) (λ more. inr (last n p.0 (omega (arith, p.1, more)) p.2 p.3)) (cases_lt p.0 i),
    ))
  where
    last : (n : ℤ) (k : ℕ) → k ≡ i → IsNumbered set count k → IsInWeekAt first k n → IsTrue b × IsInWeekAt first i n
    last n k same numbered within = (
      is.1 (subst (λ (j : ℕ). IsNumbered set count j) same numbered),
      subst (λ (j : ℕ). IsInWeekAt first j n) same within,
    )

pub numbered-none : (set : PlaceSet 1) (first : ℤ) (count : ℕ) (n : ℤ) → IsInNumbered set first count 0 n → ⊥
numbered-none set first count n p = omega (arith, p.1)

-- weeks that begin up to a day
until-low : (first end : ℤ) (a i : ℕ) → (first ≤ℤ end → end ≡ first +ℤ pos a) → (end ≤ℤ first → a ≡ 0) →
    i < (a + 3) / 7 → (first +ℤ pos (7 * i + 3)) <ℤ end
until-low first end a i ahead behind low = by_lt_z {P = (first +ℤ pos (7 * i + 3)) <ℤ end} end first
    (λ less. let none = behind (omega (arith, signed, less)) in absurd (omega (arith, none, low)))
    (λ order. let at = ahead order in omega (arith, signed, at, low))

until-high : (first end : ℤ) (a i : ℕ) → (first ≤ℤ end → end ≡ first +ℤ pos a) →
    (first +ℤ pos (7 * i + 3)) <ℤ end → i < (a + 3) / 7
until-high first end a i ahead before =
    let at = ahead (omega (arith, signed, before)) in omega (arith, signed, at, before)

pub until : (first end : ℤ) (a i : ℕ) → (first ≤ℤ end → end ≡ first +ℤ pos a) → (end ≤ℤ first → a ≡ 0) →
    i < (a + 3) / 7 ↔ ((first +ℤ pos (7 * i + 3)) <ℤ end)
until first end a i ahead behind = (until-low first end a i ahead behind, until-high first end a i ahead)

pub until-few : (first end : ℤ) (a : ℕ) → (first ≤ℤ end → end ≡ first +ℤ pos a) → (end ≤ℤ first → a ≡ 0) →
    end ≤ℤ (first +ℤ pos 406) → a ≤ 406
until-few first end a ahead behind few = by_lt_z {P = a ≤ 406} end first
    (λ less. let none = behind (omega (arith, signed, less)) in omega (arith, none))
    (λ order. let at = ahead order in omega (arith, signed, at, few))
