-- The days that a rule names in a year, month by month.
use Rattle.std.proofs.Common.{◌≡◌, ◌∙◌, ℕ, ◌≤◌, ◌<◌, ◌⊎◌, ◌↔◌, ◌&&◌, ◌||◌, int_lt, IsTrue, Bool, true, false, ℤ, pos, ◌+ℤ◌, ◌≤ℤ◌, ◌<ℤ◌, refl, sym, ap, subst, arith}
use mathlib.Core.Bool.{true≢false}
use mathlib.Core.Logic.{inl, inr, ⊎_elim}
use Rattle.std.proofs.lemmas.Bool.{cases_lt}
use Rattle.std.proofs.lemmas.Bool.Decides.{Decides-and, Decides-or}
use Rattle.cal_days.proofs.Signed.{by_bool, signed}
use Rattle.cal_types.specs.CalendarList.{CalendarList, HasPlace, IsDate, IsLawful, IsMonthsAfter, date, day_number, month_at, month_count, month_number, start_of_year, year_length}
use Rattle.cal_types.specs.Month.{MonthParts}
use Rattle.cal_types.specs.MonthParts.{month_parts}
use Rattle.cal_types.proofs.ListLemmas.{date-in_year, day_number-first, first-place, month_number-injective, month_number-next, month_number-place, start_of_year-later}
use Rattle.cal_rule.specs.declared.rule.RecurrenceRule.{RecurrenceRule}
use Rattle.cal_rule.specs.declared.skip.Skip.{Skip}
use Rattle.cal_rule.specs.declared.skip.Skip.TheVariants.{Omit, Backward, Forward}
use Rattle.cal_rrule.specs.Looks.{AreMissing, IsMonthLook, IsNamedInYearMonth, look_stretch}
use Rattle.cal_rrule.specs.Stretches.{InStretch, Stretch, end_of, month_stretch}
use Rattle.cal_rrule.specs.YearMonths.{IsNamedBefore, IsNamedByMonth, IsNamedMonth, IsOfYearMonths, NamesLacking, ReplacesAt, SaysMonthOf}
use Rattle.cal_rrule.specs.declared.missing.Missing.{Missing}
use Rattle.cal_rrule.specs.declared.month_look.MonthLook.{MonthLook}
use Rattle.cal_rrule.proofs.LookLemmas.{look-date, look-stretch, some}
use Rattle.cal_rrule.proofs.MonthStepLemmas.{first-on, look-next}
use Rattle.cal_rrule.proofs.YearMonthLemmas.{lacking-leap, lacking-says, lacking-there, leap_of, next-place, year-month}

-- a month that begins behind another one is the month after it
pub look-after : (c : CalendarList) → IsLawful c → (a b : MonthLook) → IsMonthLook c a → IsMonthLook c b →
    b.first ≡ end_of (look_stretch a) → IsMonthsAfter c a.year a.place (pos 1) b.year b.place
look-after c law a b one two joins =
    look-next c law a b one two (omega (arith, signed, joins), omega (arith, signed, joins, some c law b two))

-- and is of the same year exactly where its place in its year is greater
pub same-year : (c : CalendarList) → IsLawful c → (a b : MonthLook) → IsMonthLook c a → IsMonthLook c b →
    b.first ≡ end_of (look_stretch a) → (test : Bool) → IsTrue test ↔ (a.place < b.place) → IsTrue test ↔ (b.year ≡ a.year)
same-year c law a b one two joins test is = (λ h. there (is.0 h), λ e. is.1 (back_again e))
  where
    later : IsMonthsAfter c a.year a.place (pos 1) b.year b.place
    later = look-after c law a b one two joins

    back_again : b.year ≡ a.year → a.place < b.place
    back_again e =
        let numbers = ap (λ (y : ℤ). month_number c y b.place) e in
        omega (
          arith,
          signed,
          later.moved,
          numbers,
          month_number-place c a.year a.place one.is_place.0,
          month_number-place c a.year b.place two.is_place.0,
        )

    there : a.place < b.place → b.year ≡ a.year
    there lt = ⊎_elim
        (λ low. (next-place c a.year a.place b.year b.place one.is_place later (omega arith, omega (arith, low))).0)
        (λ high. absurd (behind lt high))
        (cases_lt a.place (month_count c a.year))
      where
        behind : a.place < b.place → month_count c a.year ≤ a.place → ⊥
        behind lt high =
            let at = month_number-injective c b.year b.place (a.year +ℤ pos 1) 1 two.is_place (first-place c (a.year +ℤ pos 1) law)
            (omega (arith, signed, later.moved, month_number-next c a.year, month_number-place c a.year a.place one.is_place.0, high, one.is_place.1)) in
            omega (arith, at.1, lt, one.is_place.0)

-- one of two tests fails or holds
or_parts : {P : Type 0} (a b : Bool) → (a || b) ≡ true → (a ≡ true → P) → (b ≡ true → P) → P
or_parts true b e one two = one refl
or_parts false b e one two = two e

or_none : (a b : Bool) → (a || b) ≡ false → (a ≡ false) × (b ≡ false)
or_none true b e = absurd (true≢false e)
or_none false b e = (refl, e)

-- the days that a rule names in a month of a year
abbrev In : RecurrenceRule → ℕ → MonthLook → ℤ → Type 0
In rule day look n = IsNamedInYearMonth rule day (look_stretch look) n

module _ (c : CalendarList) (law : IsLawful c) (rule : RecurrenceRule) (start : MonthParts) (look next : MonthLook)
    (one : IsMonthLook c look) (two : IsMonthLook c next) (joins : next.first ≡ end_of (look_stretch look)) where
  -- the month after the month
  after : IsMonthsAfter c look.year look.place (pos 1) next.year next.place
  after = look-after c law look next one two joins

  own : MonthParts
  own = month_at c look.year look.place

  -- its leap month
  leap-same : leap_of (month_parts look.month).number ≡ leap_of (month_at c look.year look.place).number
  leap-same = ap (λ (m : MonthParts). leap_of m.number) one.is_month

  -- a month that is a leap month, or that its leap month follows
  pub lacking-none : (leap follows : Bool) → leap ≡ (month_parts look.month).is_leap →
      IsTrue follows ↔ ((next.year ≡ look.year) × (month_parts next.month ≡ leap_of (month_parts look.month).number)) →
      (leap || follows) ≡ true → NamesLacking c rule start look.year look.place → ⊥
  lacking-none leap follows is same either p =
      or_parts leap follows either
      (λ e. lacking-leap c law rule start look.year look.place one.is_place next.year next.place after
      (sym (ap (λ (m : MonthParts). m.is_leap) one.is_month) ∙ sym is ∙ e) p)
      (λ e. let at = same.0 e in
      lacking-there c law rule start look.year look.place one.is_place next.year next.place after
      at.0 (sym two.is_month ∙ at.1 ∙ leap-same) p)

  -- and another one
  pub lacking-some : (leap follows : Bool) → leap ≡ (month_parts look.month).is_leap →
      IsTrue follows ↔ ((next.year ≡ look.year) × (month_parts next.month ≡ leap_of (month_parts look.month).number)) →
      (leap || follows) ≡ false →
      SaysMonthOf rule start (leap_of (month_parts look.month).number) ↔ NamesLacking c rule start look.year look.place
  lacking-some leap follows is same neither =
      let none = or_none leap follows neither in
      let parts = lacking-says c law rule start look.year look.place one.is_place next.year next.place after
      (sym (ap (λ (m : MonthParts). m.is_leap) one.is_month) ∙ sym is ∙ none.0)
      (λ at. true≢false (sym (same.1 (at.0, two.is_month ∙ at.1 ∙ sym leap-same)) ∙ none.1)) in (
        λ says. parts.0 (subst (λ (m : MonthParts). SaysMonthOf rule start m) leap-same says),
        λ p. subst (λ (m : MonthParts). SaysMonthOf rule start m) (sym leap-same) (parts.1 p),
      )

  module _ (day : ℕ) (itself lacking back forth : Bool) (named : IsTrue itself ↔ IsNamedMonth rule start (month_parts look.month))
      (lacks : IsTrue lacking ↔ NamesLacking c rule start look.year look.place)
      (backward : IsTrue back ↔ (rule.skip ≡ Backward)) (forward : IsTrue forth ↔ (rule.skip ≡ Forward)) (n : ℤ) where
    -- the tests, as facts
    first-test : IsTrue (itself || (lacking && back)) ↔ (IsNamedMonth rule start (month_parts look.month)
        ⊎ (NamesLacking c rule start look.year look.place × (rule.skip ≡ Backward)))
    first-test = Decides-or itself (lacking && back) named (Decides-and lacking back lacks backward)

    second-test : IsTrue (lacking && forth) ↔ (NamesLacking c rule start look.year look.place × (rule.skip ≡ Forward))
    second-test = Decides-and lacking forth lacks forward

    -- in the month itself, and in the next one
    in_look : In rule day look n → IsNamedInYearMonth rule day (month_stretch c (look.year, look.place)) n
    in_look h = subst (λ (s : Stretch). IsNamedInYearMonth rule day s n) (look-stretch c look one) h

    in_next : In rule day next n → IsNamedInYearMonth rule day (month_stretch c (next.year, next.place)) n
    in_next h = subst (λ (s : Stretch). IsNamedInYearMonth rule day s n) (look-stretch c next two) h

    of_look : (z : ℤ) (j : ℕ) → z ≡ look.year → j ≡ look.place → IsNamedInYearMonth rule day (month_stretch c (z, j)) n → In rule day look n
    of_look z j years places h =
        let same : month_stretch c (z, j) ≡ look_stretch look =
        ap (λ (x : ℤ). month_stretch c (x, j)) years ∙ ap (λ (k : ℕ). month_stretch c (look.year, k)) places
        ∙ sym (look-stretch c look one) in
        subst (λ (s : Stretch). IsNamedInYearMonth rule day s n) same h

    of_next : (z : ℤ) (j : ℕ) → IsMonthsAfter c look.year look.place (pos 1) z j → IsNamedInYearMonth rule day (month_stretch c (z, j)) n →
        In rule day next n
    of_next z j later h =
        let at = month_number-injective c z j next.year next.place later.place after.place (later.moved ∙ sym after.moved) in
        let same : month_stretch c (z, j) ≡ look_stretch next =
        ap (λ (x : ℤ). month_stretch c (x, j)) at.0 ∙ ap (λ (k : ℕ). month_stretch c (next.year, k)) at.1
        ∙ sym (look-stretch c next two) in
        subst (λ (s : Stretch). IsNamedInYearMonth rule day s n) same h

    there : (IsTrue (itself || (lacking && back)) × In rule day look n) ⊎ (IsTrue (lacking && forth) × In rule day next n) →
        IsNamedByMonth c rule start day look.year look.place n
    there (inl p) = ⊎_elim
        (λ h. (
          (look.year, look.place),
          inl (refl, refl, subst (λ (m : MonthParts). IsNamedMonth rule start m) one.is_month h),
          in_look p.1,
        ))
        (λ q. (
          (look.year, look.place),
          inr (q.0, subst (λ (s : Skip). ReplacesAt s c look.year look.place (look.year, look.place)) (sym q.1) (refl, refl)),
          in_look p.1,
        ))
        (first-test.0 p.0)
    there (inr p) =
        let q = second-test.0 p.0 in (
          (next.year, next.place),
          inr (q.0, subst (λ (s : Skip). ReplacesAt s c look.year look.place (next.year, next.place)) (sym q.1) after),
          in_next p.1,
        )

    replaced : NamesLacking c rule start look.year look.place → (z : ℤ) (j : ℕ) → (skip : Skip) → skip ≡ rule.skip →
        ReplacesAt skip c look.year look.place (z, j) → IsNamedInYearMonth rule day (month_stretch c (z, j)) n →
        (IsTrue (itself || (lacking && back)) × In rule day look n) ⊎ (IsTrue (lacking && forth) × In rule day next n)
    replaced lack z j Omit same at h = absurd at
    replaced lack z j Backward same at h = inl (first-test.1 (inr (lack, sym same)), of_look z j at.0 at.1 h)
    replaced lack z j Forward same at h = inr (second-test.1 (lack, sym same), of_next z j at h)

    back_again : IsNamedByMonth c rule start day look.year look.place n →
        (IsTrue (itself || (lacking && back)) × In rule day look n) ⊎ (IsTrue (lacking && forth) × In rule day next n)
    back_again p = ⊎_elim
        (λ q. inl (
          first-test.1 (inl (subst (λ (m : MonthParts). IsNamedMonth rule start m) (sym one.is_month) q.2)),
          of_look p.0.0 p.0.1 q.0 q.1 p.2,
        ))
        (λ q. replaced q.0 p.0.0 p.0.1 rule.skip refl q.1 p.2)
        p.1

    -- what is added by a month is what the rule names by it
    pub by-month : ((IsTrue (itself || (lacking && back)) × In rule day look n) ⊎ (IsTrue (lacking && forth) × In rule day next n))
        ↔ IsNamedByMonth c rule start day look.year look.place n
    by-month = (there, back_again)

-- a month that begins in a year is of the year
pub look-in_year : (c : CalendarList) → IsLawful c → (y : ℤ) (look : MonthLook) → IsMonthLook c look →
    start_of_year c y ≤ℤ look.first → look.first <ℤ (start_of_year c y +ℤ pos (year_length c y)) → look.year ≡ y
look-in_year c law y look is low high =
    let own : IsDate c (date look.year look.place 1) =
    record { place = is.is_place; day = (omega arith, (law.lengths look.year look.place is.is_place).0) } in
    let within = date-in_year c (date look.year look.place 1) own in
    by_bool (int_lt look.year y)
    (λ e. let before = start_of_year-later c look.year y (omega (arith, signed, e)) in
    absurd (omega (arith, signed, before, within, is.is_first, low)))
    (λ e. by_bool (int_lt y look.year)
    (λ f. let behind = start_of_year-later c y look.year (omega (arith, signed, f)) in
    absurd (omega (arith, signed, behind, is.is_first, high)))
    (λ f. omega (arith, signed, e, f)))

-- the month of a year's first day begins with the year
pub look-starts : (c : CalendarList) → IsLawful c → (y : ℤ) (look : MonthLook) → IsMonthLook c look →
    InStretch (look_stretch look) (start_of_year c y) → look.first ≡ start_of_year c y
look-starts c law y look is within =
    let on = first-on c law y 1 (first-place c y law) in
    let begins = day_number-first c y in
    let at = look-date c look (day_number c (date y 1 1)) (date y 1 1) is
    (omega (arith, signed, begins, within.0), omega (arith, signed, begins, within.1)) on in
    is.is_first ∙ ap (λ (x : ℤ). day_number c (date x look.place 1)) (sym at.0)
    ∙ ap (λ (k : ℕ). day_number c (date y k 1)) (sym at.1) ∙ begins

module _ (c : CalendarList) (law : IsLawful c) (rule : RecurrenceRule) (start : MonthParts) (day : ℕ) (y : ℤ) where
  -- no month begins before the year
  pub before-none : (first : ℤ) → first ≤ℤ start_of_year c y → (n : ℤ) → IsNamedBefore c rule start day y first n → ⊥
  before-none first low n p = omega (arith, signed, low, p.2)

  module _ (look next : MonthLook) (one : IsMonthLook c look) (two : IsMonthLook c next)
      (joins : next.first ≡ end_of (look_stretch look)) (same : look.year ≡ y) where
    -- one month more
    more : (n : ℤ) → IsNamedBefore c rule start day y look.first n ⊎ IsNamedByMonth c rule start day look.year look.place n →
        IsNamedBefore c rule start day y next.first n
    more n (inl p) = (p.0, p.1, omega (arith, signed, p.2, joins, some c law look one), p.3)
    more n (inr p) = (
      look.place,
      subst (λ (x : ℤ). HasPlace c x look.place) same one.is_place,
      omega (arith, signed, one.is_first, joins, some c law look one, ap (λ (x : ℤ). day_number c (date x look.place 1)) same),
      subst (λ (x : ℤ). IsNamedByMonth c rule start day x look.place n) same p,
    )

    less : (n : ℤ) → IsNamedBefore c rule start day y next.first n →
        IsNamedBefore c rule start day y look.first n ⊎ IsNamedByMonth c rule start day look.year look.place n
    less n p =
        by_bool (int_lt (day_number c (date y p.0 1)) look.first)
        (λ e. inl (p.0, p.1, omega (arith, signed, e), p.3))
        (λ e. let at = look-date c look (day_number c (date y p.0 1)) (date y p.0 1) one
        (omega (arith, signed, e), omega (arith, signed, p.2, joins)) (first-on c law y p.0 p.1) in
        inr (subst (λ (k : ℕ). IsNamedByMonth c rule start day look.year k n) at.1
        (subst (λ (x : ℤ). IsNamedByMonth c rule start day x p.0 n) at.0 p.3)))

    pub before-next : (n : ℤ) → (IsNamedBefore c rule start day y look.first n ⊎ IsNamedByMonth c rule start day look.year look.place n)
        ↔ IsNamedBefore c rule start day y next.first n
    before-next n = (more n, less n)

  -- all months of the year
  pub before-all : (missing : Missing) → AreMissing rule missing → (first : ℤ) →
      (start_of_year c y +ℤ pos (year_length c y)) ≤ℤ first →
      (n : ℤ) → IsNamedBefore c rule start day y first n ↔ IsOfYearMonths c rule start day y n
  before-all missing are first past n = (
    λ p. let named = p.3 in (
      named.0,
      (year-month c law rule missing are start y named.0).1 (p.0, p.1, named.1),
      named.2,
    ),
    λ p. let at = (year-month c law rule missing are start y p.0).0 p.1 in (
      at.0,
      at.1,
      within at.0 at.1,
      (p.0, at.2, p.2),
    ),
  )
    where
      within : (i : ℕ) → HasPlace c y i → day_number c (date y i 1) <ℤ first
      within i place =
          let own : IsDate c (date y i 1) = record { place = place; day = (omega arith, (law.lengths y i place).0) } in
          omega (arith, signed, date-in_year c (date y i 1) own, past)
