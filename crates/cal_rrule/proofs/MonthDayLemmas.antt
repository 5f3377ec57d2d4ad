-- The days that a month names.
use Rattle.std.proofs.Common.{◌≡◌, ◌∙◌, ℕ, ◌*◌, ◌<◌, ◌≤◌, ◌⊎◌, ◌↔◌, ◌&&◌, IsTrue, true, false, int_lt, ℤ, pos, ◌+ℤ◌, ◌-ℤ◌, ◌≤ℤ◌, ◌<ℤ◌, sym, subst, arith}
use mathlib.Core.Bool.{true≢false}
use mathlib.Core.Logic.{inl, inr, ⊎_elim}
use Rattle.std.proofs.lemmas.Bool.Decides.{Decides-and, Decides-at}
use Rattle.cal_days.proofs.Signed.{by_bool, signed}
use Rattle.cal_types.specs.CalendarList.{CalendarList, Date, IsMonthsAfter}
use Rattle.cal_types.proofs.ListLemmas.{month_number-injective}
use Rattle.cal_rule.specs.declared.frequency.Frequency.{Frequency}
use Rattle.cal_rule.specs.declared.frequency.Frequency.TheVariants.{Yearly, Monthly}
use Rattle.cal_types.specs.Month.{MonthParts}
use Rattle.cal_types.specs.MonthParts.{month_parts}
use Rattle.cal_rule.specs.Sets.{has_month}
use Rattle.cal_rule.specs.declared.place_set.Place.TheVariants.{FromFront}
use Rattle.cal_rule.specs.declared.rule.RecurrenceRule.{RecurrenceRule}
use Rattle.cal_rule.specs.declared.skip.Skip.{Skip}
use Rattle.cal_rule.specs.declared.skip.Skip.TheVariants.{Omit, Backward, Forward}
use Rattle.cal_rrule.specs.Looks.{AreMissing, CountsInMonths, IsKeptOfMonth, IsMonthLook, IsNamedOfMonth, Reaches, look_stretch}
use Rattle.cal_rrule.specs.Masks.{Adds, InRow, IsNamedBy, IsWeekdayIn, Marks}
use Rattle.cal_rrule.specs.Periods.{IsNamedInMonth, IsOfPeriod, IsOfPeriods, IsOfWeekdays, NoMonthDays, NoWeekdays}
use Rattle.cal_rrule.specs.Stretches.{InStretch, NamesDay, Stretch, end_of}
use Rattle.cal_rrule.specs.declared.missing.Missing.{Missing}
use Rattle.cal_rrule.specs.declared.month_look.MonthLook.{MonthLook}
use Rattle.cal_rrule.specs.laws.MonthlyApart.{in_reach, named-reach}
use Rattle.cal_rrule.proofs.AskedLemmas.{there-by}
use Rattle.cal_rrule.proofs.LookLemmas.{look-stretch, look-weekdays}
use Rattle.recurrence_sets.specs.PeriodBits.{has_day}
use Rattle.recurrence_sets.specs.declared.period_days.PeriodDays.{PeriodDays}

-- what is added to no days
pub marks-added : (old new : PeriodDays) (from to : ℤ) (Is : ℤ → Type 0) → old.first ≡ from →
    ((n : ℤ) → has_day old n ≡ false) → Adds old new Is → to ≤ℤ (from +ℤ pos 448) → Marks new from to Is
marks-added old new from to Is first none adds few = record {
  first = adds.first ∙ first;
  days = λ n above below.
      let row : InRow old n = (omega (arith, signed, first, above), omega (arith, signed, first, below, few)) in
      let here = adds.days n row in
      (λ h. ⊎_elim (λ p. p) (λ q. absurd (true≢false (sym q ∙ none n))) (here.0 h), λ p. here.1 (inl p));
}

-- and no days are those of a kind that has none
pub marks-none : (days : PeriodDays) (from to : ℤ) (Is : ℤ → Type 0) → days.first ≡ from →
    ((n : ℤ) → has_day days n ≡ false) → ((n : ℤ) → Is n → ⊥) → Marks days from to Is
marks-none days from to Is first none empty = record {
  first = first;
  days = λ n above below. (λ h. absurd (true≢false (sym h ∙ none n)), λ p. absurd (empty n p));
}

-- a kind under a condition that holds
pub marks-as : (days : PeriodDays) (from to : ℤ) (Is Other : ℤ → Type 0) → Marks days from to Is →
    ((n : ℤ) → Is n ↔ Other n) → Marks days from to Other
marks-as days from to Is Other given same = record {
  first = given.first;
  days = λ n above below.
      let here = given.days n above below in
      (λ h. (same n).0 (here.0 h), λ p. here.1 ((same n).1 p));
}

-- days that a rule names in a month are within reach
month-reach : (rule : RecurrenceRule) (missing : Missing) (day : ℕ) (s : Stretch) (n : ℤ) → AreMissing rule missing →
    IsNamedOfMonth rule day s n → Reaches rule.skip s n
month-reach rule missing day s n are named = by_bool missing.month_days without_days with_days
  where
    with_days : missing.month_days ≡ false → Reaches rule.skip s n
    with_days e =
        let by = named.0 (there-by (NoMonthDays rule) missing.month_days are.no_month_days e) in
        named-reach rule.skip s by.0 n by.2

    without_days : missing.month_days ≡ true → Reaches rule.skip s n
    without_days e = by_bool missing.weekdays
        (λ f. named-reach rule.skip s (FromFront day) n (named.2 (are.no_month_days.0 e) (are.no_weekdays.0 f)))
        (λ f. in_reach rule.skip s n (named.1 (are.no_month_days.0 e) (there-by (NoWeekdays rule) missing.weekdays are.no_weekdays f)))

-- a day within reach lies from the day before the stretch to the one behind it
pub reach-range : (skip : Skip) (s : Stretch) (n : ℤ) → Reaches skip s n → ((s.first -ℤ pos 1) ≤ℤ n) × (n <ℤ (end_of s +ℤ pos 1))
reach-range Omit s n h = (omega (arith, signed, h.0), omega (arith, signed, h.1))
reach-range Backward s n h = (h.0, omega (arith, signed, h.1))
reach-range Forward s n h = (omega (arith, signed, h.0), h.1)

module _ (c : CalendarList) (rule : RecurrenceRule) (t : Date) (look : MonthLook) (is : IsMonthLook c look) where
  -- a day that a month names, by its parts
  named-in : (n : ℤ) → IsKeptOfMonth rule (month_parts look.month) t.day (look_stretch look) n →
      (¬ (NoWeekdays rule) → IsOfWeekdays c rule n) → IsNamedInMonth c rule t (look.year, look.place) n
  named-in n kept weekday = record {
    month = λ there. subst (λ (m : MonthParts). IsTrue (has_month rule.months m)) is.is_month (kept.0 there);
    month_day = λ there. subst (λ (s : Stretch). IsNamedBy rule.month_days rule.skip s n) (look-stretch c look is) (kept.1.0 there);
    weekday = weekday;
    within = λ lacks there. subst (λ (s : Stretch). InStretch s n) (look-stretch c look is) (kept.1.1 lacks there);
    start_day = λ lacks none.
        subst (λ (s : Stretch). NamesDay rule.skip s (FromFront t.day) n) (look-stretch c look is) (kept.1.2 lacks none);
  }

  named-out : (n : ℤ) → IsNamedInMonth c rule t (look.year, look.place) n →
      IsKeptOfMonth rule (month_parts look.month) t.day (look_stretch look) n
  named-out n named = (
    λ there. subst (λ (m : MonthParts). IsTrue (has_month rule.months m)) (sym is.is_month) (named.month there),
    (
      λ there. subst (λ (s : Stretch). IsNamedBy rule.month_days rule.skip s n) (sym (look-stretch c look is)) (named.month_day there),
      λ lacks there. subst (λ (s : Stretch). InStretch s n) (sym (look-stretch c look is)) (named.within lacks there),
      λ lacks none. subst (λ (s : Stretch). NamesDay rule.skip s (FromFront t.day) n) (sym (look-stretch c look is))
          (named.start_day lacks none),
    ),
  )

  -- and lies from the day before the month to the one behind it
  pub month-range : (missing : Missing) → AreMissing rule missing → (n : ℤ) →
      IsNamedInMonth c rule t (look.year, look.place) n →
      ((look.first -ℤ pos 1) ≤ℤ n) × (n <ℤ (end_of (look_stretch look) +ℤ pos 1))
  month-range missing are n named =
      reach-range rule.skip (look_stretch look) n (month-reach rule missing t.day (look_stretch look) n are (named-out n named).1)

  -- without BYDAY
  pub month-plain : (days : PeriodDays) (day : ℕ) (from to : ℤ) → t.day ≡ day → NoWeekdays rule →
      Marks days from to (IsKeptOfMonth rule (month_parts look.month) day (look_stretch look)) →
      Marks days from to (IsNamedInMonth c rule t (look.year, look.place))
  month-plain days day from to same lacks marks =
      marks-as days from to (IsKeptOfMonth rule (month_parts look.month) t.day (look_stretch look))
      (IsNamedInMonth c rule t (look.year, look.place))
      (subst (λ (d : ℕ). Marks days from to (IsKeptOfMonth rule (month_parts look.month) d (look_stretch look))) (sym same) marks)
      (λ n. (λ p. named-in n p (λ there. absurd (there lacks)), named-out n))

  -- and with it
  pub month-weekdays : (missing : Missing) (old weekdays new : PeriodDays) (day : ℕ) (from to : ℤ) → AreMissing rule missing →
      t.day ≡ day → ¬ (NoWeekdays rule) → to ≤ℤ (from +ℤ pos 448) →
      Marks old from to (IsKeptOfMonth rule (month_parts look.month) day (look_stretch look)) →
      ((n : ℤ) → Reaches rule.skip (look_stretch look) n → IsTrue (has_day weekdays n) ↔ IsOfWeekdays c rule n) →
      new.first ≡ old.first →
      ((n : ℤ) → n <ℤ (old.first +ℤ pos 448) → has_day new n ≡ (has_day old n && has_day weekdays n)) →
      Marks new from to (IsNamedInMonth c rule t (look.year, look.place))
  month-weekdays missing old weekdays new day from to are same there few kept holds first both = record {
    first = first ∙ kept.first;
    days = λ n above below.
        let parts = Decides-at (has_day new n) (has_day old n && has_day weekdays n)
        (both n (omega (arith, signed, kept.first, below, few)))
        (Decides-and (has_day old n) (has_day weekdays n) (kept.days n above below) (λ x. x, λ x. x)) in
        let at = λ (p : IsKeptOfMonth rule (month_parts look.month) day (look_stretch look) n).
        subst (λ (d : ℕ). IsKeptOfMonth rule (month_parts look.month) d (look_stretch look) n) (sym same) p in
        let back = λ (p : IsKeptOfMonth rule (month_parts look.month) t.day (look_stretch look) n).
        subst (λ (d : ℕ). IsKeptOfMonth rule (month_parts look.month) d (look_stretch look) n) same p in (
          λ h. let both_are = parts.0 h in
              named-in n (at both_are.0)
              (λ _. (holds n (month-reach rule missing day (look_stretch look) n are both_are.0.1)).0 both_are.1),
          λ named. let kept_is = back (named-out n named) in
              parts.1 (kept_is, (holds n (month-reach rule missing day (look_stretch look) n are kept_is.1)).1 (named.weekday there)),
        );
  }

-- BYDAY in one month
pub about-one : (c : CalendarList) (rule : RecurrenceRule) (a : MonthLook) (old new : PeriodDays) (n : ℤ) → IsMonthLook c a →
    CountsInMonths rule → a.days < 256 → old.first ≡ a.first -ℤ pos 1 → ((m : ℤ) → has_day old m ≡ false) →
    Adds old new (IsWeekdayIn rule.weekdays (look_stretch a)) → InStretch (look_stretch a) n →
    IsTrue (has_day new n) ↔ IsOfWeekdays c rule n
about-one c rule a old new n is counts small first none adds within =
    let row : InRow old n = (omega (arith, signed, first, within.0), omega (arith, signed, first, within.1, small)) in
    let here = adds.days n row in
    let same = look-weekdays c rule a n is counts within in (
      λ h. ⊎_elim (λ p. same.0 p.1) (λ q. absurd (true≢false (sym q ∙ none n))) (here.0 h),
      λ h. here.1 (inl (within, same.1 h)),
    )

-- and in two months that have no common day
pub about-two : (c : CalendarList) (rule : RecurrenceRule) (a b : MonthLook) (old mid new : PeriodDays) (n : ℤ) →
    IsMonthLook c a → IsMonthLook c b → CountsInMonths rule → InRow old n → ((m : ℤ) → has_day old m ≡ false) →
    Adds old mid (IsWeekdayIn rule.weekdays (look_stretch a)) → Adds mid new (IsWeekdayIn rule.weekdays (look_stretch b)) →
    (InStretch (look_stretch a) n → InStretch (look_stretch b) n → ⊥) →
    InStretch (look_stretch a) n ⊎ InStretch (look_stretch b) n → IsTrue (has_day new n) ↔ IsOfWeekdays c rule n
about-two c rule a b old mid new n one two counts row none first_adds then_adds apart within = by_side within
  where
    here : IsTrue (has_day mid n) ↔ (IsWeekdayIn rule.weekdays (look_stretch a) n ⊎ IsTrue (has_day old n))
    here = first_adds.days n row

    there : IsTrue (has_day new n) ↔ (IsWeekdayIn rule.weekdays (look_stretch b) n ⊎ IsTrue (has_day mid n))
    there = then_adds.days n (subst (λ (f : ℤ). (f ≤ℤ n) × (n <ℤ (f +ℤ pos 448))) (sym first_adds.first) row)

    of_mid : IsTrue (has_day mid n) → IsWeekdayIn rule.weekdays (look_stretch a) n
    of_mid h = ⊎_elim (λ p. p) (λ q. absurd (true≢false (sym q ∙ none n))) (here.0 h)

    by_side : InStretch (look_stretch a) n ⊎ InStretch (look_stretch b) n → IsTrue (has_day new n) ↔ IsOfWeekdays c rule n
    by_side (inl in_one) =
        let same = look-weekdays c rule a n one counts in_one in (
          λ h. ⊎_elim (λ p. absurd (apart in_one p.0)) (λ m. same.0 (of_mid m).1) (there.0 h),
          λ h. there.1 (inr (here.1 (inl (in_one, same.1 h)))),
        )
    by_side (inr in_two) =
        let same = look-weekdays c rule b n two counts in_two in (
          λ h. ⊎_elim (λ p. same.0 p.1) (λ m. absurd (apart (of_mid m).0 in_two)) (there.0 h),
          λ h. there.1 (inl (in_two, same.1 h)),
        )

-- a day from the day before a month on is in the month before it or in the month
pub reach-before : (a b : Stretch) (n : ℤ) → 1 ≤ b.days → end_of b ≡ a.first → (a.first -ℤ pos 1) ≤ℤ n → n <ℤ end_of a →
    InStretch a n ⊎ InStretch b n
reach-before a b n has meets above below =
    by_bool (int_lt n a.first) (λ e. inr (omega (arith, signed, e, above, meets, has), omega (arith, signed, e, meets)))
    (λ e. inl (omega (arith, signed, e), below))

pub reach-behind : (a b : Stretch) (n : ℤ) → 1 ≤ b.days → b.first ≡ end_of a → a.first ≤ℤ n → n <ℤ (end_of a +ℤ pos 1) →
    InStretch a n ⊎ InStretch b n
reach-behind a b n has joins above below =
    by_bool (int_lt n (end_of a)) (λ e. inl (above, omega (arith, signed, e)))
    (λ e. inr (omega (arith, signed, e, joins), omega (arith, signed, below, joins, has)))

pub apart-before : (a b : Stretch) (n : ℤ) → end_of b ≡ a.first → InStretch a n → InStretch b n → ⊥
apart-before a b n meets p q = omega (arith, signed, meets, p.0, q.1)

pub apart-behind : (a b : Stretch) (n : ℤ) → b.first ≡ end_of a → InStretch a n → InStretch b n → ⊥
apart-behind a b n joins p q = omega (arith, signed, joins, p.1, q.0)

-- MONTHLY counts weekdays in months
pub monthly-months : (rule : RecurrenceRule) → rule.frequency ≡ Monthly → CountsInMonths rule
monthly-months rule monthly h = never (sym monthly ∙ h.0)
  where
    never : ◌≡◌ {A = Frequency} Monthly Yearly → ⊥
    never e = cc

-- the days that a month names are those of its period
pub period-month : (c : CalendarList) (rule : RecurrenceRule) (t : Date) (k : ℕ) (look : MonthLook) (n : ℤ) →
    rule.frequency ≡ Monthly → IsMonthsAfter c t.year t.month (pos (k * rule.interval)) look.year look.place →
    IsNamedInMonth c rule t (look.year, look.place) n ↔ IsOfPeriod c rule t k n
period-month c rule t k look n monthly after = (
  λ named. subst (λ (f : Frequency). IsOfPeriods f c rule t (k * rule.interval) n) (sym monthly)
      ((look.year, look.place), after, named),
  λ h. by_found (subst (λ (f : Frequency). IsOfPeriods f c rule t (k * rule.interval) n) monthly h),
)
  where
    by_found : IsOfPeriods Monthly c rule t (k * rule.interval) n → IsNamedInMonth c rule t (look.year, look.place) n
    by_found p =
        let at = month_number-injective c p.0.0 p.0.1 look.year look.place p.1.place after.place (p.1.moved ∙ sym after.moved) in
        subst (λ (i : ℕ). IsNamedInMonth c rule t (look.year, i) n) at.1
        (subst (λ (y : ℤ). IsNamedInMonth c rule t (y, p.0.1) n) at.0 p.2)
