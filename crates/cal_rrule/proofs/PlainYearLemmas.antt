-- The day that a rule keeps of a year, where it says nothing but how often it recurs.
use Rattle.std.proofs.Common.{◌≡◌, ◌∙◌, ℕ, ◌*◌, ◌≤◌, ◌↔◌, ◌&&◌, Bool, IsTrue, false, Option, Some, MatchOption, length, ℤ, pos, ◌+ℤ◌, ◌-ℤ◌, refl, sym, ap, subst, arith}
use Rattle.std.specs.Prelude.{◌⊎◌}
use mathlib.Core.Bool.{true≢false}
use mathlib.Core.Logic.{inl, inr}
use Rattle.cal_anniversary.specs.Asking as anniversary
use Rattle.cal_anniversary.specs.YearlyDays.{IsOfYear}
use Rattle.cal_days.proofs.Signed.{signed}
use Rattle.cal_types.specs.CalendarList.{CalendarList, Date, IsDate, IsLawful, date, day_number, month_at, month_length, place_of}
use Rattle.cal_types.specs.Month.{MonthParts}
use Rattle.cal_types.specs.declared.leaping.Leaping.TheVariants.{Exact}
use Rattle.cal_types.proofs.ListLemmas.{place_of-own}
use Rattle.cal_rule.specs.declared.frequency.Frequency.TheVariants.{Yearly}
use Rattle.cal_rule.specs.declared.place_set.Place.{Place}
use Rattle.cal_rule.specs.declared.place_set.Place.TheVariants.{FromFront}
use Rattle.cal_rule.specs.declared.rule.RecurrenceRule.{RecurrenceRule}
use Rattle.cal_rule.specs.declared.skip.Skip.{Skip}
use Rattle.cal_rule.specs.declared.skip.Skip.TheVariants.{Omit}
use Rattle.cal_rrule.specs.Occurrences.{IsKept}
use Rattle.cal_rrule.specs.Periods.{IsNamedInYear, IsYearMonth, NoDays, SaysMonth, SaysMonthDay}
use Rattle.cal_rrule.specs.PlainYears.{IsPlain}
use Rattle.cal_rrule.specs.Looks.{AreMissing}
use Rattle.cal_rrule.specs.Masks.{Adds, InRow}
use Rattle.cal_rrule.specs.declared.missing.Missing.{Missing}
use Rattle.cal_types.proofs.DateTests.{and-left, and-right}
use Rattle.cal_rrule.specs.Stretches.{NamesDay, NamesMonth, ReplacesMonth, Stretch, month_stretch}
use Rattle.cal_rrule.proofs.YearlyLemmas.{of-year}
use Rattle.recurrence_sets.proofs.SetLemmas.{day-row}
use Rattle.recurrence_sets.specs.PeriodBits.{has_day}
use Rattle.recurrence_sets.specs.declared.period_days.PeriodDays.{PeriodDays}

-- the start's month and day may be asked for
pub start-known : (c : CalendarList) → IsLawful c → (t : Date) → IsDate c t → anniversary.IsAsked c (month_at c t.year t.month) t.day
start-known c law t is =
    let length = (law.lengths t.year t.month is.place).1 in
    record { kind = law.kind t.year t.month is.place; day = (is.day.0, omega (arith, is.day.1, length)) }

module _ (c : CalendarList) (law : IsLawful c) (rule : RecurrenceRule) (plain : IsPlain rule) (t : Date) where
  nothing : NoDays rule
  nothing = (plain.weeks, plain.year_days, plain.month_days, plain.weekdays)

  abbrev start : MonthParts
  start = month_at c t.year t.month

  -- under OMIT a month names itself
  names-omit : (y : ℤ) (m : MonthParts) (i : ℕ) → place_of c y m ≡ Some i → NamesMonth rule.skip c y m (y, i)
  names-omit y m i there = subst (λ (o : Option ℕ). MatchOption o (IsTrue m.is_leap × ReplacesMonth rule.skip c y m (y, i)) (λ j. (y ≡ y) × (i ≡ j))) (sym there) (refl, refl)

  -- the only month that a plain rule says is the start's
  says-start : (m : MonthParts) → SaysMonth c rule t m → m ≡ start
  says-start m (inl has) = absurd (true≢false (sym has ∙ plain.months m))
  says-start m (inr p) = p.2

  -- and the only day is the start's
  says-day : (d : Place) → SaysMonthDay rule t d → d ≡ FromFront t.day
  says-day d (inl has) = absurd (true≢false (sym has ∙ plain.month_days d))
  says-day d (inr p) = p.1

  omitted : (s : Stretch) (d : ℕ) (n : ℤ) → NamesDay Omit s (FromFront d) n → n ≡ s.first +ℤ pos d -ℤ pos 1
  omitted s d n (inl p) = p.2
  omitted s d n (inr p) = absurd p.1

  module _ (y : ℤ) (day : ℤ) (of : IsOfYear c Exact start t.day y day) where
    abbrev u : Date
    u = of.date

    in_place : place_of c y start ≡ Some u.month
    in_place =
        let own = place_of-own c u.year u.month (law.rises u.year) of.on.date.place in
        let named = subst (λ (m : MonthParts). place_of c u.year m ≡ Some u.month) of.named.0 own in
        subst (λ (z : ℤ). place_of c z start ≡ Some u.month) of.year named

    first_day : day ≡ day_number c (date y u.month 1) +ℤ pos t.day -ℤ pos 1
    first_day =
        let years = ap (λ (z : ℤ). day_number c (date z u.month 1)) of.year in
        omega (arith, signed, of.on.day, of.on.date.day.0, of.named.1, years)

    named : IsNamedInYear c rule t y day
    named = record {
      month_day = (
        λ _. ((y, u.month), in_month, FromFront t.day, inr (nothing, refl), names),
        λ lacks. absurd (lacks.1 nothing),
      );
      year_day = λ there. absurd (there plain.year_days);
      weekday = λ there. absurd (there plain.weekdays);
    }
      where
        in_month : IsYearMonth c rule t y (y, u.month)
        in_month = (
          λ _. (start, inr (nothing, plain.months, refl), names-omit y start u.month in_place),
          λ lacks. absurd (lacks.1 nothing),
        )

        short : t.day ≤ month_length c y u.month
        short = subst (λ (z : ℤ). t.day ≤ month_length c z u.month) of.year (subst (λ (d : ℕ). d ≤ month_length c u.year u.month) of.named.1 of.on.date.day.1)

        names : NamesDay rule.skip (month_stretch c (y, u.month)) (FromFront t.day) day
        names = inl (subst (λ (d : ℕ). 1 ≤ d) of.named.1 of.on.date.day.0, short, first_day)

    -- a month that the start's month names is the one in its place
    found-is : (found : ℤ × ℕ) → NamesMonth rule.skip c y start found → (found.0 ≡ y) × (found.1 ≡ u.month)
    found-is found names =
        subst (λ (o : Option ℕ). MatchOption o (IsTrue start.is_leap × ReplacesMonth rule.skip c y start found)
        (λ i. (found.0 ≡ y) × (found.1 ≡ i))) in_place names

    -- a day of it that the start's day names is the day
    day-is : (found : ℤ × ℕ) (n : ℤ) → (found.0 ≡ y) × (found.1 ≡ u.month) →
        NamesDay rule.skip (month_stretch c found) (FromFront t.day) n → n ≡ day
    day-is found n at names =
        let omit = subst (λ (s : Skip). NamesDay s (month_stretch c found) (FromFront t.day) n) plain.omits names in
        let there = omitted (month_stretch c found) t.day n omit in
        let years = ap (λ (z : ℤ). day_number c (date z found.1 1)) at.0 in
        let places = ap (λ (i : ℕ). day_number c (date y i 1)) at.1 in
        omega (arith, signed, there, years, places, first_day)

    only : (n : ℤ) → IsNamedInYear c rule t y n → n ≡ day
    only n is =
        let there = is.month_day.0 (λ lacks. lacks.1 nothing) in
        let month = there.1.0 (λ lacks. lacks.1 nothing) in
        let names = subst (λ (m : MonthParts). NamesMonth rule.skip c y m there.0) (says-start month.0 month.1) month.2 in
        let named = subst (λ (d : Place). NamesDay rule.skip (month_stretch c there.0) d n) (says-day there.2 there.3) there.4 in
        day-is there.0 n (found-is there.0 names) named

  -- a plain rule keeps the start's month and day in a year
  pub plain-kept : rule.frequency ≡ Yearly → (k : ℕ) (y day : ℤ) → y ≡ t.year +ℤ pos (k * rule.interval) →
      IsOfYear c Exact (month_at c t.year t.month) t.day y day → (n : ℤ) → n ≡ day ↔ IsKept c rule t k n
  plain-kept yearly k y day at of n = (
    λ same. ((of-year c rule t yearly plain.weeks k n).0 (own (subst (λ (m : ℤ). IsNamedInYear c rule t y m) (sym same) (named y day of))), inl plain.positions),
    λ kept. only y day of n (subst (λ (z : ℤ). IsNamedInYear c rule t z n) (sym at) ((of-year c rule t yearly plain.weeks k n).1 kept.0)),
  )
    where
      own : IsNamedInYear c rule t y n → IsNamedInYear c rule t (t.year +ℤ pos (k * rule.interval)) n
      own is = subst (λ (z : ℤ). IsNamedInYear c rule t z n) at is

-- the set of one day
pub only-day : (old new : PeriodDays) (day : ℤ) → old.first ≡ day → ((n : ℤ) → has_day old n ≡ false) →
    Adds old new (λ n. n ≡ day) → (n : ℤ) → InRow new n → IsTrue (has_day new n) ↔ (n ≡ day)
only-day old new day at none adds n row = (
  λ has. by_adds ((adds.days n in_row).0 has),
  λ same. (adds.days n in_row).1 (inl same),
)
  where
    in_row : InRow old n
    in_row = (omega (arith, signed, row, adds.first), omega (arith, signed, row, adds.first))

    by_adds : (n ≡ day) ⊎ IsTrue (has_day old n) → n ≡ day
    by_adds (inl same) = same
    by_adds (inr has) = absurd (true≢false (sym has ∙ none n))

-- it has no other day
pub alone-day : (set : PeriodDays) (day : ℤ) → length set.words ≡ 7 → set.first ≡ day →
    ((n : ℤ) → InRow set n → IsTrue (has_day set n) ↔ (n ≡ day)) → (n : ℤ) → IsTrue (has_day set n) ↔ (n ≡ day)
alone-day set day long at days n = (
  λ has. (days n (day-row set long n has)).0 has,
  λ same. (days n (omega (arith, signed, same, at), omega (arith, signed, same, at))).1 same,
)

-- what is missing says that a rule is plain
pub plain-by : (rule : RecurrenceRule) (missing : Missing) (days omit : Bool) → AreMissing rule missing → IsTrue days ↔ NoDays rule →
    IsTrue omit ↔ (rule.skip ≡ Omit) → IsTrue ((days && (missing.months && missing.positions)) && omit) → IsPlain rule
plain-by rule missing days omit are no_days same h =
    let names = and-left (days && (missing.months && missing.positions)) omit h in
    let nothing = no_days.0 (and-left days (missing.months && missing.positions) names) in
    let others = and-right days (missing.months && missing.positions) names in
    record {
      months = are.no_months.0 (and-left missing.months missing.positions others);
      month_days = nothing.2;
      year_days = nothing.1;
      weeks = nothing.0;
      weekdays = nothing.3;
      positions = are.no_positions.0 (and-right missing.months missing.positions others);
      omits = same.0 (and-right (days && (missing.months && missing.positions)) omit h);
    }
