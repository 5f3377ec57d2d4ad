-- The days of a rule's blocks are those of its periods.
use Rattle.std.proofs.Common.{◌≡◌, ◌∙◌, ◌↔◌, List, MatchOption, Option, ℕ, ◌+◌, ◌*◌, ◌/◌, ◌%◌, ◌<◌, ◌⊎◌, ℤ, pos, negsuc, ◌-ℤ◌, ◌≤ℤ◌, ◌<ℤ◌, refl, sym, ap, subst, arith}
use mathlib.Core.Logic.{inl, inr, ∥∥₁_map}
use Rattle.std.proofs.lemmas.Nat.{div-add-mod'}
use Rattle.cal_days.specs.Day.{IsValidDay}
use Rattle.cal_days.proofs.Signed.{signed}
use Rattle.cal_types.specs.CalendarList.{CalendarList, Date, IsBefore, IsDate, IsLawful, IsMonthsAfter, IsOn, IsValidDate, date, day_number, month_number}
use Rattle.cal_types.specs.declared.window.Window.{Window}
use Rattle.cal_types.proofs.ListLemmas.{by_place_order, day_number-rises, month_number-order, on-finds, on-rest}
use Rattle.cal_rule.specs.declared.frequency.Frequency.{Frequency}
use Rattle.cal_rule.specs.declared.frequency.Frequency.TheVariants.{Yearly, Monthly, Weekly, Daily}
use Rattle.cal_rule.specs.declared.rule.RecurrenceRule.{RecurrenceRule}
use Rattle.cal_rrule.specs.Asking.{IsAsked}
use Rattle.cal_rrule.specs.Blocks.{IsOfBlock, IsOfBlocks, start_of, weekly_periods}
use Rattle.cal_rrule.specs.Listing.{AreLeftOf, HasBefore, HasBeforeOf}
use Rattle.cal_rrule.specs.NearDays.{IsNearList}
use Rattle.cal_rrule.specs.Occurrences.{AreOccurrences, IsKept, bounds_of}
use Rattle.cal_rrule.specs.Periods.{IsOfPeriods}
use Rattle.cal_rrule.specs.Stretches.{InStretch, month_stretch}
use Rattle.cal_rrule.specs.declared.asked.Asked.{Asked}
use Rattle.cal_rrule.proofs.ApartLemmas.{periods-some}
use Rattle.cal_rrule.proofs.OccurrenceLemmas.{HaveSame, before-like, occurrences-like, turned}
use Rattle.recurrence_sets.specs.Listing as listing
use Rattle.recurrence_sets.specs.Occurrences as sets
use Rattle.recurrence_sets.specs.Occurrences.{IsOfSome}
use Rattle.recurrence_sets.specs.Periods.{HaveEnded, Holds}
use Rattle.recurrence_sets.specs.declared.bounds.Bounds.{Bounds}
use Rattle.recurrence_sets.specs.declared.occurrence.Occurrence.{Occurrence}
use Rattle.recurrence_sets.specs.declared.period_days.PeriodDays.{PeriodDays}

-- the start's date is the one that is asked for
pub start-is : (c : CalendarList) (t : Date) (asked : Asked) → IsAsked c t asked → start_of asked ≡ t
start-is c t asked is =
    ap (λ (y : ℤ). date y asked.month.place asked.day_of_month) is.in_year
    ∙ ap (λ (i : ℕ). date t.year i asked.day_of_month) is.in_place
    ∙ ap (λ (d : ℕ). date t.year t.month d) is.on_day_of_month

pub start-asked : (c : CalendarList) (t : Date) (asked : Asked) → IsAsked c t asked → IsAsked c (start_of asked) asked
start-asked c t asked is = subst (λ (u : Date). IsAsked c u asked) (sym (start-is c t asked is)) is

module _ (c : CalendarList) (law : IsLawful c) (rule : RecurrenceRule) (t : Date) (is : IsDate c t) where
  -- the month of a day from a date on is so many months after the date's
  month_behind : (n : ℤ) → day_number c t ≤ℤ n →
      (b : ℕ) × (found : ℤ × ℕ) × IsMonthsAfter c t.year t.month (pos b) found.0 found.1 × InStretch (month_stretch c found) n
  month_behind n behind = by_offset (month_number c u.year u.month -ℤ month_number c t.year t.month) refl
    where
      u : Date
      u = (on-finds c law n).0

      on : IsOn c n u
      on = (on-finds c law n).1

      order : (u.year <ℤ t.year) ⊎ ((u.year ≡ t.year) × (u.month < t.month)) → IsBefore (u.year, u.month, u.day) (t.year, t.month, t.day)
      order (inl years) = inl years
      order (inr p) = inr (p.0, inl p.1)

      never : month_number c u.year u.month <ℤ month_number c t.year t.month → ⊥
      never less = by_place_order u.year u.month t.year t.month
          (λ h. omega (arith, signed, day_number-rises c u t on.date is (order h), on.day, behind))
          (λ h. omega (arith, signed, month_number-order c t.year t.month u.year u.month is.place on.date.place h, less))
          (λ years places. let same : month_number c u.year u.month ≡ month_number c t.year t.month =
          ap (λ (y : ℤ). month_number c y u.month) years ∙ ap (λ (i : ℕ). month_number c t.year i) places in
          omega (arith, signed, same, less))

      by_offset : (z : ℤ) → month_number c u.year u.month -ℤ month_number c t.year t.month ≡ z →
          (b : ℕ) × (found : ℤ × ℕ) × IsMonthsAfter c t.year t.month (pos b) found.0 found.1 × InStretch (month_stretch c found) n
      by_offset (pos b) e = (
        b,
        (u.year, u.month),
        record { place = on.date.place; moved = omega (arith, signed, e) },
        (omega (arith, signed, on.day, on.date.day.0), omega (arith, signed, on.day, on.date.day.0, on.date.day.1)),
      )
      by_offset (negsuc b) e = absurd (never (omega (arith, signed, e)))

  of-block : (f : Frequency) (block : ℕ) (n : ℤ) → IsOfBlocks f c rule t block n → (k : ℕ) × IsKept c rule t k n
  of-block Yearly block n p = (block, p)
  of-block Monthly block n p = (block, p)
  of-block Weekly block n p = (block * weekly_periods rule.interval + p.0, p.2)
  of-block Daily block n p = (p.3, p.4)

  to-block : (f : Frequency) → rule.frequency ≡ f → (k : ℕ) (n : ℤ) → IsKept c rule t k n → (block : ℕ) × IsOfBlocks f c rule t block n
  to-block Yearly e k n p = (k, p)
  to-block Monthly e k n p = (k, p)
  to-block Weekly e k n p =
      let q = weekly_periods rule.interval in
      let some : 0 < q = periods-some rule.interval rule.every in
      let rest : k % q < q = omega (arith, some) in
      (k / q, (k % q, rest, subst (λ (m : ℕ). IsKept c rule t m n) (sym (div-add-mod' k q)) p))
  to-block Daily e k n p =
      let of = subst (λ (f : Frequency). IsOfPeriods f c rule t (k * rule.interval) n) e p.0 in
      let m = month_behind n (omega (arith, signed, of.0)) in
      (m.0, (m.1, m.2, m.3, k, p))

  -- so a day is of some block exactly if it is of some period
  pub blocks-same : HaveSame (IsOfSome (IsOfBlock c rule t)) (IsOfSome (IsKept c rule t))
  blocks-same n valid = (
    λ h. ∥∥₁_map h (λ (block, p). of-block rule.frequency block n p),
    λ h. ∥∥₁_map h (λ (k, p). to-block rule.frequency refl k n p),
  )

-- a valid day lies at most 27040000 months after a valid date
pub month-far : (c : CalendarList) → IsNearList c → (t : Date) → IsValidDate c t → (block : ℕ) (y : ℤ) (i : ℕ) (n : ℤ) →
    27040000 < block → IsMonthsAfter c t.year t.month (pos block) y i → InStretch (month_stretch c (y, i)) n → IsValidDay n → ⊥
month-far c near t is block y i n far after within valid = by_offset (n -ℤ day_number c (date y i 1)) refl
  where
    by_offset : (z : ℤ) → n -ℤ day_number c (date y i 1) ≡ z → ⊥
    by_offset (pos r) e =
        let on = on-rest c y i r n after.place (omega (arith, signed, e)) (omega (arith, signed, e, within.1)) in
        let dated : IsValidDate c (date y i (r + 1)) =
        record { date = on.date; valid = subst (λ (m : ℤ). IsValidDay m) (sym on.day) valid } in
        let most = near.apart t (date y i (r + 1)) is dated in
        omega (arith, signed, most, after.moved, far)
    by_offset (negsuc r) e = omega (arith, signed, e, within.0)

-- blocks of one period
pub block-is : (c : CalendarList) (rule : RecurrenceRule) (t : Date) (f : Frequency) → rule.frequency ≡ f → (block : ℕ) (last : ℤ)
    (found : Option PeriodDays) →
    MatchOption found (HaveEnded (IsOfBlocks f c rule t) block last) (Holds (IsOfBlocks f c rule t block)) →
    MatchOption found (HaveEnded (IsOfBlock c rule t) block last) (Holds (IsOfBlock c rule t block))
block-is c rule t f is block last found holds =
    subst (λ (g : Frequency). MatchOption found (HaveEnded (IsOfBlocks g c rule t) block last) (Holds (IsOfBlocks g c rule t block)))
    (sym is) holds

-- ---- occurrences by blocks are those of the rule

module _ (c : CalendarList) (law : IsLawful c) (rule : RecurrenceRule) (asked : Asked) (is : IsAsked c (start_of asked) asked)
    (same_rule : asked.rule ≡ rule) (t : Date) (same_date : start_of asked ≡ t) (b : Bounds) (bounds : b ≡ bounds_of c rule t) where
  pub same_days : HaveSame (IsOfSome (IsOfBlock c asked.rule (start_of asked))) (IsOfSome (IsKept c rule t))
  same_days n valid =
      let here = blocks-same c law asked.rule (start_of asked) is.is_date n valid in
      subst (λ (u : Date). IsOfSome (IsOfBlock c asked.rule (start_of asked)) n ↔ IsOfSome (IsKept c rule u) n) same_date
      (subst (λ (r : RecurrenceRule). IsOfSome (IsOfBlock c asked.rule (start_of asked)) n ↔ IsOfSome (IsKept c r (start_of asked)) n) same_rule here)

  pub items-same : (rest : Option Window) (first last : ℤ) (xs : List Occurrence) →
      AreLeftOf c asked b rest xs
      ↔ sets.AreOccurrences (IsOfSome (IsOfBlock c asked.rule (start_of asked))) b first last xs →
      AreLeftOf c asked b rest xs ↔ AreOccurrences c rule t first last xs
  items-same rest first last xs given =
      let Has = IsOfSome (IsOfBlock c asked.rule (start_of asked)) in
      let Kept = IsOfSome (IsKept c rule t) in
      subst (λ (d : Bounds). AreLeftOf c asked b rest xs ↔ sets.AreOccurrences Kept d first last xs) bounds (
        λ left. occurrences-like Has Kept b same_days first last xs (given.0 left),
        λ are. given.1 (occurrences-like Kept Has b (turned Has Kept same_days) first last xs are),
      )

  pub counted-same : (day : ℤ) (index : ℕ) → HasBefore c rule t day index → HasBeforeOf c asked b day index
  counted-same day index counted =
      let Has = IsOfSome (IsOfBlock c asked.rule (start_of asked)) in
      let Kept = IsOfSome (IsKept c rule t) in
      before-like Kept Has b (turned Has Kept same_days) day index
      (subst (λ (d : Bounds). listing.HasBefore Kept d day index) (sym bounds) counted)

  pub before-same : (day : ℤ) (index : ℕ) → HasBeforeOf c asked b day index → HasBefore c rule t day index
  before-same day index counted =
      let Has = IsOfSome (IsOfBlock c asked.rule (start_of asked)) in
      let Kept = IsOfSome (IsKept c rule t) in
      subst (λ (d : Bounds). listing.HasBefore Kept d day index) bounds (before-like Has Kept b same_days day index counted)

-- the bounds of a rule that starts on a day
pub bounds-are : (c : CalendarList) (rule : RecurrenceRule) (day : ℤ) (t : Date) (b : Bounds) →
    b ≡ record { start = day; until = rule.until; count = rule.count } → day ≡ day_number c t → b ≡ bounds_of c rule t
bounds-are c rule day t b is at = is ∙ ap (λ (n : ℤ). record { start = n; until = rule.until; count = rule.count }) at
