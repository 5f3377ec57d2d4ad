-- The occurrences in a window are found from its first day on, unless there is COUNT.
use Rattle.std.proofs.Common.{◌≡◌, ℕ, List, Option, Some, None, refl, subst, arith, ℤ, ◌≤ℤ◌}
use Rattle.std.specs.Prelude.{Contains}
use Rattle.std.proofs.lemmas.Int.{ints}
use Rattle.cal_days.specs.Day.{IsBetween}
use Rattle.cal_types.specs.CalendarList.{CalendarList, Date, IsDate, IsLawful, day_number}
use Rattle.cal_rule.specs.declared.rule.RecurrenceRule.{RecurrenceRule}
use Rattle.cal_rrule.specs.Listing.{AreDayItems, AreOnDays, day_bounds, start_from}
use Rattle.cal_rrule.specs.Occurrences as rules
use Rattle.cal_rrule.specs.Occurrences.{IsKept}
use Rattle.recurrence_sets.specs.Bounds.{later}
use Rattle.recurrence_sets.specs.Occurrences.{IsOfSome, Occurs, Recurs}
use Rattle.recurrence_sets.specs.declared.bounds.Bounds.{Bounds}
use Rattle.recurrence_sets.specs.declared.occurrence.Occurrence.{Occurrence}
use Rattle.rule_lists.proofs.OccurrenceLists.{counted}
use Rattle.rule_lists.proofs.PeriodDeciding.{of_some}

-- the later one of two days isn't before the first
later-least : (m n z : ℤ) → later m n ≤ℤ z → m ≤ℤ z
later-least m n z le = grind (arith, ints, le)

-- and what is before neither isn't before it
later-most : (m n z : ℤ) → m ≤ℤ z → n ≤ℤ z → later m n ≤ℤ z
later-most m n z a b = grind (arith, ints, a, b)

module _ (Is : ℤ → Type 0) (decide : (n : ℤ) → Dec (Is n)) (start : ℤ) (until : Option ℤ) (first : ℤ) where
  -- the bounds from a day on
  abbrev bounds_from : ℤ → Option ℕ → Bounds
  bounds_from day count = record { start = day; until = until; count = count }

  -- where there is no COUNT, a day on which the set recurs is an occurrence
  uncounted : (day : ℤ) (n : ℤ) → Recurs Is (bounds_from day None) n → (index : ℕ) × Occurs Is (bounds_from day None) index n
  uncounted day n recurs =
      let before = counted Is decide (bounds_from day None) n in
      (before.0, record { recurs = recurs; counted = before.1; few = λ x e. cc })

  -- an occurrence from a first day on is one without what lies before that day
  set-near : (count : Option ℕ) (index : ℕ) (n : ℤ) → first ≤ℤ n → Occurs Is (bounds_from start count) index n →
      (i : ℕ) × Occurs Is (bounds_from (start_from count start first) count) i n
  set-near (Some most) index n late o = (index, o)
  set-near None index n late o =
      uncounted (later start first) n (record {
        kept = o.recurs.kept;
        started = later-most start first n o.recurs.started late;
        valid = o.recurs.valid;
        ended = o.recurs.ended;
      })

  -- and such an occurrence is one of all
  set-far : (count : Option ℕ) (index : ℕ) (n : ℤ) → Occurs Is (bounds_from (start_from count start first) count) index n →
      (i : ℕ) × Occurs Is (bounds_from start count) i n
  set-far (Some most) index n o = (index, o)
  set-far None index n o =
      uncounted start n (record {
        kept = o.recurs.kept;
        started = later-least start first n o.recurs.started;
        valid = o.recurs.valid;
        ended = o.recurs.ended;
      })

module _ (c : CalendarList) (law : IsLawful c) (rule : RecurrenceRule) (t : Date) (is : IsDate c t) (first : ℤ) where
  -- an occurrence of a rule from a first day on is on a day of the bounds that leave out what lies before that day
  pub near-occurs : (index : ℕ) (n : ℤ) → first ≤ℤ n → rules.Occurs c rule t index n →
      (i : ℕ) × Occurs (IsOfSome (IsKept c rule t)) (day_bounds c rule t first) i n
  near-occurs = set-near (IsOfSome (IsKept c rule t)) (of_some c law rule t is) (day_number c t) rule.until first rule.count

  -- and a day of these bounds is one of an occurrence of the rule
  pub far-occurs : (index : ℕ) (n : ℤ) → Occurs (IsOfSome (IsKept c rule t)) (day_bounds c rule t first) index n →
      (i : ℕ) × rules.Occurs c rule t i n
  far-occurs = set-far (IsOfSome (IsKept c rule t)) (of_some c law rule t is) (day_number c t) rule.until first rule.count

  -- so a list of days alone from the first day on has exactly the days of the rule's occurrences
  pub on-days : (last : ℤ) (xs : List Occurrence) → AreDayItems c rule t first last xs → AreOnDays c rule t first last xs
  on-days last xs are = record {
    rising = λ i j d lt within. (are.rising i j d lt within).1;
    exact = λ n. (out n, into n);
  } where
    out : (n : ℤ) → (x : Occurrence) × Contains xs x × (x.day ≡ n) →
        (index : ℕ) × rules.Occurs c rule t index n × IsBetween first last n
    out n (x, has, same) =
        let item = (are.exact x).0 has in
        let (i, o) = far-occurs x.index x.day item.0 in
        (i, subst (λ (m : ℤ). rules.Occurs c rule t i m) same o, subst (IsBetween first last) same item.1)

    into : (n : ℤ) → (index : ℕ) × rules.Occurs c rule t index n × IsBetween first last n →
        (x : Occurrence) × Contains xs x × (x.day ≡ n)
    into n (index, o, within) =
        let (i, near) = near-occurs index n within.0 o in
        (record { index = i; day = n }, (are.exact (record { index = i; day = n })).1 (near, within), refl)
