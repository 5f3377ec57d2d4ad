-- The days of a rule's blocks in a window are those of its periods, without what lies before.
use Rattle.std.proofs.Common.{◌≡◌, ◌∙◌, ◌↔◌, List, Option, ℤ, ◌≤ℤ◌, ◌<ℤ◌, refl, ap, subst, arith}
use Rattle.cal_days.proofs.Signed.{signed}
use Rattle.cal_types.specs.CalendarList.{CalendarList, Date, IsLawful, day_number}
use Rattle.cal_types.specs.declared.window.Window.{Window}
use Rattle.cal_rule.specs.declared.rule.RecurrenceRule.{RecurrenceRule}
use Rattle.cal_rrule.specs.Asking.{IsAsked}
use Rattle.cal_rrule.specs.Blocks.{IsOfBlock, start_of}
use Rattle.cal_rrule.specs.Listing.{AreDayItems, AreLeftOf, day_bounds, start_from}
use Rattle.cal_rrule.specs.Occurrences.{IsKept, bounds_of}
use Rattle.cal_rrule.specs.declared.asked.Asked.{Asked}
use Rattle.cal_rrule.proofs.BlockLemmas.{same_days}
use Rattle.cal_rrule.proofs.OccurrenceLemmas.{HaveSame, occurrences-like, turned}
use Rattle.recurrence_sets.specs.Listing as listing
use Rattle.recurrence_sets.specs.Occurrences as sets
use Rattle.recurrence_sets.specs.Occurrences.{IsOfSome, Recurs}
use Rattle.recurrence_sets.specs.declared.bounds.Bounds.{Bounds}
use Rattle.recurrence_sets.specs.declared.occurrence.Occurrence.{Occurrence}
use Rattle.recurrence_sets.proofs.DayLemmas.{count-empty}

-- no day of a set lies before a day up to which it hasn't started
pub none-before : (Is : ℤ → Type 0) (b : Bounds) (first : ℤ) → first ≤ℤ b.start → listing.HasBefore Is b first 0
none-before Is b first late =
    count-empty (λ m. Recurs Is b m × (m <ℤ first)) (λ m h. omega (arith, signed, h.0.started, h.1, late))

module _ (c : CalendarList) (law : IsLawful c) (rule : RecurrenceRule) (asked : Asked) (is : IsAsked c (start_of asked) asked)
    (same_rule : asked.rule ≡ rule) (t : Date) (same_date : start_of asked ≡ t) where
  -- a valid day is of some block exactly if it is of some period of the rule
  pub days-same : HaveSame (IsOfSome (IsOfBlock c asked.rule (start_of asked))) (IsOfSome (IsKept c rule t))
  days-same = same_days c law rule asked is same_rule t same_date (bounds_of c rule t) refl

  -- so what a listing by blocks has left are the rule's
  pub day-items : (b : Bounds) (first : ℤ) → b ≡ day_bounds c rule t first → (rest : Option Window) (last : ℤ) (xs : List Occurrence) →
      AreLeftOf c asked b rest xs
      ↔ sets.AreOccurrences (IsOfSome (IsOfBlock c asked.rule (start_of asked))) b first last xs →
      AreLeftOf c asked b rest xs ↔ AreDayItems c rule t first last xs
  day-items b first bounds rest last xs given =
      let Has = IsOfSome (IsOfBlock c asked.rule (start_of asked)) in
      let Kept = IsOfSome (IsKept c rule t) in
      subst (λ (d : Bounds). AreLeftOf c asked b rest xs ↔ sets.AreOccurrences Kept d first last xs) bounds (
        λ left. occurrences-like Has Kept b days-same first last xs (given.0 left),
        λ are. given.1 (occurrences-like Kept Has b (turned Has Kept days-same) first last xs are),
      )

-- the bounds of the days of a rule that starts on a day
pub day-bounds-are : (c : CalendarList) (rule : RecurrenceRule) (day first : ℤ) (t : Date) (b : Bounds) →
    b ≡ record { start = start_from rule.count day first; until = rule.until; count = rule.count } →
    day ≡ day_number c t → b ≡ day_bounds c rule t first
day-bounds-are c rule day first t b is at =
    is ∙ ap (λ (n : ℤ). record { start = start_from rule.count n first; until = rule.until; count = rule.count }) at
