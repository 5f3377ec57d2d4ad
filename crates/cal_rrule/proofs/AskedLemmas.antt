-- Parts that a rule has or lacks.
use Rattle.std.proofs.Common.{◌≡◌, ◌∙◌, ℕ, ◌↔◌, ◌||◌, IsTrue, Bool, true, false, refl, sym}
use mathlib.Core.Bool.{true≢false}
use Rattle.cal_rule.specs.declared.place_set.Place.TheVariants.{FromFront}
use Rattle.cal_rule.specs.declared.rule.RecurrenceRule.{RecurrenceRule}
use Rattle.cal_rrule.specs.Looks.{IsNamedOfMonth}
use Rattle.cal_rrule.specs.Masks.{Adds, IsNamedBy}
use Rattle.cal_rrule.specs.Periods.{NoMonthDays, NoWeekdays}
use Rattle.cal_rrule.specs.Stretches.{InStretch, NamesDay, Stretch}
use Rattle.cal_rrule.proofs.MaskLemmas.{adds-as}
use Rattle.recurrence_sets.specs.declared.period_days.PeriodDays.{PeriodDays}

-- a part that is there
pub there-by : (No : Type 0) (b : Bool) → IsTrue b ↔ No → b ≡ false → No → ⊥
there-by No b same fails lacks = true≢false (sym (same.1 lacks) ∙ fails)

-- a part is missing, or a test holds
pub missing-or : (No : Type 0) (b h : Bool) → IsTrue b ↔ No → IsTrue (b || h) ↔ (¬ No → IsTrue h)
missing-or No true h same = (λ _ there. absurd (there (same.0 refl)), λ _. refl)
missing-or No false h same = (λ e _. e, λ f. f (there-by No false same refl))

module _ (rule : RecurrenceRule) (day : ℕ) (s : Stretch) (old new : PeriodDays) where
  -- days of the month
  pub named-by_days : ¬ (NoMonthDays rule) → Adds old new (IsNamedBy rule.month_days rule.skip s) →
      Adds old new (IsNamedOfMonth rule day s)
  named-by_days there adds = adds-as old new (IsNamedBy rule.month_days rule.skip s) (IsNamedOfMonth rule day s) adds
      (λ n. (λ p. (λ _. p, λ lacks. absurd (there lacks), λ lacks. absurd (there lacks)), λ p. p.0 there))

  -- weekdays alone
  pub named-by_weekdays : NoMonthDays rule → ¬ (NoWeekdays rule) → Adds old new (InStretch s) →
      Adds old new (IsNamedOfMonth rule day s)
  named-by_weekdays lacks there adds = adds-as old new (InStretch s) (IsNamedOfMonth rule day s) adds
      (λ n. (λ p. (λ has. absurd (has lacks), λ _ _. p, λ _ none. absurd (there none)), λ p. p.1 lacks there))

  -- neither
  pub named-by_start : NoMonthDays rule → NoWeekdays rule → Adds old new (NamesDay rule.skip s (FromFront day)) →
      Adds old new (IsNamedOfMonth rule day s)
  named-by_start lacks none adds = adds-as old new (NamesDay rule.skip s (FromFront day)) (IsNamedOfMonth rule day s) adds
      (λ n. (λ p. (λ has. absurd (has lacks), λ _ has. absurd (has none), λ _ _. p), λ p. p.2 lacks none))
