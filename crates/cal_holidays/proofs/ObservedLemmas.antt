-- The first day that a rule names, from the years in which it is kept.
use Rattle.std.proofs.Common.{◌≡◌, ℕ, List, Option, Some, sym, subst, arith, ℤ, pos, ◌-ℤ◌, ◌+ℤ◌, ◌≤ℤ◌}
use Rattle.cal_days.specs.Day.{IsBetween}
use Rattle.cal_days.specs.Division.{floor_mod}
use Rattle.cal_days.proofs.Signed.{signed}
use Rattle.cal_tables.specs.Kinds.{TableContents}
use Rattle.cal_types.specs.CalendarList.{CalendarList, IsLawful}
use Rattle.cal_holidays.specs.BookNames.{names_if}
use Rattle.cal_holidays.specs.Merging.{IsFirstDay}
use Rattle.cal_holidays.specs.Moving.{AreSteps, IsLeast, MovesIn, step_year}
use Rattle.cal_holidays.specs.NamedDays.{MovesTo, NamesIn, OwnDay}
use Rattle.cal_holidays.specs.Naming.{names_day, names_in, repeats_on}
use Rattle.cal_holidays.specs.Observing.{move_on}
use Rattle.cal_holidays.specs.OwnDays.{AreYearsOf}
use Rattle.cal_holidays.specs.RepeatedDays.{RepeatsOn}
use Rattle.cal_holidays.specs.Rules.{NamedRule, Observed, Repeated}
use Rattle.cal_holidays.specs.declared.own_days.YearSpan.{YearSpan}
use Rattle.cal_holidays.specs.declared.rule_years.RuleYears.{RuleYears}
use Rattle.cal_holidays.specs.declared.rule_years.YearSteps.{YearSteps}
use Rattle.cal_holidays.proofs.MovingLemmas.{least-first, least-same}
use Rattle.cal_holidays.proofs.NamedDaysLemmas.{by-repeats, in-rule, repeats-by, rule-in}

pub first-observed : (c : CalendarList) → IsLawful c → (kept : Observed) (first last from to reach : ℤ) (span : YearSpan) (steps : YearSteps) (day : Option ℤ)
    → ((d : ℕ) → IsBetween (pos 0 -ℤ reach) reach (move_on kept.moves d)) → from ≡ first -ℤ reach → to ≡ last +ℤ reach
    → AreYearsOf (OwnDay c kept.rule) from to span → AreSteps kept.years span.low span.high steps → IsLeast (MovesIn (OwnDay c kept.rule) kept.moves steps) first last day
    → IsFirstDay (names_in c kept) first last day
first-observed c law kept first last from to reach span steps day near begin end are in_steps is =
    least-first first last (NamesIn c kept) (names_in c kept) day (rule-in c law kept) (in-rule c law kept)
    (least-same first last (MovesIn (OwnDay c kept.rule) kept.moves steps) (NamesIn c kept) day
    (λ n within h. (step_year steps h.0, in_steps.kept h.0 h.1, h.2))
    (λ n within h.
    let t = h.2 in
    let move = near (floor_mod t.own 7) in
    let own : IsBetween from to t.own = (omega (arith, signed, within.0, t.moved, move.1, begin), omega (arith, signed, within.1, t.moved, move.0, end)) in
    let at = are.within h.0 t.own t.is_own t.valid own in
    let on = in_steps.all h.0 h.1 at in
    (on.0, omega (arith, signed, on.1, on.2), subst (λ (y : ℤ). MovesTo (OwnDay c kept.rule) kept.moves y n) on.1 t))
    is)

-- the first day of a recurrence rule, by its test
pub first-repeated : (c : CalendarList) (law : IsLawful c) (r : Repeated) (years : RuleYears) (moves : List (Option ℤ)) (first last : ℤ) (day : Option ℤ)
    → IsLeast (RepeatsOn c r years moves) first last day → IsFirstDay (repeats_on c law r years moves) first last day
first-repeated c law r years moves first last day is =
    least-first first last (RepeatsOn c r years moves) (repeats_on c law r years moves) day (repeats-by c law r years moves) (by-repeats c law r years moves) is

-- the same of a rule of a book
pub first-of_rule : (t : TableContents) (o : Option NamedRule) (named : NamedRule) (first last : ℤ) (day : Option ℤ) → o ≡ Some named
    → IsFirstDay (names_day t named.kept) first last day → IsFirstDay (names_if t o) first last day
first-of_rule t o named first last day e h = subst (λ (p : Option NamedRule). IsFirstDay (names_if t p) first last day) (sym e) h
