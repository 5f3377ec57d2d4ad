use Rattle.std.proofs.Common.{◌≡◌, ◌∙◌, ℕ, ◌+◌, ◌↔◌, IsTrue, ◌+ℤ◌, sym, subst, arith, to_z, of_z, w64}
use mathlib.Core.Bool.{true≢false}
use Rattle.cal_days.proofs.Signed.{signed}
use Rattle.cal_rrule.specs.Blocks.{IsOfPeriodsFrom}
use Rattle.cal_rrule.specs.Weekly.{IsPeriodWeek, week_from}
use Rattle.recurrence_sets.specs.PeriodBits.{has_day}
use Rattle.cal_rrule.proofs.WeeklyLemmas.{week-few, weeks-more}
use Rattle.cal_rrule.proofs.weekly.kept_in_weeks.Goals as goal

pub loop-place-init : goal.loop-place-init
loop-place-init c = record {
  first = c.new-kept.ensures.first;
  kept = λ list t base are n row. (
    λ has. absurd (true≢false (sym has ∙ c.new-kept.ensures.none n)),
    λ p. absurd (omega (arith, p.1)),
  );
}

pub days_to_week-requires : goal.days_to_week-requires
days_to_week-requires c =
    rw c.interval-interval.ensures
    (week-few c.loop-place.place c.args.count c.args.asked.now.rule.interval c.loop-place-test.true c.requires.few)

pub overflow_add-first : goal.overflow_add-first
overflow_add-first c =
    let few = week-few c.loop-place.place c.args.count c.args.asked.now.rule.interval c.loop-place-test.true c.requires.few in
    let days = rw c.interval-interval.ensures at c.days_to_week.ensures in
    omega (arith, signed, days, c.requires.near, few, c.to_i64_date-first.ensures.value)

pub kept_in_week-in_week-requires-clause-near : goal.kept_in_week-in_week-requires-clause-near
kept_in_week-in_week-requires-clause-near c =
    let few = week-few c.loop-place.place c.args.count c.args.asked.now.rule.interval c.loop-place-test.true c.requires.few in
    let days = rw c.interval-interval.ensures at c.days_to_week.ensures in (
      omega (arith, signed, days, c.requires.near, few, c.to_i64_date-first.ensures.value),
      omega (arith, signed, days, c.requires.near, few, c.to_i64_date-first.ensures.value),
    )

pub kept_in_week-in_week-requires-clause-from : goal.kept_in_week-in_week-requires-clause-from
kept_in_week-in_week-requires-clause-from c =
    let few = week-few c.loop-place.place c.args.count c.args.asked.now.rule.interval c.loop-place-test.true c.requires.few in
    let days = rw c.interval-interval.ensures at c.days_to_week.ensures in
    omega (arith, signed, days, c.requires.near, few, c.to_i64_date-first.ensures.value)

pub kept_in_week-in_week-requires-clause-to : goal.kept_in_week-in_week-requires-clause-to
kept_in_week-in_week-requires-clause-to c =
    let few = week-few c.loop-place.place c.args.count c.args.asked.now.rule.interval c.loop-place-test.true c.requires.few in
    let days = rw c.interval-interval.ensures at c.days_to_week.ensures in
    omega (arith, signed, days, c.requires.near, few, c.to_i64_date-first.ensures.value)

pub loop-place-preserved : goal.loop-place-preserved
loop-place-preserved c =
    let a = c.args.asked.now in
    let days = c.args.days.now in
    let place = c.loop-place.place in
    let inv = c.loop-place.invariant in
    let few = week-few place c.args.count a.rule.interval c.loop-place-test.true c.requires.few in
    let ahead = rw c.interval-interval.ensures at c.days_to_week.ensures in
    let at : to_z w64 (of_z w64 (to_z w64 (of_z w64 c.to_i64_date-first.result) +ℤ to_z w64 (of_z w64 c.days_to_week.result)))
    ≡ week_from days.first a.rule.interval place =
    omega (arith, signed, ahead, few, c.requires.near, c.to_i64_date-first.ensures.value) in
    record {
      first = c.insert_all.ensures.first ∙ inv.first;
      kept = λ list t base are.
          weeks-more list a.rule t base days c.loop-place.kept c.kept_in_week-in_week.result c.insert_all.new.self place
          inv.first c.insert_all.ensures.first (inv.kept list t base are)
          (c.kept_in_week-in_week.ensures.kept list t (base + place)
          (subst (IsPeriodWeek list a.rule t (base + place) days) (sym at) (are place c.loop-place-test.true)))
          c.insert_all.ensures.days;
    }

pub returns-clause-first : goal.returns-clause-first
returns-clause-first c = c.loop-place.invariant.first

pub returns-clause-kept : goal.returns-clause-kept
returns-clause-kept c = λ list t base are n row.
    let end : c.loop-place.place ≡ c.args.count = omega (arith, c.loop-place-test.false, c.loop-place.auto.place-end) in
    subst (λ (m : ℕ). IsTrue (has_day c.loop-place.kept n) ↔ IsOfPeriodsFrom list c.args.asked.now.rule t base m n) end
    (c.loop-place.invariant.kept list t base are n row)
