use Rattle.std.proofs.Common.{◌≡◌, ◌∙◌, ◌<ℤ◌, ◌+ℤ◌, ◌&&◌, pos, true, false, sym, rules}
use Rattle.std.proofs.lemmas.Bool.{and_parts}
use Rattle.std.proofs.lemmas.Bool.Decides.{Decides-and, Decides-at}
use Rattle.recurrence_sets.specs.PeriodBits.{has_day}
use Rattle.cal_rrule.proofs.WeeksBlockLemmas.{silent-fails, weekday-all}
use Rattle.cal_rrule.proofs.WordLemmas.{week-word, weeks-row}
use Rattle.cal_rrule.proofs.weeks_block.keep_start_weekday.Goals as goal

pub returns-then-not-missing-clause-days : goal.returns-then-not-missing-clause-days
returns-then-not-missing-clause-days c = λ n above below.
    let a = c.args.asked.now in
    let m = a.missing in
    let fails : (m.year_days && (m.month_days && m.weekdays)) ≡ false = search rules in
    weekday-all (has_day c.args.days.now n) a.rule a.day n (silent-fails a.rule m c.requires.missing fails)

pub keep_common-requires : goal.keep_common-requires
keep_common-requires c =
    let w = c.args.weeks.now in
    let own = week-word w.first w.near in
    c.same_weekdays-same.ensures.first ∙ own ∙ sym c.requires.first

pub returns-clause-days : goal.returns-clause-days
returns-clause-days c = λ n above below.
    let a = c.args.asked.now in
    let w = c.args.weeks.now in
    let own = week-word w.first w.near in
    let marks = rw own at c.same_weekdays-same.ensures in
    let few : n <ℤ (c.args.days.now.first +ℤ pos 448) = weeks-row n w.first c.args.days.now.first w.count below c.requires.first w.few in
    let holds : (a.missing.year_days && (a.missing.month_days && a.missing.weekdays)) ≡ true = search rules in
    let outer = and_parts a.missing.year_days (a.missing.month_days && a.missing.weekdays) holds in
    let inner = and_parts a.missing.month_days a.missing.weekdays outer.1 in
    let are = c.requires.missing in
    let both = Decides-at (has_day c.keep_common.new.self n) _ (c.keep_common.ensures.days n few)
    (Decides-and (has_day c.args.days.now n) (has_day c.same_weekdays-same.result n) (λ x. x, λ x. x) (marks.days n above below)) in (
      λ h. let p = both.0 h in (p.0, λ _ _ _. p.1),
      λ p. both.1 (p.0, p.1 (are.no_year_days.0 outer.0) (are.no_month_days.0 inner.0) (are.no_weekdays.0 inner.1)),
    )
