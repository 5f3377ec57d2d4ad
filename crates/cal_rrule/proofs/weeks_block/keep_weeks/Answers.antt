use Rattle.std.proofs.Common.{◌≡◌, ◌∙◌, ◌<ℤ◌, ◌≤ℤ◌, ◌+ℤ◌, ℤ, pos, sym, refl, subst}
use mathlib.Core.Bool.{true≢false}
use mathlib.Core.Logic.{inl, ⊎_elim}
use Rattle.std.proofs.lemmas.Bool.Decides.{Decides-and, Decides-at}
use Rattle.recurrence_sets.specs.PeriodBits.{has_day}
use Rattle.cal_rrule.proofs.WordLemmas.{week-word, weeks-row}
use Rattle.cal_rrule.proofs.YearWeekLemmas.{numbered-days}
use Rattle.cal_rrule.proofs.weeks_block.keep_weeks.Goals as goal

pub keep_common-requires : goal.keep_common-requires
keep_common-requires c =
    let begins : c.new.result ≡ c.args.weeks.now.first = c.new.ensures ∙ week-word c.args.weeks.now.first c.args.weeks.now.near in
    c.add_numbered.ensures.first ∙ c.new-kept.ensures.first ∙ begins ∙ sym c.requires.first

pub returns-clause-days : goal.returns-clause-days
returns-clause-days c = λ list y are n above below.
    let rule = c.args.asked.now.rule in
    let w = c.args.weeks.now in
    let begins : c.new.result ≡ w.first = c.new.ensures ∙ week-word w.first w.near in
    let first = c.new-kept.ensures.first ∙ begins in
    let numbered = numbered-days list rule.week_start y w.first w.count are rule refl n in
    let adds = rw c.weeks.ensures at c.add_numbered.ensures in
    let here = adds.days n (subst (λ (m : ℤ). m ≤ℤ n) (sym first) above, weeks-row n w.first c.new-kept.result.first w.count below first w.few) in
    let few : n <ℤ (c.args.days.now.first +ℤ pos 448) = weeks-row n w.first c.args.days.now.first w.count below c.requires.first w.few in
    Decides-at (has_day c.keep_common.new.self n) _ (c.keep_common.ensures.days n few)
    (Decides-and (has_day c.args.days.now n) (has_day c.add_numbered.new.days n) (λ x. x, λ x. x) (
      λ h. ⊎_elim (λ p. numbered.0 p) (λ q. absurd (true≢false (sym q ∙ c.new-kept.ensures.none n))) (here.0 h),
      λ of. here.1 (inl (numbered.1 of)),
    ))
