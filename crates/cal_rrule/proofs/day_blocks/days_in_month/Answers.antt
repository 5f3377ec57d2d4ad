use Rattle.std.proofs.Common.{◌≡◌, ◌∙◌, ◌&&◌, true, false, rules, arith}
use Rattle.std.proofs.lemmas.Bool.{and_parts}
use Rattle.cal_days.proofs.Signed.{signed}
use Rattle.cal_rrule.proofs.DayBlockLemmas.{both-fail, daily-none, daily-some}
use Rattle.cal_rrule.proofs.day_blocks.days_in_month.Goals as goal

pub returns-then-not-keeps_month-keeps_single-clause-days : goal.returns-then-not-keeps_month-keeps_single-clause-days
returns-then-not-keeps_month-keeps_single-clause-days c = λ list is counts.
    let a = c.args.asked.now in
    let look = c.args.look.now in
    let first : c.new.result ≡ look.first = omega (arith, signed) in
    let fails : (c.keeps_month.result && c.keeps_single.result) ≡ false = search rules in
    daily-none list a.rule look a.day c.new-empty.result is (c.new-empty.ensures.first ∙ first) c.new-empty.ensures.none
    (λ m s. both-fail c.keeps_month.result c.keeps_single.result (c.keeps_month.ensures.1 m) (c.keeps_single.ensures.1 s) fails)

pub returns-clause-days : goal.returns-clause-days
returns-clause-days c = λ list is counts.
    let a = c.args.asked.now in
    let look = c.args.look.now in
    let holds : (c.keeps_month.result && c.keeps_single.result) ≡ true = search rules in
    let parts = and_parts c.keeps_month.result c.keeps_single.result holds in
    daily-some list a.rule look a.day c.interval_in_month-days.result c.keep_month_days.new.days c.keep_weekdays.new.days is
    (c.keeps_month.ensures.0 parts.0) (c.keeps_single.ensures.0 parts.1) c.interval_in_month-days.ensures
    c.keep_month_days.ensures.first c.keep_weekdays.ensures.first
    (c.keep_month_days.ensures.days list is) (c.keep_weekdays.ensures.days list is counts)

pub returns-then-not-keeps_month-keeps_single-clause-first : goal.returns-then-not-keeps_month-keeps_single-clause-first
returns-then-not-keeps_month-keeps_single-clause-first c =
    let first : c.new.result ≡ c.args.look.now.first = omega (arith, signed) in
    c.new-empty.ensures.first ∙ first

pub returns-clause-first : goal.returns-clause-first
returns-clause-first c =
    c.keep_weekdays.ensures.first ∙ c.keep_month_days.ensures.first ∙ c.interval_in_month-days.ensures.first
