use Rattle.std.proofs.Common.{◌∙◌, sym, subst}
use Rattle.cal_rule.specs.declared.skip.Skip.{Skip}
use Rattle.cal_rrule.specs.Looks.{Reaches, look_stretch}
use Rattle.cal_rrule.proofs.LookLemmas.{some}
use Rattle.cal_rrule.proofs.MonthDayLemmas.{about-one, about-two, apart-before, apart-behind, reach-before, reach-behind}
use Rattle.cal_rrule.proofs.WordLemmas.{before-word, month-small, row-backward, row-forward}
use Rattle.cal_rrule.proofs.monthly.weekdays_about.Goals as goal

pub returns-in-Omit-clause-days : goal.returns-in-Omit-clause-days
returns-in-Omit-clause-days g c = λ n reach.
    let list = (g.C.Calendar.system c.args.calendar.now).list in
    let rule = c.args.asked.now.rule in
    let look = c.args.look.now in
    let first = c.new.ensures ∙ before-word look.first look.near in
    let small = month-small look.days look.short in
    let within = subst (λ (k : Skip). Reaches k (look_stretch look) n) (sym c.skip.ensures ∙ c.in-Omit.is) reach in
    about-one list rule look c.new-days.result c.add_weekdays_of_month.new.days n c.requires.look c.requires.counts small
    (c.new-days.ensures.first ∙ first) c.new-days.ensures.none c.add_weekdays_of_month.ensures within

pub returns-in-Backward-clause-days : goal.returns-in-Backward-clause-days
returns-in-Backward-clause-days g c = λ n reach.
    let list = (g.C.Calendar.system c.args.calendar.now).list in
    let rule = c.args.asked.now.rule in
    let look = c.args.look.now in
    let other = c.month_before.result in
    let first = c.new-days.ensures.first ∙ c.new.ensures ∙ before-word look.first look.near in
    let within = subst (λ (k : Skip). Reaches k (look_stretch look) n) (sym c.skip.ensures ∙ c.in-Backward.is) reach in
    let row = row-backward c.new-days.result.first look.first n look.days first within.0 within.1 look.short in
    about-two list rule look other c.new-days.result c.add_weekdays_of_month.new.days c.add_weekdays_of_month-in-Backward.new.days n
    c.requires.look c.month_before.ensures.look c.requires.counts row c.new-days.ensures.none
    c.add_weekdays_of_month.ensures c.add_weekdays_of_month-in-Backward.ensures
    (apart-before (look_stretch look) (look_stretch other) n c.month_before.ensures.joins)
    (reach-before (look_stretch look) (look_stretch other) n
    (some list (g.met.C.Calendar.lawful c.args.calendar.now) other c.month_before.ensures.look) c.month_before.ensures.joins within.0 within.1)

pub returns-in-Forward-clause-days : goal.returns-in-Forward-clause-days
returns-in-Forward-clause-days g c = λ n reach.
    let list = (g.C.Calendar.system c.args.calendar.now).list in
    let rule = c.args.asked.now.rule in
    let look = c.args.look.now in
    let other = c.month_after.result in
    let first = c.new-days.ensures.first ∙ c.new.ensures ∙ before-word look.first look.near in
    let within = subst (λ (k : Skip). Reaches k (look_stretch look) n) (sym c.skip.ensures ∙ c.in-Forward.is) reach in
    let row = row-forward c.new-days.result.first look.first n look.days first within.0 within.1 look.short in
    about-two list rule look other c.new-days.result c.add_weekdays_of_month.new.days c.add_weekdays_of_month-in-Forward.new.days n
    c.requires.look c.month_after.ensures.look c.requires.counts row c.new-days.ensures.none
    c.add_weekdays_of_month.ensures c.add_weekdays_of_month-in-Forward.ensures
    (apart-behind (look_stretch look) (look_stretch other) n c.month_after.ensures.joins)
    (reach-behind (look_stretch look) (look_stretch other) n
    (some list (g.met.C.Calendar.lawful c.args.calendar.now) other c.month_after.ensures.look) c.month_after.ensures.joins within.0 within.1)

pub month_after-requires-clause-nearby : goal.month_after-requires-clause-nearby
month_after-requires-clause-nearby g c = c.requires.nearby

pub month_before-requires-clause-nearby : goal.month_before-requires-clause-nearby
month_before-requires-clause-nearby g c = c.requires.nearby

pub returns-in-Backward-clause-first : goal.returns-in-Backward-clause-first
returns-in-Backward-clause-first g c =
    c.add_weekdays_of_month-in-Backward.ensures.first ∙ c.add_weekdays_of_month.ensures.first ∙ c.new-days.ensures.first ∙ c.new.ensures
    ∙ before-word c.args.look.now.first c.args.look.now.near

pub returns-in-Forward-clause-first : goal.returns-in-Forward-clause-first
returns-in-Forward-clause-first g c =
    c.add_weekdays_of_month-in-Forward.ensures.first ∙ c.add_weekdays_of_month.ensures.first ∙ c.new-days.ensures.first ∙ c.new.ensures
    ∙ before-word c.args.look.now.first c.args.look.now.near
