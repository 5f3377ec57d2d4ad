use Rattle.std.proofs.Common.{◌∙◌, ℤ, pos, neg_ℤ, ◌≤ℤ◌, sym, subst}
use Rattle.cal_rrule.specs.Blocks.{start_of}
use Rattle.cal_rrule.proofs.WeeklyLemmas.{weeks-ended}
use Rattle.cal_rrule.proofs.WeeklyStartLemmas.{week-finds}
use Rattle.cal_rrule.proofs.WordLemmas.{block-few, block-near, from-word}
use Rattle.cal_rrule.proofs.weekly.weekly_block.Goals as goal

pub returns-in-None-clause-days : goal.returns-in-None-clause-days
returns-in-None-clause-days g c = λ later order n valid early of.
    let list = (g.C.Calendar.system c.args.calendar.now).list in
    let a = c.args.asked.now in
    let week = week-finds a.rule.week_start a.day in
    weeks-ended list a.rule (start_of a) c.requires.weekly a.day week.0 c.requires.is_asked.on_day week.1
    c.args.block later c.args.last n (c.in-None.ensures week.0 week.1) order of early

pub kept_in_block-requires-clause-low : goal.kept_in_block-requires-clause-low
kept_in_block-requires-clause-low g c =
    let a = c.args.asked.now in
    let week = week-finds a.rule.week_start a.day in
    let start = c.in-Some.ensures week.0 week.1 in
    let near = block-near c.in-Some.from week.0 a.day c.args.last _ start.0 week.1.2 c.requires.is_asked.is_valid start.1 c.requires.last in
    subst (λ (d : ℤ). neg_ℤ (pos 365250000) ≤ℤ d) (sym (from-word c.in-Some.from near.0 near.1)) near.0

pub kept_in_block-requires-clause-high : goal.kept_in_block-requires-clause-high
kept_in_block-requires-clause-high g c =
    let a = c.args.asked.now in
    let week = week-finds a.rule.week_start a.day in
    let start = c.in-Some.ensures week.0 week.1 in
    let near = block-near c.in-Some.from week.0 a.day c.args.last _ start.0 week.1.2 c.requires.is_asked.is_valid start.1 c.requires.last in
    subst (λ (d : ℤ). d ≤ℤ pos 365250000) (sym (from-word c.in-Some.from near.0 near.1)) near.1

pub returns-in-Some-clause-days : goal.returns-in-Some-clause-days
returns-in-Some-clause-days g c = λ n valid.
    let a = c.args.asked.now in
    let week = week-finds a.rule.week_start a.day in
    let start = c.in-Some.ensures week.0 week.1 in
    let near = block-near c.in-Some.from week.0 a.day c.args.last _ start.0 week.1.2 c.requires.is_asked.is_valid start.1 c.requires.last in
    c.kept_in_block.ensures week.0 c.args.block week.1 (from-word c.in-Some.from near.0 near.1 ∙ start.0) n

pub returns-in-Some-clause-few : goal.returns-in-Some-clause-few
returns-in-Some-clause-few g c =
    let a = c.args.asked.now in
    let week = week-finds a.rule.week_start a.day in
    block-few c.args.block (c.in-Some.ensures week.0 week.1).2

pub kept_in_block-requires-clause-nearby : goal.kept_in_block-requires-clause-nearby
kept_in_block-requires-clause-nearby g c = c.requires.nearby
