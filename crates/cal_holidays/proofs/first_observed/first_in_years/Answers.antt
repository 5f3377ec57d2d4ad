use Rattle.std.proofs.Common.{◌≡◌, ◌<◌, ◌≤◌, ◌+◌, ◌∙◌, ◌≤ℤ◌, ◌<ℤ◌, ◌+ℤ◌, pos, ap, subst, sym, arith, rules, true, FitsSigned, to_z, of_z, w32, w64, ℤ}
use Rattle.cal_days.specs.Day.{IsBetween}
use Rattle.cal_days.proofs.Signed.{signed}
use Rattle.cal_holidays.specs.Moving.{IsSomeValid, is_settled, step_year}
use Rattle.cal_holidays.specs.NamedDays.{OwnDay}
use Rattle.cal_holidays.specs.OwnDays.{IsValidOne}
use Rattle.cal_holidays.specs.Rules.{rule_said}
use Rattle.cal_holidays.proofs.MovingLemmas.{Before, least-ended, least-none, least-settled, least-step, least-valid, left_falls, step_next}
use Rattle.cal_holidays.proofs.OwnDayLemmas.{own_rises}
use Rattle.cal_holidays.proofs.first_observed.first_in_years.Goals as goal

pub loop-year-init : goal.loop-year-init
loop-year-init g c =
    let list = (g.C.Calendar.system c.args.calendar.now).list in
    let rule = rule_said c.args.observance.rule in
    let s = c.args.steps in
    let fits : FitsSigned w32 s.first = search rules in
    let first : to_z w32 (of_z w32 s.first) ≡ s.first = omega (arith, signed) in
    let begin : s.first ≡ step_year s 0 = omega (arith, signed) in
    (0, first ∙ begin, least-none (OwnDay list rule) (own_rises list (g.met.C.Calendar.lawful c.args.calendar.now) rule) c.args.observance.moves.days c.args.first c.args.last s)

pub is_settled-requires-clause-best : goal.is_settled-requires-clause-best
is_settled-requires-clause-best g c =
    let list = (g.C.Calendar.system c.args.calendar.now).list in
    let rule = rule_said c.args.observance.rule in
    let s = c.args.steps in
    let moves = c.args.observance.moves.days in
    let inv = c.loop-year.invariant in
    let year = to_z w32 c.loop-year.year-bits in
    let fits_last : FitsSigned w32 s.last = search rules in
    let last : to_z w32 (of_z w32 s.last) ≡ s.last = omega (arith, signed) in
    let le : year ≤ℤ s.last = omega (arith, signed, c.loop-year-test.true, last) in
    let next = least-step (OwnDay list rule) (own_rises list (g.met.C.Calendar.lawful c.args.calendar.now) rule) moves c.args.first c.args.last s inv.0 year c.loop-year.best c.own_day-own.result
    c.moved_between.result c.earlier_day-best.result inv.1 le inv.2 c.own_day-own.ensures c.moved_between.ensures c.earlier_day-best.ensures in
    least-valid c.args.first c.args.last (Before (OwnDay list rule) moves s (inv.0 + 1)) c.earlier_day-best.result c.requires.from c.requires.to next

pub returns-then-is_settled : goal.returns-then-is_settled
returns-then-is_settled g c =
    let list = (g.C.Calendar.system c.args.calendar.now).list in
    let rule = rule_said c.args.observance.rule in
    let s = c.args.steps in
    let moves = c.args.observance.moves.days in
    let inv = c.loop-year.invariant in
    let year = to_z w32 c.loop-year.year-bits in
    let fits_last : FitsSigned w32 s.last = search rules in
    let last : to_z w32 (of_z w32 s.last) ≡ s.last = omega (arith, signed) in
    let le : year ≤ℤ s.last = omega (arith, signed, c.loop-year-test.true, last) in
    let next = least-step (OwnDay list rule) (own_rises list (g.met.C.Calendar.lawful c.args.calendar.now) rule) moves c.args.first c.args.last s inv.0 year c.loop-year.best c.own_day-own.result
    c.moved_between.result c.earlier_day-best.result inv.1 le inv.2 c.own_day-own.ensures c.moved_between.ensures c.earlier_day-best.ensures in
    let there = subst (λ (z : ℤ). IsValidOne (OwnDay list rule z) c.own_day-own.result) inv.1 c.own_day-own.ensures in
    let held : to_z w64 (of_z w64 c.reach-reach.result) ≡ c.reach-reach.result = omega (arith, signed, c.reach-reach.ensures.range) in
    let settled = ap (λ (z : ℤ). is_settled c.earlier_day-best.result c.own_day-own.result z) (sym held) ∙ sym c.if-is_settled.ensures in
    least-settled (OwnDay list rule) (own_rises list (g.met.C.Calendar.lawful c.args.calendar.now) rule) moves c.args.first c.args.last s inv.0 c.earlier_day-best.result c.own_day-own.result
    c.reach-reach.result c.reach-reach.ensures.reach next there settled

pub loop-year-preserved : goal.loop-year-preserved
loop-year-preserved g c =
    let list = (g.C.Calendar.system c.args.calendar.now).list in
    let rule = rule_said c.args.observance.rule in
    let s = c.args.steps in
    let moves = c.args.observance.moves.days in
    let inv = c.loop-year.invariant in
    let year = to_z w32 c.loop-year.year-bits in
    let fits_last : FitsSigned w32 s.last = search rules in
    let last : to_z w32 (of_z w32 s.last) ≡ s.last = omega (arith, signed) in
    let le : year ≤ℤ s.last = omega (arith, signed, c.loop-year-test.true, last) in
    let next = least-step (OwnDay list rule) (own_rises list (g.met.C.Calendar.lawful c.args.calendar.now) rule) moves c.args.first c.args.last s inv.0 year c.loop-year.best c.own_day-own.result
    c.moved_between.result c.earlier_day-best.result inv.1 le inv.2 c.own_day-own.ensures c.moved_between.ensures c.earlier_day-best.ensures in
    let by : to_z w32 (of_z w32 c.from-year.result) ≡ pos s.every = omega (arith, signed, c.from-year.ensures, c.requires.some) in
    let fits : FitsSigned w32 year = search rules in
    let sum : to_z w32 (of_z w32 (year +ℤ to_z w32 (of_z w32 c.from-year.result))) ≡ year +ℤ pos s.every = omega (arith, signed, by, le, fits, c.requires.some, c.requires.high) in
    (inv.0 + 1, sum ∙ (ap (λ (z : ℤ). z +ℤ pos s.every) inv.1 ∙ sym (step_next s inv.0)), next)

pub loop-year-smaller : goal.loop-year-smaller
loop-year-smaller g c =
    let s = c.args.steps in
    let year = to_z w32 c.loop-year.year-bits in
    let fits_last : FitsSigned w32 s.last = search rules in
    let last : to_z w32 (of_z w32 s.last) ≡ s.last = omega (arith, signed) in
    let le : year ≤ℤ s.last = omega (arith, signed, c.loop-year-test.true, last) in
    let by : to_z w32 (of_z w32 c.from-year.result) ≡ pos s.every = omega (arith, signed, c.from-year.ensures, c.requires.some) in
    let fits : FitsSigned w32 year = search rules in
    let sum : to_z w32 (of_z w32 (year +ℤ to_z w32 (of_z w32 c.from-year.result))) ≡ year +ℤ pos s.every = omega (arith, signed, by, le, fits, c.requires.some, c.requires.high) in
    let later : year <ℤ to_z w32 (of_z w32 (year +ℤ to_z w32 (of_z w32 c.from-year.result))) = omega (arith, signed, sum, c.requires.some) in
    left_falls year (to_z w32 (of_z w32 (year +ℤ to_z w32 (of_z w32 c.from-year.result)))) s.last later le

pub returns : goal.returns
returns g c =
    let list = (g.C.Calendar.system c.args.calendar.now).list in
    let rule = rule_said c.args.observance.rule in
    let s = c.args.steps in
    let inv = c.loop-year.invariant in
    let year = to_z w32 c.loop-year.year-bits in
    let fits_last : FitsSigned w32 s.last = search rules in
    let last : to_z w32 (of_z w32 s.last) ≡ s.last = omega (arith, signed) in
    let past : s.last <ℤ step_year s inv.0 = omega (arith, signed, c.loop-year-test.false, last, inv.1) in
    least-ended (OwnDay list rule) (own_rises list (g.met.C.Calendar.lawful c.args.calendar.now) rule) c.args.observance.moves.days c.args.first c.args.last s inv.0 c.loop-year.best past inv.2
