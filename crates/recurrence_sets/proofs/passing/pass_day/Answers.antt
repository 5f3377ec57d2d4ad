use Rattle.std.proofs.Common.{subst, arith}
use Rattle.cal_days.proofs.Signed.{signed}
use Rattle.recurrence_sets.specs.Days.{IsFirstBetween}
use Rattle.recurrence_sets.specs.Occurrences.{IsOfSome}
use Rattle.recurrence_sets.proofs.PassingLemmas.{pass-none, pass-some}
use Rattle.recurrence_sets.proofs.passing.pass_day.Goals as goal

pub returns-in-Some-clause-passed : goal.returns-in-Some-clause-passed
returns-in-Some-clause-passed g c =
    let Has = g.S.Periods.has c.args.periods.now in
    let p = c.args.passed.now in
    let look = c.next_day-looks.ensures in
    let found = c.in-Some.ensures.0 in
    pass-some Has c.args.last p c.requires.passed c.next_day-looks.result.0 look.looks look.passed c.in-Some.found c.new.result
    (subst (IsFirstBetween (IsOfSome Has) p.next c.args.last) found look.day)
    (omega (arith, signed, c.new.ensures, c.to_i64_date.ensures.value, c.to_i64_date.ensures.range))

pub returns-in-None-clause-passed : goal.returns-in-None-clause-passed
returns-in-None-clause-passed g c =
    let Has = g.S.Periods.has c.args.periods.now in
    let look = c.next_day-looks.ensures in
    pass-none Has c.args.last c.args.passed.now c.requires.passed c.next_day-looks.result.0 look.looks look.passed c.args.day c.next_day-looks.result.1
    (omega (arith, signed, c.requires.some)) c.requires.days.order look.day c.in-None.ensures
