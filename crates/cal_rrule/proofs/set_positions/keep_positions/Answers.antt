use Rattle.std.proofs.Common.{◌≡◌, true, false, rules}
use Rattle.cal_rule.specs.Sets.{has_place}
use Rattle.cal_rrule.specs.Periods.{IsMissing}
use Rattle.cal_rrule.proofs.AskedLemmas.{there-by}
use Rattle.cal_rrule.proofs.PositionLemmas.{all-kept, placed-kept}
use Rattle.cal_rrule.proofs.set_positions.keep_positions.Goals as goal

pub returns-then-asked-clause-kept : goal.returns-then-asked-clause-kept
returns-then-asked-clause-kept c = λ list t k is.
    let a = c.args.asked.now in
    let lacks : a.missing.positions ≡ true = search rules in
    all-kept list a.rule t k c.args.days.now is (c.requires.no_positions.0 lacks)

pub returns-clause-kept : goal.returns-clause-kept
returns-clause-kept c = λ list t k is.
    let a = c.args.asked.now in
    let fails : a.missing.positions ≡ false = search rules in
    placed-kept list a.rule t k c.args.days.now is c.positions.result.now c.keep_places.result
    (there-by (IsMissing has_place a.rule.positions) a.missing.positions c.requires.no_positions fails)
    c.positions.ensures c.keep_places.ensures.days
