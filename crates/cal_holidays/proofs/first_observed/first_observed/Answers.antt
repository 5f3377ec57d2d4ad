use Rattle.std.proofs.Common.{◌≡◌, ◌+ℤ◌, ◌-ℤ◌, arith, to_z, of_z, w64}
use Rattle.cal_days.proofs.Signed.{signed}
use Rattle.cal_types.proofs.DateTests.{and-left, and-right}
use Rattle.cal_holidays.specs.Observing.{are_proper_years}
use Rattle.cal_holidays.specs.Rules.{is_proper, observed}
use Rattle.cal_holidays.proofs.ObservedLemmas.{first-observed}
use Rattle.cal_holidays.proofs.first_observed.first_observed.Goals as goal

pub steps_in-steps-requires-clause-proper : goal.steps_in-steps-requires-clause-proper
steps_in-steps-requires-clause-proper g c =
    let o = observed c.args.observance in
    and-left (are_proper_years o.years) _ (and-right (is_proper o.rule) _ c.requires.proper)

pub steps_in-steps-requires-clause-low : goal.steps_in-steps-requires-clause-low
steps_in-steps-requires-clause-low g c = c.own_years-span.ensures.low

pub returns : goal.returns
returns g c =
    let s = c.args.calendar.now in
    let r = c.reach-reach.result in
    let near : to_z w64 (of_z w64 r) ≡ r = omega (arith, signed, c.reach-reach.ensures.range) in
    let first : to_z w64 (of_z w64 c.to_i64_date.result) ≡ c.args.first = omega (arith, signed, c.to_i64_date.ensures.value, c.requires.from) in
    let last : to_z w64 (of_z w64 c.to_i64_date-2.result) ≡ c.args.last = omega (arith, signed, c.to_i64_date-2.ensures.value, c.requires.to) in
    let from : to_z w64 (of_z w64 (to_z w64 (of_z w64 c.to_i64_date.result) -ℤ to_z w64 (of_z w64 r))) ≡ c.args.first -ℤ r
    = omega (arith, signed, near, first, c.requires.from, c.reach-reach.ensures.range) in
    let to : to_z w64 (of_z w64 (to_z w64 (of_z w64 c.to_i64_date-2.result) +ℤ to_z w64 (of_z w64 r))) ≡ c.args.last +ℤ r
    = omega (arith, signed, near, last, c.requires.to, c.reach-reach.ensures.range) in
    first-observed (g.C.Calendar.system s).list (g.met.C.Calendar.lawful s) (observed c.args.observance) c.args.first c.args.last _ _ r c.own_years-span.result c.steps_in-steps.result c.first_in_years.result
    c.reach-reach.ensures.reach from to c.own_years-span.ensures c.steps_in-steps.ensures c.first_in_years.ensures
