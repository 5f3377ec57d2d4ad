use Rattle.std.proofs.Common.{pos, ◌+ℤ◌}
use Rattle.cal_rrule.proofs.WordLemmas.{held-valid, next-least, next-more, next-own, not-less}
use Rattle.cal_rrule.proofs.YearStepLemmas.{begins-behind, last-year}
use Rattle.cal_rrule.proofs.year_steps.years_after.Goals as goal

pub years_to_next-requires-clause-high : goal.years_to_next-requires-clause-high
years_to_next-requires-clause-high g c =
    (last-year (g.C.Calendar.system c.args.calendar.now).list (g.met.C.Calendar.lawful c.args.calendar.now)
    (g.met.C.Calendar.ranged c.args.calendar.now) c.year_of-high.result c.to_i64_date.result c.args.last c.to_i64_date.ensures.value
    c.requires.last c.year_of-high.ensures.look c.year_of-high.ensures.within).1

pub returns-then-is_more : goal.returns-then-is_more
returns-then-is_more g c =
    let list = (g.C.Calendar.system c.args.calendar.now).list in
    let law = g.met.C.Calendar.lawful c.args.calendar.now in
    let look = c.args.look.now in
    let high = c.year_of-high.result in
    let is = c.year_of-high.ensures in
    let own = last-year list law (g.met.C.Calendar.ranged c.args.calendar.now) high c.to_i64_date.result c.args.last
    c.to_i64_date.ensures.value c.requires.last is.look is.within in
    let same = next-own c.years_to_next.result look.year high.year c.years_to_next.ensures c.requires.field own.1 in
    begins-behind list law high c.args.last (look.year +ℤ pos c.args.years) is.look own.0
    (next-more _ c.years_to_next.result look.year high.year c.args.years same c.years_to_next.ensures (c.is_more.ensures.0 c.if-is_more.true))

pub year_within-requires-clause-within : goal.year_within-requires-clause-within
year_within-requires-clause-within g c =
    (last-year (g.C.Calendar.system c.args.calendar.now).list (g.met.C.Calendar.lawful c.args.calendar.now)
    (g.met.C.Calendar.ranged c.args.calendar.now) c.year_of-high.result c.to_i64_date.result c.args.last c.to_i64_date.ensures.value
    c.requires.last c.year_of-high.ensures.look c.year_of-high.ensures.within).0

pub year_within-requires-clause-high_field : goal.year_within-requires-clause-high_field
year_within-requires-clause-high_field g c =
    (last-year (g.C.Calendar.system c.args.calendar.now).list (g.met.C.Calendar.lawful c.args.calendar.now)
    (g.met.C.Calendar.ranged c.args.calendar.now) c.year_of-high.result c.to_i64_date.result c.args.last c.to_i64_date.ensures.value
    c.requires.last c.year_of-high.ensures.look c.year_of-high.ensures.within).1

pub year_within-requires-clause-most : goal.year_within-requires-clause-most
year_within-requires-clause-most g c =
    let look = c.args.look.now in
    let high = c.year_of-high.result in
    let is = c.year_of-high.ensures in
    let own = last-year (g.C.Calendar.system c.args.calendar.now).list (g.met.C.Calendar.lawful c.args.calendar.now)
    (g.met.C.Calendar.ranged c.args.calendar.now) high c.to_i64_date.result c.args.last c.to_i64_date.ensures.value
    c.requires.last is.look is.within in
    let same = next-own c.years_to_next.result look.year high.year c.years_to_next.ensures c.requires.field own.1 in
    next-least _ c.years_to_next.result look.year high.year c.args.years same c.years_to_next.ensures
    (not-less _ _ c.is_more.result c.is_more.ensures c.if-is_more.false)

pub year_of-high-requires-clause-low : goal.year_of-high-requires-clause-low
year_of-high-requires-clause-low g c = (held-valid c.to_i64_date.result c.args.last c.to_i64_date.ensures.value c.requires.last).0

pub year_of-high-requires-clause-high : goal.year_of-high-requires-clause-high
year_of-high-requires-clause-high g c = (held-valid c.to_i64_date.result c.args.last c.to_i64_date.ensures.value c.requires.last).1

pub year_within-requires-clause-nearby : goal.year_within-requires-clause-nearby
year_within-requires-clause-nearby g c = c.requires.nearby
