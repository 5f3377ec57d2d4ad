use Rattle.std.proofs.Common.{◌∙◌, ◌+ℤ◌, pos, sym}
use Rattle.cal_rrule.proofs.WeeksBlockLemmas.{behind-all, behind-far, behind-least}
use Rattle.cal_rrule.proofs.WordLemmas.{first-near, held-valid, never-same, next-more, next-most, next-near, next-own, not-less}
use Rattle.cal_rrule.proofs.YearStepLemmas.{last-year}
use Rattle.cal_rrule.proofs.weeks_block.year_behind.Goals as goal

pub returns-then-ends_behind : goal.returns-then-ends_behind
returns-then-ends_behind g c =
    let list = (g.C.Calendar.system c.args.calendar.now).list in
    let high = c.year_of-high.result in
    let is = c.year_of-high.ensures in
    let own = last-year list (g.met.C.Calendar.lawful c.args.calendar.now) (g.met.C.Calendar.ranged c.args.calendar.now) high
    c.to_i64_date.result c.args.last c.to_i64_date.ensures.value c.requires.last is.look is.within in
    behind-all list high (c.args.look.now.year +ℤ pos c.args.years) c.args.last is.look own.0 c.requires.behind
    (c.ends_behind.ensures.0 c.if-ends_behind.true)

pub returns-then-is_more : goal.returns-then-is_more
returns-then-is_more g c =
    let list = (g.C.Calendar.system c.args.calendar.now).list in
    let law = g.met.C.Calendar.lawful c.args.calendar.now in
    let look = c.args.look.now in
    let high = c.year_of-high.result in
    let is = c.year_of-high.ensures in
    let own = last-year list law (g.met.C.Calendar.ranged c.args.calendar.now) high
    c.to_i64_date.result c.args.last c.to_i64_date.ensures.value c.requires.last is.look is.within in
    let same = next-own c.years_to_next.result look.year high.year c.years_to_next.ensures c.requires.field own.1 in
    let far = next-more _ c.years_to_next.result look.year high.year c.args.years same c.years_to_next.ensures (c.is_more.ensures.0 c.if-is_more.true) in
    behind-far list law high (look.year +ℤ pos c.args.years) c.args.last is.look own.0 c.requires.behind
    (never-same (look.year +ℤ pos c.args.years) (high.year +ℤ pos 1) far)

pub year_after-requires-clause-near : goal.year_after-requires-clause-near
year_after-requires-clause-near g c =
    let high = c.year_of-high.result in
    let is = c.year_of-high.ensures in
    let own = last-year (g.C.Calendar.system c.args.calendar.now).list (g.met.C.Calendar.lawful c.args.calendar.now)
    (g.met.C.Calendar.ranged c.args.calendar.now) high c.to_i64_date.result c.args.last c.to_i64_date.ensures.value c.requires.last
    is.look is.within in
    first-near high.first c.args.last high.days own.0.0 own.0.1 high.short c.requires.last

pub returns : goal.returns
returns g c =
    let list = (g.C.Calendar.system c.args.calendar.now).list in
    let look = c.args.look.now in
    let high = c.year_of-high.result in
    let is = c.year_of-high.ensures in
    let own = last-year list (g.met.C.Calendar.lawful c.args.calendar.now) (g.met.C.Calendar.ranged c.args.calendar.now) high
    c.to_i64_date.result c.args.last c.to_i64_date.ensures.value c.requires.last is.look is.within in
    let same = next-own c.years_to_next.result look.year high.year c.years_to_next.ensures c.requires.field own.1 in
    let least = behind-least list high (look.year +ℤ pos c.args.years) c.args.last is.look own.0 c.requires.behind in
    let next = next-most _ c.years_to_next.result look.year high.year c.args.years same c.years_to_next.ensures
    (not-less _ _ c.is_more.result c.is_more.ensures c.if-is_more.false) least in (
      c.year_after.ensures.look,
      c.year_after.ensures.year ∙ sym next,
      next-near c.year_after.result.first _ c.args.last c.year_after.ensures.joins own.0.1
          (not-less _ _ c.ends_behind.result c.ends_behind.ensures c.if-ends_behind.false) c.requires.last,
    )

pub years_to_next-requires-clause-high : goal.years_to_next-requires-clause-high
years_to_next-requires-clause-high g c =
    (last-year (g.C.Calendar.system c.args.calendar.now).list (g.met.C.Calendar.lawful c.args.calendar.now)
    (g.met.C.Calendar.ranged c.args.calendar.now) c.year_of-high.result c.to_i64_date.result c.args.last c.to_i64_date.ensures.value
    c.requires.last c.year_of-high.ensures.look c.year_of-high.ensures.within).1

pub year_of-high-requires-clause-low : goal.year_of-high-requires-clause-low
year_of-high-requires-clause-low g c = (held-valid c.to_i64_date.result c.args.last c.to_i64_date.ensures.value c.requires.last).0

pub year_of-high-requires-clause-high : goal.year_of-high-requires-clause-high
year_of-high-requires-clause-high g c = (held-valid c.to_i64_date.result c.args.last c.to_i64_date.ensures.value c.requires.last).1

pub year_after-requires-clause-nearby : goal.year_after-requires-clause-nearby
year_after-requires-clause-nearby g c = c.requires.nearby
