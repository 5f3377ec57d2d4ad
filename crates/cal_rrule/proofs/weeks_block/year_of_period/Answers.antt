use Rattle.std.proofs.Common.{◌+◌, ◌-◌, ◌+ℤ◌, pos, refl, sym, ap, ℤ}
use Rattle.cal_rrule.proofs.WeeksBlockLemmas.{week-before, week-behind, week-own, within-same}
use Rattle.cal_rrule.proofs.WordLemmas.{before-near, before-none, before-same, behind-same, first-near, fourth-early, fourth-far, fourth-from, fourth-within, held-valid}
use Rattle.cal_rrule.proofs.YearStepLemmas.{last-year}
use Rattle.cal_rrule.proofs.weeks_block.year_of_period.Goals as goal

pub returns-then-fourth-end : goal.returns-then-fourth-end
returns-then-fourth-end g c = λ w y is belongs.
    let list = (g.C.Calendar.system c.args.calendar.now).list in
    let law = g.met.C.Calendar.lawful c.args.calendar.now in
    let a = c.args.asked.now in
    let own = c.year_of-own.result in
    let look = c.year_of-own.ensures.look in
    let in_own = last-year list law (g.met.C.Calendar.ranged c.args.calendar.now) own a.day a.day refl c.requires.valid look c.year_of-own.ensures.within in
    let far = fourth-far own.first c.fourth_day-fourth.result c.end.result w a.day own.days own.near own.short (c.fourth_day-fourth.ensures w is)
    c.end.ensures is.1 is.2 c.requires.valid c.if-fourth-end.true in
    let same = week-behind list law own a.day w y look in_own.0 is.1 is.2 belongs far in
    within-same list (own.year +ℤ pos (c.args.years + 1)) (y +ℤ pos c.args.years) c.args.last c.year_reached.result
    (behind-same own.year y c.args.years same) c.year_reached.ensures

pub returns-then-fourth-own : goal.returns-then-fourth-own
returns-then-fourth-own g c = λ w y is belongs.
    let list = (g.C.Calendar.system c.args.calendar.now).list in
    let law = g.met.C.Calendar.lawful c.args.calendar.now in
    let a = c.args.asked.now in
    let own = c.year_of-own.result in
    let look = c.year_of-own.ensures.look in
    let in_own = last-year list law (g.met.C.Calendar.ranged c.args.calendar.now) own a.day a.day refl c.requires.valid look c.year_of-own.ensures.within in
    let fourth = c.fourth_day-fourth.ensures w is in
    let to = fourth-within own.first c.fourth_day-fourth.result c.end.result w a.day own.days own.near own.short fourth
    c.end.ensures is.1 is.2 c.requires.valid c.if-fourth-end.false in
    let from = fourth-from own.first c.fourth_day-fourth.result c.end.result w a.day own.days own.near own.short fourth
    c.end.ensures is.1 is.2 c.requires.valid c.if-fourth-own.true in
    let same = week-own list law own a.day w y look in_own.0 is.1 is.2 belongs from to in
    within-same list (own.year +ℤ pos c.args.years) (y +ℤ pos c.args.years) c.args.last c.year_reached-then-fourth-own.result
    (ap (λ (z : ℤ). z +ℤ pos c.args.years) (sym same)) c.year_reached-then-fourth-own.ensures

pub returns-then-years-eq0 : goal.returns-then-years-eq0
returns-then-years-eq0 g c = λ w y is belongs.
    let list = (g.C.Calendar.system c.args.calendar.now).list in
    let law = g.met.C.Calendar.lawful c.args.calendar.now in
    let a = c.args.asked.now in
    let own = c.year_of-own.result in
    let look = c.year_of-own.ensures.look in
    let in_own = last-year list law (g.met.C.Calendar.ranged c.args.calendar.now) own a.day a.day refl c.requires.valid look c.year_of-own.ensures.within in
    let early = fourth-early own.first c.fourth_day-fourth.result c.end.result w a.day own.days own.near own.short (c.fourth_day-fourth.ensures w is)
    c.end.ensures is.1 is.2 c.requires.valid c.if-fourth-own.false in
    let same = week-before list law own a.day w y look in_own.0 is.1 is.2 belongs early in
    let before = c.year_before.result in (
      c.year_before.ensures.look,
      before-none own.year y before.year c.args.years same c.year_before.ensures.year c.if-years-eq0.true,
      before-near before.first own.first w a.day before.days c.year_before.ensures.joins before.short in_own.0.0 early is.2 c.requires.valid,
    )

pub returns : goal.returns
returns g c = λ w y is belongs.
    let list = (g.C.Calendar.system c.args.calendar.now).list in
    let law = g.met.C.Calendar.lawful c.args.calendar.now in
    let a = c.args.asked.now in
    let own = c.year_of-own.result in
    let look = c.year_of-own.ensures.look in
    let in_own = last-year list law (g.met.C.Calendar.ranged c.args.calendar.now) own a.day a.day refl c.requires.valid look c.year_of-own.ensures.within in
    let early = fourth-early own.first c.fourth_day-fourth.result c.end.result w a.day own.days own.near own.short (c.fourth_day-fourth.ensures w is)
    c.end.ensures is.1 is.2 c.requires.valid c.if-fourth-own.false in
    let same = week-before list law own a.day w y look in_own.0 is.1 is.2 belongs early in
    within-same list (own.year +ℤ pos (c.args.years - 1)) (y +ℤ pos c.args.years) c.args.last c.year_reached-2.result
    (before-same own.year y c.args.years same c.if-years-eq0.false) c.year_reached-2.ensures

pub year_reached-requires-clause-field : goal.year_reached-requires-clause-field
year_reached-requires-clause-field g c =
    let a = c.args.asked.now in
    (last-year (g.C.Calendar.system c.args.calendar.now).list (g.met.C.Calendar.lawful c.args.calendar.now)
    (g.met.C.Calendar.ranged c.args.calendar.now) c.year_of-own.result a.day a.day refl c.requires.valid c.year_of-own.ensures.look
    c.year_of-own.ensures.within).1

pub year_reached-requires-then-fourth-own-clause-field : goal.year_reached-requires-then-fourth-own-clause-field
year_reached-requires-then-fourth-own-clause-field g c =
    let a = c.args.asked.now in
    (last-year (g.C.Calendar.system c.args.calendar.now).list (g.met.C.Calendar.lawful c.args.calendar.now)
    (g.met.C.Calendar.ranged c.args.calendar.now) c.year_of-own.result a.day a.day refl c.requires.valid c.year_of-own.ensures.look
    c.year_of-own.ensures.within).1

pub year_reached-requires-2-clause-field : goal.year_reached-requires-2-clause-field
year_reached-requires-2-clause-field g c =
    let a = c.args.asked.now in
    (last-year (g.C.Calendar.system c.args.calendar.now).list (g.met.C.Calendar.lawful c.args.calendar.now)
    (g.met.C.Calendar.ranged c.args.calendar.now) c.year_of-own.result a.day a.day refl c.requires.valid c.year_of-own.ensures.look
    c.year_of-own.ensures.within).1

pub year_of-own-requires-clause-low : goal.year_of-own-requires-clause-low
year_of-own-requires-clause-low g c = (held-valid c.args.asked.now.day c.args.asked.now.day refl c.requires.valid).0

pub year_of-own-requires-clause-high : goal.year_of-own-requires-clause-high
year_of-own-requires-clause-high g c = (held-valid c.args.asked.now.day c.args.asked.now.day refl c.requires.valid).1

pub year_before-requires-clause-near : goal.year_before-requires-clause-near
year_before-requires-clause-near g c =
    let a = c.args.asked.now in
    let own = c.year_of-own.result in
    let in_own = last-year (g.C.Calendar.system c.args.calendar.now).list (g.met.C.Calendar.lawful c.args.calendar.now)
    (g.met.C.Calendar.ranged c.args.calendar.now) own a.day a.day refl c.requires.valid c.year_of-own.ensures.look
    c.year_of-own.ensures.within in
    first-near own.first a.day own.days in_own.0.0 in_own.0.1 own.short c.requires.valid

pub year_before-requires-clause-nearby : goal.year_before-requires-clause-nearby
year_before-requires-clause-nearby g c = c.requires.nearby

pub year_reached-requires-clause-nearby : goal.year_reached-requires-clause-nearby
year_reached-requires-clause-nearby g c = c.requires.nearby

pub year_reached-requires-then-fourth-own-clause-nearby : goal.year_reached-requires-then-fourth-own-clause-nearby
year_reached-requires-then-fourth-own-clause-nearby g c = c.requires.nearby

pub year_reached-requires-2-clause-nearby : goal.year_reached-requires-2-clause-nearby
year_reached-requires-2-clause-nearby g c = c.requires.nearby
