use Rattle.std.proofs.Common.{◌∙◌, ℤ, pos, ◌+ℤ◌, ◌≤ℤ◌, ◌<ℤ◌, sym, subst}
use Rattle.cal_days.specs.Day.{IsFieldYear}
use Rattle.cal_rrule.proofs.WordLemmas.{few-years, field-between, first-near, next-year, not-later, not-less, number-word, own-order}
use Rattle.cal_rrule.proofs.YearStepLemmas.{begins-next, found-numbered, found-own}
use Rattle.cal_rrule.proofs.year_steps.year_within.Goals as goal

pub number_after-number-requires-clause-few : goal.number_after-number-requires-clause-few
number_after-number-requires-clause-few g c =
    few-years c.args.look.now.year c.args.high.now.year c.args.years c.requires.field c.requires.high_field c.requires.most

pub returns-then-ends_behind : goal.returns-then-ends_behind
returns-then-ends_behind g c =
    let list = (g.C.Calendar.system c.args.calendar.now).list in
    let look = c.args.look.now in
    let high = c.args.high.now in
    let next = next-year look.year high.year c.number_after-number.result c.from.result c.args.years c.number_after-number.ensures
    c.from.ensures c.requires.field c.requires.high_field c.requires.most c.if-number-from.true in
    let begins = begins-next list high (look.year +ℤ pos c.args.years) c.requires.high next in
    subst (λ (d : ℤ). (c.args.last +ℤ pos 1) <ℤ d) (sym begins) (c.ends_behind.ensures.0 c.if-ends_behind.true)

pub year_after-requires-clause-near : goal.year_after-requires-clause-near
year_after-requires-clause-near g c =
    let high = c.args.high.now in
    first-near high.first c.args.last high.days c.requires.within.0 c.requires.within.1 high.short c.requires.last

pub returns-then-number-from : goal.returns-then-number-from
returns-then-number-from g c =
    let look = c.args.look.now in
    let high = c.args.high.now in
    let next = next-year look.year high.year c.number_after-number.result c.from.result c.args.years c.number_after-number.ensures
    c.from.ensures c.requires.field c.requires.high_field c.requires.most c.if-number-from.true in (
      c.year_after.ensures.look,
      c.year_after.ensures.year ∙ sym next,
      subst (λ (d : ℤ). d ≤ℤ (c.args.last +ℤ pos 1)) (sym c.year_after.ensures.joins)
          (not-less _ _ c.ends_behind.result c.ends_behind.ensures c.if-ends_behind.false),
    )

pub returns-then-years-eq0 : goal.returns-then-years-eq0
returns-then-years-eq0 g c =
    let list = (g.C.Calendar.system c.args.calendar.now).list in
    let look = c.args.look.now in
    let high = c.args.high.now in
    let order = not-later look.year high.year c.number_after-number.result c.from.result c.args.years c.number_after-number.ensures
    c.from.ensures c.requires.field c.requires.high_field c.requires.most c.if-number-from.false in
    found-own list look high c.args.years c.args.last c.requires.look c.requires.high c.requires.within c.if-years-eq0.true
    (own-order look.year high.year c.args.years order)

pub year_numbered-requires-clause-low : goal.year_numbered-requires-clause-low
year_numbered-requires-clause-low g c =
    let look = c.args.look.now in
    let high = c.args.high.now in
    let order = not-later look.year high.year c.number_after-number.result c.from.result c.args.years c.number_after-number.ensures
    c.from.ensures c.requires.field c.requires.high_field c.requires.most c.if-number-from.false in
    let field = field-between look.year high.year c.args.years c.requires.field c.requires.high_field order in
    (subst IsFieldYear (sym (number-word c.number_after-number.result _ c.number_after-number.ensures field)) field).0

pub year_numbered-requires-clause-high : goal.year_numbered-requires-clause-high
year_numbered-requires-clause-high g c =
    let look = c.args.look.now in
    let high = c.args.high.now in
    let order = not-later look.year high.year c.number_after-number.result c.from.result c.args.years c.number_after-number.ensures
    c.from.ensures c.requires.field c.requires.high_field c.requires.most c.if-number-from.false in
    let field = field-between look.year high.year c.args.years c.requires.field c.requires.high_field order in
    (subst IsFieldYear (sym (number-word c.number_after-number.result _ c.number_after-number.ensures field)) field).1

pub returns : goal.returns
returns g c =
    let list = (g.C.Calendar.system c.args.calendar.now).list in
    let look = c.args.look.now in
    let high = c.args.high.now in
    let order = not-later look.year high.year c.number_after-number.result c.from.result c.args.years c.number_after-number.ensures
    c.from.ensures c.requires.field c.requires.high_field c.requires.most c.if-number-from.false in
    let field = field-between look.year high.year c.args.years c.requires.field c.requires.high_field order in
    found-numbered list look high c.args.years _ c.args.last c.requires.look c.requires.high c.requires.within c.requires.low
    c.requires.last c.if-years-eq0.false order (number-word c.number_after-number.result _ c.number_after-number.ensures field)
    c.year_numbered.result c.year_numbered.ensures

pub year_after-requires-clause-nearby : goal.year_after-requires-clause-nearby
year_after-requires-clause-nearby g c = c.requires.nearby
