use Rattle.std.proofs.Common.{◌≡◌, ◌∙◌, Some, None, sym, ap, arith, to_z, of_z, w64, ℤ}
use Rattle.cal_days.proofs.Signed.{signed}
use Rattle.recurrence_sets.specs.Occurrences.{IsOfSome}
use Rattle.cal_holidays.specs.Moving.{is_settled}
use Rattle.cal_holidays.proofs.MovingLemmas.{least-valid}
use Rattle.cal_holidays.proofs.RepeatedLemmas.{Passed, goes-with, item-valid, left-among, passed-ended, passed-next, passed-settled}
use Rattle.cal_holidays.proofs.first_repeated.first_of.Goals as goal

pub moved_if_kept-moved-requires-clause-own : goal.moved_if_kept-moved-requires-clause-own
moved_if_kept-moved-requires-clause-own g c =
    let now = c.items.items in
    item-valid (IsOfSome (g.S.Periods.has now.periods)) now.bounds now.rest c.next_of.new.items.rest c.in-Some.item
    c.in-Some.ensures.gives.0

pub is_settled-requires-clause-best : goal.is_settled-requires-clause-best
is_settled-requires-clause-best g c =
    let a = c.args in
    let list = (g.C.Calendar.system a.calendar.now).list in
    let s = a.items.now in
    let is = IsOfSome (g.S.Periods.has s.periods) in
    let inv = c.items.invariant in
    let now = c.items.items in
    let left = c.next_of.new.items in
    let goes = goes-with (λ p. IsOfSome (g.S.Periods.has p)) now.periods s.periods left.periods now.bounds s.bounds
    left.bounds now.rest left.rest (Some c.in-Some.item) inv.0 inv.1 c.in-Some.ensures.gives in
    let best = c.earlier_day-best in
    let next = passed-next is s.bounds list a.years a.moves.days a.first a.last s.rest now.rest left.rest c.in-Some.item
    c.items.best c.moved_if_kept-moved.result best.result goes.0 inv.2 inv.3 c.moved_if_kept-moved.ensures
    best.ensures in
    least-valid a.first a.last (Passed list is s.bounds a.years a.moves.days s.rest left.rest) best.result
    c.requires.from c.requires.to next

pub returns-then-is_settled : goal.returns-then-is_settled
returns-then-is_settled g c =
    let a = c.args in
    let list = (g.C.Calendar.system a.calendar.now).list in
    let s = a.items.now in
    let is = IsOfSome (g.S.Periods.has s.periods) in
    let inv = c.items.invariant in
    let now = c.items.items in
    let left = c.next_of.new.items in
    let item = c.in-Some.item in
    let goes = goes-with (λ p. IsOfSome (g.S.Periods.has p)) now.periods s.periods left.periods now.bounds s.bounds
    left.bounds now.rest left.rest (Some item) inv.0 inv.1 c.in-Some.ensures.gives in
    let best = c.earlier_day-best in
    let next = passed-next is s.bounds list a.years a.moves.days a.first a.last s.rest now.rest left.rest item
    c.items.best c.moved_if_kept-moved.result best.result goes.0 inv.2 inv.3 c.moved_if_kept-moved.ensures
    best.ensures in
    let reach = c.reach-reach in
    let held : to_z w64 (of_z w64 reach.result) ≡ reach.result = omega (arith, signed, reach.ensures.range) in
    let settled = ap (λ (z : ℤ). is_settled best.result (Some item.day) z) (sym held) ∙ sym c.if-is_settled.ensures in
    passed-settled is s.bounds list a.years a.moves.days a.first a.last s.rest now.rest left.rest item best.result
    reach.result reach.ensures.reach goes.0 next settled

pub items-preserved : goal.items-preserved
items-preserved g c =
    let a = c.args in
    let list = (g.C.Calendar.system a.calendar.now).list in
    let s = a.items.now in
    let is = IsOfSome (g.S.Periods.has s.periods) in
    let inv = c.items.invariant in
    let now = c.items.items in
    let left = c.next_of.new.items in
    let item = c.in-Some.item in
    let goes = goes-with (λ p. IsOfSome (g.S.Periods.has p)) now.periods s.periods left.periods now.bounds s.bounds
    left.bounds now.rest left.rest (Some item) inv.0 inv.1 c.in-Some.ensures.gives in
    let best = c.earlier_day-best in
    let next = passed-next is s.bounds list a.years a.moves.days a.first a.last s.rest now.rest left.rest item
    c.items.best c.moved_if_kept-moved.result best.result goes.0 inv.2 inv.3 c.moved_if_kept-moved.ensures
    best.ensures in
    (goes.1, goes.2, left-among is s.bounds now.rest left.rest s.rest item goes.0 inv.2, next)

pub returns : goal.returns
returns g c =
    let a = c.args in
    let list = (g.C.Calendar.system a.calendar.now).list in
    let s = a.items.now in
    let is = IsOfSome (g.S.Periods.has s.periods) in
    let inv = c.items.invariant in
    let now = c.items.items in
    let left = c.next_of.new.items in
    let goes = goes-with (λ p. IsOfSome (g.S.Periods.has p)) now.periods s.periods left.periods now.bounds s.bounds
    left.bounds now.rest left.rest None inv.0 inv.1 c.in_default.ensures.gives in
    passed-ended is s.bounds list a.years a.moves.days a.first a.last s.rest now.rest left.rest c.items.best
    goes.0 inv.3
