use Rattle.std.proofs.Common.{◌≡◌, [], Some, None, arith, subst, sym, to_z, of_z, w64, ℤ}
use Rattle.cal_days.proofs.Signed.{signed}
use Rattle.cal_rrule.specs.Blocks.{IsOfBlock, start_of}
use Rattle.recurrence_sets.specs.Occurrences.{IsOfSome}
use Rattle.cal_holidays.specs.FirstRepeated.{IsAround}
use Rattle.cal_holidays.specs.Moving.{IsLeast}
use Rattle.cal_holidays.specs.RepeatedDays.{RepeatsOn, repeated_said}
use Rattle.cal_holidays.proofs.RepeatedLemmas.{repeated-first, repeated-none}
use Rattle.cal_holidays.proofs.first_repeated.first_repeated.Goals as goal

pub returns-in_err-window : goal.returns-in_err-window
returns-in_err-window g c =
    let a = c.args in
    let list = (g.C.Calendar.system a.calendar).list in
    let said = repeated_said a.repeated.now in
    let reach = c.reach in
    let held : to_z w64 (of_z w64 reach.result) ≡ reach.result = omega (arith, signed, reach.ensures.range) in
    let none = subst (λ (z : ℤ). IsAround a.first a.last z None) held c.in_err-window.ensures in
    subst (IsLeast (RepeatsOn list said a.years a.moves.days) a.first a.last) (sym c.from_residual.ensures)
    (repeated-none list said a.years a.moves.days a.first a.last reach.result reach.ensures.reach none)

pub returns : goal.returns
returns g c =
    let a = c.args in
    let list = (g.C.Calendar.system a.calendar).list in
    let r = a.repeated.now in
    let start = c.from_rata_die-start in
    let t = g.C.Calendar.date_of a.calendar start.result in
    let found = c.occurrence_days-items.result in
    let says = c.occurrence_days-items.ensures in
    let p = found.periods in
    let is = IsOfSome (IsOfBlock (g.C.Calendar.system p.calendar).list p.asked.rule (start_of p.asked)) in
    let w = c.in_ok-window.window in
    let reach = c.reach in
    let held : to_z w64 (of_z w64 reach.result) ≡ reach.result = omega (arith, signed, reach.ensures.range) in
    let around = subst (λ (z : ℤ). IsAround a.first a.last z (Some w)) held c.in_ok-window.ensures in
    repeated-first list (g.met.C.Calendar.lawful a.calendar) (repeated_said r) r.rule t r.spelled start.ensures.on is
    found.bounds says.days w says.bounds found.rest says.rest (says.items []).0 a.years a.moves.days a.first a.last
    reach.result c.first_of.result reach.ensures.reach around c.first_of.ensures
