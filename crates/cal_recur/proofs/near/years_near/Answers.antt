use Rattle.std.proofs.Common.{◌≡◌, to_z, of_z, w32, nat_abs, arith, pos, ◌+ℤ◌, ◌-ℤ◌}
use Rattle.cal_days.proofs.Signed.{signed, signed_casts}
use Rattle.cal_recur.proofs.IndexLemmas.{years-near}
use Rattle.cal_recur.proofs.near.years_near.Goals as goal

pub returns-then-last-first : goal.returns-then-last-first
returns-then-last-first g c =
    let s = g.C.Calendar.system c.args.calendar.now in
    let t = g.C.Calendar.date_of c.args.calendar.now c.args.start.now in
    let u = g.C.Calendar.date_of c.args.calendar.now c.from_rata_die-target.result in
    let law = g.met.C.Calendar.lawful c.args.calendar.now in
    let dated = g.met.C.Calendar.dated c.args.calendar.now c.args.start.now c.requires.belongs in
    let first = g.met.C.Calendar.ranged c.args.calendar.now t dated in
    let last = g.met.C.Calendar.ranged c.args.calendar.now u (g.met.C.Calendar.dated c.args.calendar.now c.from_rata_die-target.result c.from_rata_die-target.ensures.belongs) in
    years-near s law t u dated.date c.args.day c.from_rata_die-target.ensures.on 0
    (omega (arith, signed, c.if-last-first.true, c.extended_year-first.ensures, c.extended_year-last.ensures, first, last)) (λ some. absurd (omega arith))

pub overflow_sub-result : goal.overflow_sub-result
overflow_sub-result g c =
    let s = g.C.Calendar.system c.args.calendar.now in
    let t = g.C.Calendar.date_of c.args.calendar.now c.args.start.now in
    let u = g.C.Calendar.date_of c.args.calendar.now c.from_rata_die-target.result in
    let law = g.met.C.Calendar.lawful c.args.calendar.now in
    let dated = g.met.C.Calendar.dated c.args.calendar.now c.args.start.now c.requires.belongs in
    let first = g.met.C.Calendar.ranged c.args.calendar.now t dated in
    let last = g.met.C.Calendar.ranged c.args.calendar.now u (g.met.C.Calendar.dated c.args.calendar.now c.from_rata_die-target.result c.from_rata_die-target.ensures.belongs) in
    omega (arith, signed, c.extended_year-first.ensures, c.extended_year-last.ensures, first, last)

pub overflow_cast-result : goal.overflow_cast-result
overflow_cast-result g c =
    let s = g.C.Calendar.system c.args.calendar.now in
    let t = g.C.Calendar.date_of c.args.calendar.now c.args.start.now in
    let u = g.C.Calendar.date_of c.args.calendar.now c.from_rata_die-target.result in
    let law = g.met.C.Calendar.lawful c.args.calendar.now in
    let dated = g.met.C.Calendar.dated c.args.calendar.now c.args.start.now c.requires.belongs in
    let first = g.met.C.Calendar.ranged c.args.calendar.now t dated in
    let last = g.met.C.Calendar.ranged c.args.calendar.now u (g.met.C.Calendar.dated c.args.calendar.now c.from_rata_die-target.result c.from_rata_die-target.ensures.belongs) in (
      omega (arith, signed, c.if-last-first.false, c.extended_year-first.ensures, c.extended_year-last.ensures, first, last),
      omega (arith, signed_casts, c.if-last-first.false, c.extended_year-first.ensures, c.extended_year-last.ensures, first, last),
    )

pub returns : goal.returns
returns g c =
    let s = g.C.Calendar.system c.args.calendar.now in
    let t = g.C.Calendar.date_of c.args.calendar.now c.args.start.now in
    let u = g.C.Calendar.date_of c.args.calendar.now c.from_rata_die-target.result in
    let law = g.met.C.Calendar.lawful c.args.calendar.now in
    let dated = g.met.C.Calendar.dated c.args.calendar.now c.args.start.now c.requires.belongs in
    let first = g.met.C.Calendar.ranged c.args.calendar.now t dated in
    let last = g.met.C.Calendar.ranged c.args.calendar.now u (g.met.C.Calendar.dated c.args.calendar.now c.from_rata_die-target.result c.from_rata_die-target.ensures.belongs) in
    let years : u.year ≡ t.year +ℤ pos (nat_abs (to_z w32 (of_z w32 (to_z w32 (of_z w32 c.extended_year-last.result) -ℤ to_z w32 (of_z w32 c.extended_year-first.result))))) =
    omega (arith, signed_casts, c.if-last-first.false, c.extended_year-first.ensures, c.extended_year-last.ensures, first, last) in
    years-near s law t u dated.date c.args.day c.from_rata_die-target.ensures.on (nat_abs (to_z w32 (of_z w32 (to_z w32 (of_z w32 c.extended_year-last.result) -ℤ to_z w32 (of_z w32 c.extended_year-first.result)))))
    (omega (arith, signed, years)) (λ _. years)
