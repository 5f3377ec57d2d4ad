use Rattle.std.proofs.Common.{◌≡◌, true, FitsSigned, w32, w64, to_z, of_z, sym, ap, ◌∙◌, arith}
use Rattle.cal_days.proofs.Signed.{signed_casts}
use Rattle.cal_days.specs.Day.{is_valid_day}
use Rattle.calspan_run.proofs.RuleListLemmas.{day_start}
use Rattle.calspan_run.proofs.rrule.listing.date_of_day.Goals as goal

pub returns-clause-date : goal.returns-clause-date
returns-clause-date g c =
    let s = g.C.Calendar.system c.args.calendar.now in
    let day : FitsSigned w32 c.args.day = c.ranges.day in
    let kept : to_z w32 (of_z w32 c.args.day) ≡ c.args.day = omega (arith, signed_casts, day) in
    let wide : c.from.result ≡ c.args.day = omega (arith, signed_casts, day, c.from.ensures) in
    let same : c.new.result ≡ c.args.day = omega (arith, signed_casts, day, wide, c.new.ensures) in
    let valid : is_valid_day c.args.day ≡ true = ap is_valid_day (sym kept) ∙ (sym c.is_valid.ensures ∙ c.if-not-is_valid.false) in
    day_start s (g.met.C.Calendar.lawful c.args.calendar.now) c.args.day c.new.result (g.C.Calendar.date_of c.args.calendar.now c.from_rata_die.result) same valid c.from_rata_die.ensures.on
