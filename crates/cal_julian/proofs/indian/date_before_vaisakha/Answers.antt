use Rattle.std.proofs.Common.{◌≡◌, ◌+◌, ◌≤◌, to_z, of_z, w32, ap, arith}
use Rattle.cal_days.proofs.Signed.{signed}
use Rattle.cal_days.proofs.GregorianLemmas.{leap_day}
use Rattle.cal_julian.proofs.IndianMonthLemmas.{on-first, on-last}
use Rattle.cal_julian.proofs.indian.date_before_vaisakha.Goals as goal

pub returns-then-day-lt21-clause-on : goal.returns-then-day-lt21-clause-on
returns-then-day-lt21-clause-on c =
    let g = c.args.march_year in let p = c.args.since_march in let x = p + c.leap_days.result in
    let given : to_z w32 (of_z w32 g) ≡ g = omega (arith, signed, c.requires.year) in
    let counted : x ≡ p + leap_day g = omega (arith, c.leap_days.ensures, ap leap_day given) in
    on-last g p x counted _ (omega (arith, signed, c.requires.year)) c.if-day-lt21.true

pub returns-else-day-lt21-clause-on : goal.returns-else-day-lt21-clause-on
returns-else-day-lt21-clause-on c =
    let g = c.args.march_year in let p = c.args.since_march in let x = p + c.leap_days.result in
    let given : to_z w32 (of_z w32 g) ≡ g = omega (arith, signed, c.requires.year) in
    let counted : x ≡ p + leap_day g = omega (arith, c.leap_days.ensures, ap leap_day given) in
    let late : 21 ≤ x = omega (arith, c.if-day-lt21.false) in
    on-first g p x counted _ (omega (arith, signed, c.requires.year)) c.requires.day late
