use Rattle.std.proofs.Common.{◌≡◌, ◌-ℤ◌, ◌+ℤ◌, pos, sym, subst, rules, arith, FitsSigned, to_z, of_z, w32, w64, ℤ}
use Rattle.cal_days.proofs.Signed.{signed}
use Rattle.cal_holidays.specs.NamedDays.{IsEasterOf, IsInYear, OwnDay}
use Rattle.cal_holidays.specs.Rules.{rule_said}
use Rattle.cal_holidays.proofs.OwnDayLemmas.{span_within, years-of}
use Rattle.cal_holidays.proofs.own_days.own_years.Goals as goal

pub returns-in-Fixed : goal.returns-in-Fixed
returns-in-Fixed g c =
    let list = (g.C.Calendar.system c.args.calendar.now).list in
    let from : to_z w64 (of_z w64 c.args.from) ≡ c.args.from = omega (arith, signed, c.requires.from) in
    let to : to_z w64 (of_z w64 c.args.to) ≡ c.args.to = omega (arith, signed, c.requires.to) in
    years-of (IsInYear list) (OwnDay list (rule_said c.args.rule)) _ _ c.args.from c.args.to c.years_between.result
    (λ y n is valid within. (n, (subst (λ r. OwnDay list (rule_said r) y n) c.in-Fixed.is is).1, valid, (omega (arith, signed, from, within.0), omega (arith, signed, to, within.1))))
    c.years_between.ensures

pub returns-in-Easter : goal.returns-in-Easter
returns-in-Easter g c =
    let list = (g.C.Calendar.system c.args.calendar.now).list in
    let julian = c.in-Easter.julian in
    let offset = c.in-Easter.offset in
    let from : to_z w64 (of_z w64 c.args.from) ≡ c.args.from = omega (arith, signed, c.requires.from) in
    let to : to_z w64 (of_z w64 c.args.to) ≡ c.args.to = omega (arith, signed, c.requires.to) in
    let fits : FitsSigned w32 offset = search rules in
    let by : to_z w32 (of_z w32 offset) ≡ offset = omega (arith, signed) in
    years-of (λ y n. IsEasterOf julian y (n -ℤ to_z w32 (of_z w32 offset))) (OwnDay list (rule_said c.args.rule)) _ _ c.args.from c.args.to c.easter_years.result
    (λ y n is valid within.
    let there = subst (λ r. OwnDay list (rule_said r) y n) c.in-Easter.is is in
    (n, subst (λ (o : ℤ). IsEasterOf julian y (n -ℤ o)) (sym by) there, valid, (omega (arith, signed, from, within.0), omega (arith, signed, to, within.1))))
    c.easter_years.ensures

pub returns-in-Nth : goal.returns-in-Nth
returns-in-Nth g c =
    let list = (g.C.Calendar.system c.args.calendar.now).list in
    let from : to_z w64 (of_z w64 c.args.from) ≡ c.args.from = omega (arith, signed, c.requires.from) in
    let to : to_z w64 (of_z w64 c.args.to) ≡ c.args.to = omega (arith, signed, c.requires.to) in
    years-of (IsInYear list) (OwnDay list (rule_said c.args.rule)) _ _ c.args.from c.args.to c.years_between-in-Nth.result
    (λ y n is valid within. (n, (subst (λ r. OwnDay list (rule_said r) y n) c.in-Nth.is is).1, valid, (omega (arith, signed, from, within.0), omega (arith, signed, to, within.1))))
    c.years_between-in-Nth.ensures

pub returns-in-Span : goal.returns-in-Span
returns-in-Span g c =
    let list = (g.C.Calendar.system c.args.calendar.now).list in
    let from : to_z w64 (of_z w64 (to_z w64 (of_z w64 c.args.from) -ℤ pos 6)) ≡ c.args.from -ℤ pos 6 = omega (arith, signed, c.requires.from) in
    let to : to_z w64 (of_z w64 (to_z w64 (of_z w64 c.args.to) +ℤ pos 6)) ≡ c.args.to +ℤ pos 6 = omega (arith, signed, c.requires.to) in
    years-of (IsInYear list) (OwnDay list (rule_said c.args.rule)) _ _ c.args.from c.args.to c.years_between-in-Span.result
    (λ y n is valid within.
    let there = subst (λ r. OwnDay list (rule_said r) y n) c.in-Span.is is in
    let near = span_within c.in-Span.week there.day n there.within in
    (there.day, there.year, there.valid, (omega (arith, signed, from, within.0, near.0), omega (arith, signed, to, within.1, near.1))))
    c.years_between-in-Span.ensures
