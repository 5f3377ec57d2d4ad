use Rattle.std.proofs.Common.{◌≡◌, ◌<◌, ◌≤ℤ◌, ◌+ℤ◌, ◌-ℤ◌, ◌%◌, ◌∙◌, pos, sym, subst, arith, rules, FitsSigned, to_z, of_z, w32, ℤ}
use Rattle.std.proofs.Math.Nat.{mod-lt}
use Rattle.std.proofs.lemmas.Int.{int_rem_euclid_is}
use Rattle.cal_days.specs.Sums.{years_up}
use Rattle.cal_days.proofs.Signed.{by_lt, signed}
use Rattle.cal_holidays.specs.Moving.{IsFirstStep}
use Rattle.cal_holidays.proofs.ObservingLemmas.{step_on, step_past, step_since}
use Rattle.cal_holidays.proofs.rule_years.first_step.Goals as goal

pub returns-then-low-since : goal.returns-then-low-since
returns-then-low-since c =
    let since : to_z w32 (of_z w32 c.args.since) ≡ c.args.since = omega (arith, signed, c.requires.since) in
    let low : c.args.low ≤ℤ c.args.since = omega (arith, signed, c.if-low-since.true, c.requires.low, since) in
    subst (IsFirstStep c.args.since c.args.every c.args.low) (sym since) (step_since c.args.since c.args.every c.args.low low)

pub returns-then-past-eq0 : goal.returns-then-past-eq0
returns-then-past-eq0 c =
    let e = c.args.every in
    let some : 0 < e = omega (arith, c.requires.every) in
    let low : to_z w32 (of_z w32 c.args.low) ≡ c.args.low = omega (arith, signed, c.requires.low) in
    let since : to_z w32 (of_z w32 c.args.since) ≡ c.args.since = omega (arith, signed, c.requires.since) in
    let past : c.args.since ≤ℤ c.args.low = omega (arith, signed, c.if-low-since.false, low, since) in
    let d = years_up (c.args.low -ℤ c.args.since) in
    let is : c.args.low ≡ c.args.since +ℤ pos d = omega (arith, signed, past) in
    let by : to_z w32 (of_z w32 c.from.result) ≡ pos e = omega (arith, signed, c.from.ensures, c.requires.every) in
    let ahead : to_z w32 (of_z w32 (to_z w32 (of_z w32 c.args.low) -ℤ to_z w32 (of_z w32 c.args.since))) ≡ pos d
    = omega (arith, signed, low, since, is, c.requires.low, c.requires.since) in
    let rest : c.rem_euclid-past.result ≡ pos (d % e) = c.rem_euclid-past.ensures.value ∙ int_rem_euclid_is _ _ e 0 d some by (omega (arith, signed, ahead)) in
    let none : d % e ≡ 0 = subst (λ (z : ℤ). of_z w32 z ≡ 0) rest c.if-past-eq0.true in
    subst (IsFirstStep c.args.since e c.args.low) (sym low) (step_on c.args.since e c.args.low d some is none)

pub returns : goal.returns
returns c =
    let e = c.args.every in
    let some : 0 < e = omega (arith, c.requires.every) in
    let low : to_z w32 (of_z w32 c.args.low) ≡ c.args.low = omega (arith, signed, c.requires.low) in
    let since : to_z w32 (of_z w32 c.args.since) ≡ c.args.since = omega (arith, signed, c.requires.since) in
    let past : c.args.since ≤ℤ c.args.low = omega (arith, signed, c.if-low-since.false, low, since) in
    let d = years_up (c.args.low -ℤ c.args.since) in
    let is : c.args.low ≡ c.args.since +ℤ pos d = omega (arith, signed, past) in
    let by : to_z w32 (of_z w32 c.from.result) ≡ pos e = omega (arith, signed, c.from.ensures, c.requires.every) in
    let ahead : to_z w32 (of_z w32 (to_z w32 (of_z w32 c.args.low) -ℤ to_z w32 (of_z w32 c.args.since))) ≡ pos d
    = omega (arith, signed, low, since, is, c.requires.low, c.requires.since) in
    let rest : c.rem_euclid-past.result ≡ pos (d % e) = c.rem_euclid-past.ensures.value ∙ int_rem_euclid_is _ _ e 0 d some by (omega (arith, signed, ahead)) in
    let few : d % e < e = mod-lt d some in
    let back : to_z w32 (of_z w32 c.rem_euclid-past.result) ≡ pos (d % e) = omega (arith, signed, rest, few, c.requires.every) in
    let more : 0 < d % e = by_lt {P = 0 < d % e} 0 (d % e) (λ lt. lt) (λ ge.
    let none : d % e ≡ 0 = omega (arith, ge) in
    absurd (c.if-past-eq0.false (subst (λ (z : ℤ). of_z w32 z ≡ 0) (sym rest) none))) in
    let to : to_z w32 (of_z w32 c.from-2.result) ≡ pos e = omega (arith, signed, c.from-2.ensures, c.requires.every) in
    step_past c.args.since e c.args.low _ d some is more (omega (arith, signed, low, to, back, few, c.requires.every, c.requires.low))
