use Rattle.std.proofs.Common.{◌≡◌, ◌∙◌, true, false, ℕ, ◌+◌, ◌-◌, ◌≤◌, sym, ap, subst, pos, ◌-ℤ◌, nat_abs, FitsSigned, rules, to_z, of_z, w64, arith}
use Rattle.std.proofs.lemmas.List.{get_or_default}
use Rattle.cal_days.proofs.Signed.{signed, signed_casts, by_lt}
use Rattle.cal_days.specs.Day.{IsBetween}
use Rattle.cal_hijri.specs.MonthStarts.{days_between}
use Rattle.cal_hijri.proofs.LengthBits.{bits-double, bits-next, month_days-bit}
use Rattle.cal_hijri.proofs.hijri_year.long_months.Goals as goal

never : {A : Type 0} → false ≡ true → A
never e = absurd cc

pub months-preserved : goal.months-preserved
months-preserved c =
    let starts = c.args.starts.now in
    let m = c.months.month in
    let long = c.months.long_months in
    let last = c.months.invariant.last in
    let some : 1 ≤ m = omega (arith, c.months-test.true) in
    let end = get_or_default starts m c.index-starts-month.result (pos 0) (omega (arith, c.told-starts, last)) in
    let start = get_or_default starts (m - 1) c.index-starts-month-in-months.result (pos 0) (omega (arith, c.told-starts, last, c.months-test.true)) in
    let days : c.since-days.result ≡ days_between starts m = omega (arith, signed_casts, c.since-days.ensures, end, start) in
    let fits : FitsSigned w64 c.since-days.result = search rules in
    let kept : to_z w64 (of_z w64 c.since-days.result) ≡ c.since-days.result = omega (arith, signed_casts, fits) in
    let within = c.is_month_length.ensures.0 c.if-not-is_month_length.false in
    let b = nat_abs (to_z w64 (of_z w64 (to_z w64 (of_z w64 c.since-days.result) -ℤ pos 29))) in
    let bit : b ≤ 1 = omega (arith, signed_casts, within) in
    let here : pos (29 + b) ≡ days_between starts m = omega (arith, signed_casts, within, days, kept) in
    let double = bits-double m some last in
    record {
      last = omega (arith, last);
      small = rw double (omega (arith, c.months.invariant.small, bit));
      lengths = λ i low high. by_lt {P = IsBetween (pos 29) (pos 30) (days_between starts i)} m i
          (λ lt. c.months.invariant.lengths i (omega arith) high)
          (λ le. let same : m ≡ i = omega (arith, low, some) in subst (λ (n : ℕ). IsBetween (pos 29) (pos 30) (days_between starts n)) same (omega (arith, signed_casts, here, bit), omega (arith, signed_casts, here, bit)));
      bits = bits-next starts long m b some bit here c.months.invariant.bits;
    }

pub returns-clause-months : goal.returns-clause-months
returns-clause-months c i low high =
    let same : i - c.months.month - 1 ≡ i - 1 = omega (arith, c.months-test.false) in
    let bits = c.months.invariant.bits i (omega (arith, c.months-test.false)) high in
    ap pos (sym (month_days-bit c.months.long_months i low high)) ∙ rw same at bits

pub returns-clause-twelve : goal.returns-clause-twelve
returns-clause-twelve c =
    let none : 12 - c.months.month ≡ 12 = omega (arith, c.months-test.false) in
    rw none at c.months.invariant.small

pub overflow_sub-long_months : goal.overflow_sub-long_months
overflow_sub-long_months c = omega (arith, signed, c.is_month_length.ensures.0 c.if-not-is_month_length.false)

pub overflow_cast-long_months : goal.overflow_cast-long_months
overflow_cast-long_months c =
    let within = c.is_month_length.ensures.0 c.if-not-is_month_length.false in
    (omega (arith, signed_casts, within), omega (arith, signed_casts, within))

pub returns-then-not-is_month_length-clause-some : goal.returns-then-not-is_month_length-clause-some
returns-then-not-is_month_length-clause-some c =
    let starts = c.args.starts.now in
    let m = c.months.month in
    let last = c.months.invariant.last in
    let some : 1 ≤ m = omega (arith, c.months-test.true) in
    let end = get_or_default starts m c.index-starts-month.result (pos 0) (omega (arith, c.told-starts, last)) in
    let start = get_or_default starts (m - 1) c.index-starts-month-in-months.result (pos 0) (omega (arith, c.told-starts, last, c.months-test.true)) in
    let days : c.since-days.result ≡ days_between starts m = omega (arith, signed_casts, c.since-days.ensures, end, start) in
    let fits : FitsSigned w64 c.since-days.result = search rules in
    let kept : to_z w64 (of_z w64 c.since-days.result) ≡ c.since-days.result = omega (arith, signed_casts, fits) in
    let refused = c.if-not-is_month_length.true in (
      λ none. never none,
      λ lengths. let here = lengths m some last in sym refused ∙ c.is_month_length.ensures.1 (omega (arith, signed, days, kept, here.0), omega (arith, signed, days, kept, here.1)),
    )
