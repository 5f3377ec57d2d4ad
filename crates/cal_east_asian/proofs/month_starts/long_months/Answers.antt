use Rattle.std.proofs.Common.{◌≡◌, ℕ, suc, ◌+◌, ◌-◌, ◌*◌, ◌/◌, ◌%◌, ◌^◌, ◌<◌, ◌≤◌, List, ℤ, pos, ◌-ℤ◌, unsigned_abs, to_z, of_z, w64, ap, sym, subst, ◌∙◌, arith}
use Rattle.std.proofs.lemmas.Grind.{common_steps}
use Rattle.std.proofs.lemmas.List.{get_or_default}
use native.Mathlib.Nat.{pow-suc, mul_comm, div-div-eq-div-mul}
use Rattle.cal_days.specs.Day.{IsBetween}
use Rattle.cal_days.proofs.Signed.{signed, by_lt}
use Rattle.cal_east_asian.specs.MonthStarts.{HaveMonthLengths, days_between, start_at}
use Rattle.cal_east_asian.proofs.month_starts.long_months.Goals as goal

-- the bits after the lowest
half : (n b k : ℕ) → b ≤ 1 → (2 * n + b) / 2 ^ suc k ≡ n / 2 ^ k
half n b k h =
    ap (λ (q : ℕ). (2 * n + b) / q) (pow-suc 2 k ∙ mul_comm (2 ^ k) 2)
    ∙ (sym (div-div-eq-div-mul (2 * n + b) 2 (2 ^ k)) ∙ ap (λ (q : ℕ). q / 2 ^ k) (omega (arith, h)))

module _ (starts : List ℤ) (m last long b : ℕ) (some : 1 ≤ m) (within : m ≤ last) (few : b ≤ 1) (days : pos (29 + b) ≡ days_between starts m) where
  more-small : long < 2 ^ (last - m) → 2 * long + b < 2 ^ (last - (m - 1))
  more-small h =
      let e : suc (last - m) ≡ last - (m - 1) = omega arith in
      subst (λ (k : ℕ). 2 * long + b < 2 ^ k) e (omega (arith, pow-suc 2 (last - m), h))

  more-lengths : HaveMonthLengths starts m last → HaveMonthLengths starts (m - 1) last
  more-lengths known i low high =
      by_lt {P = IsBetween (pos 29) (pos 30) (days_between starts i)} m i
      (λ lt. known i (omega arith) high)
      (λ le.
      let same : m ≡ i = omega arith in
      subst (λ (j : ℕ). IsBetween (pos 29) (pos 30) (days_between starts j)) same (omega (arith, signed, days), omega (arith, signed, days)))

  abbrev HasBit : ℕ → ℕ → ℕ → Type 0
  HasBit bits k i = pos (29 + bits / 2 ^ k % 2) ≡ days_between starts i

  more-bits : ((i : ℕ) → m + 1 ≤ i → i ≤ last → HasBit long (i - m - 1) i) → (i : ℕ) → m - 1 + 1 ≤ i → i ≤ last → HasBit (2 * long + b) (i - (m - 1) - 1) i
  more-bits known i low high =
      by_lt {P = HasBit (2 * long + b) (i - (m - 1) - 1) i} m i
      (λ lt.
      let e : suc (i - m - 1) ≡ i - (m - 1) - 1 = omega arith in
      let bit : pos (29 + (2 * long + b) / 2 ^ suc (i - m - 1) % 2) ≡ days_between starts i = ap (λ (q : ℕ). pos (29 + q % 2)) (half long b (i - m - 1) few) ∙ known i (omega arith) high in
      subst (λ (k : ℕ). HasBit (2 * long + b) k i) e bit)
      (λ le.
      let same : m ≡ i = omega arith in
      let zero : 0 ≡ i - (m - 1) - 1 = omega arith in
      let lowest : 29 + (2 * long + b) / 2 ^ 0 % 2 ≡ 29 + b = omega (arith, few) in
      subst (λ (k : ℕ). HasBit (2 * long + b) k i) zero (ap pos lowest ∙ subst (λ (j : ℕ). pos (29 + b) ≡ days_between starts j) same days))

pub months-preserved : goal.months-preserved
months-preserved c =
    let starts = c.args.starts.now in
    let m = c.months.month in
    let b = unsigned_abs (to_z w64 (of_z w64 (to_z w64 (of_z w64 c.days_from-days.result) -ℤ pos 29))) in
    let length = c.is_month_length.ensures.0 c.if-not-is_month_length.false in
    let before : c.index-starts-month.result ≡ start_at starts (m - 1) = c.index-starts-month.is ∙ get_or_default starts (m - 1) c.index-starts-month.result (pos 0) (omega (arith, c.told-starts, c.months.invariant.last, c.requires)) in
    let here : c.index-starts-month-in-months.result ≡ start_at starts m = c.index-starts-month-in-months.is ∙ get_or_default starts m c.index-starts-month-in-months.result (pos 0) (omega (arith, c.told-starts, c.months.invariant.last, c.requires)) in
    let gap : c.days_from-days.result ≡ days_between starts m = omega (arith, signed, c.days_from-days.ensures.value, here, before) in
    let near = c.days_from-days.ensures.bound in
    let few : b ≤ 1 = omega (arith, signed, length, near) in
    let days : pos (29 + b) ≡ days_between starts m = omega (arith, signed, length, gap, near) in
    let some : 1 ≤ m = omega (arith, c.months-test.true) in
    let within = c.months.invariant.last in
    record {
      last = omega (arith, within);
      small = more-small starts m c.args.months c.months.long_months b some within few days c.months.invariant.small;
      lengths = more-lengths starts m c.args.months c.months.long_months b some within few days c.months.invariant.lengths;
      bits = more-bits starts m c.args.months c.months.long_months b some within few days c.months.invariant.bits;
    }

pub overflow_cast-long_months : goal.overflow_cast-long_months
overflow_cast-long_months c = grind (arith, common_steps)

pub returns-then-not-is_month_length-clause-some : goal.returns-then-not-is_month_length-clause-some
returns-then-not-is_month_length-clause-some c = grind (arith, common_steps)
