-- How sums over years join, and how they are ordered.
use Rattle.std.proofs.Common.{◌≡◌, ℕ, zero, suc, ◌+◌, ◌-◌, ◌<◌, refl, ap, arith, ℤ, pos, ◌+ℤ◌, ◌-ℤ◌, neg_ℤ, ◌<ℤ◌, ◌≤ℤ◌}
use Rattle.std.proofs.lemmas.Int.{by_lt_z}
use Rattle.cal_days.specs.Sums.{years_up, total, span}
use Rattle.cal_days.proofs.Signed.{signed, by_lt, by_years}

-- the first year can be taken off
pub total-first : (size : ℤ → ℕ) (y : ℤ) (n : ℕ) → total size y (suc n) ≡ size y + total size (y +ℤ pos 1) n
unfolding total
total-first size y zero =
    let same : y +ℤ pos 0 ≡ y = omega (arith, signed) in rw same (omega arith)
total-first size y (suc n) =
    let same : y +ℤ pos (suc n) ≡ y +ℤ pos 1 +ℤ pos n = omega (arith, signed) in
    rw same (omega (arith, total-first size y n))

-- up from the anchor
pub span-up : (size : ℤ → ℕ) (from to : ℤ) (n : ℕ) → to ≡ from +ℤ pos n → span size from to ≡ pos (total size from n)
unfolding span total
span-up size from to n e =
    let ahead : years_up (to -ℤ from) ≡ n = omega (arith, signed) in
    let back : years_up (from -ℤ to) ≡ 0 = omega (arith, signed) in
    rw (ahead, back) (omega (arith, signed))

-- and down
pub span-down : (size : ℤ → ℕ) (from to : ℤ) (n : ℕ) → from ≡ to +ℤ pos n → span size from to ≡ neg_ℤ (pos (total size to n))
unfolding span total
span-down size from to n e =
    let ahead : years_up (to -ℤ from) ≡ 0 = omega (arith, signed) in
    let back : years_up (from -ℤ to) ≡ n = omega (arith, signed) in
    rw (ahead, back) (omega (arith, signed))

-- from a year to itself there is nothing
pub span-same : (size : ℤ → ℕ) (from : ℤ) → span size from from ≡ pos 0
unfolding total
span-same size from = span-up size from from 0 (omega (arith, signed))

total-more : (size : ℤ → ℕ) (y : ℤ) (n : ℕ) → total size y (suc n) ≡ total size y n + size (y +ℤ pos n)
unfolding total
total-more size y n = refl

-- the next year begins where a year ends
pub span-next : (size : ℤ → ℕ) (from y : ℤ) → span size from (y +ℤ pos 1) ≡ span size from y +ℤ pos (size y)
span-next size from y =
    by_lt_z {P = span size from (y +ℤ pos 1) ≡ span size from y +ℤ pos (size y)} y from
    (λ lt.
    let n = years_up (from -ℤ (y +ℤ pos 1)) in
    rw (span-down size from y (suc n) (omega (arith, signed)), span-down size from (y +ℤ pos 1) n (omega (arith, signed)))
    (omega (arith, signed, total-first size y n)))
    (λ le.
    let n = years_up (y -ℤ from) in
    let here : from +ℤ pos n ≡ y = omega (arith, signed) in
    rw (span-up size from y n (omega (arith, signed)), span-up size from (y +ℤ pos 1) (suc n) (omega (arith, signed)))
    (omega (arith, signed, total-more size from n, ap size here)))

-- what joins from year to year is this sum
pub span-unique : (size : ℤ → ℕ) (from : ℤ) (f : ℤ → ℤ) → ((y : ℤ) → f (y +ℤ pos 1) ≡ f y +ℤ pos (size y)) → (y : ℤ) → f y ≡ f from +ℤ span size from y
span-unique size from f join =
    by_years (λ y. f y ≡ f from +ℤ span size from y) from
    (omega (arith, signed, span-same size from))
    (λ y h. omega (arith, signed, join y, span-next size from y, h))
    (λ y h. omega (arith, signed, join y, span-next size from y, h))

span-rises : (size : ℤ → ℕ) (from y : ℤ) (n : ℕ) → span size from y ≤ℤ span size from (y +ℤ pos n)
span-rises size from y zero = let same : y +ℤ pos 0 ≡ y = omega (arith, signed) in rw same (omega (arith, signed))
span-rises size from y (suc n) =
    let next : y +ℤ pos (suc n) ≡ y +ℤ pos n +ℤ pos 1 = omega (arith, signed) in
    rw next (omega (arith, signed, span-rises size from y n, span-next size from (y +ℤ pos n)))

-- a later year begins at or after the end of this one
pub span-later : (size : ℤ → ℕ) (from y later : ℤ) → y <ℤ later → (span size from y +ℤ pos (size y)) ≤ℤ span size from later
span-later size from y later h =
    let n = years_up (later -ℤ (y +ℤ pos 1)) in
    let same : y +ℤ pos 1 +ℤ pos n ≡ later = omega (arith, signed) in
    omega (arith, signed, span-next size from y, rw same at (span-rises size from (y +ℤ pos 1) n))

-- where no year is empty, each number lies in one
abbrev Lies : (ℤ → ℕ) → ℤ → ℤ → Type 0
Lies size from n = (y : ℤ) × (a : ℕ) × (a < size y) × (span size from y +ℤ pos a ≡ n)

lies_next : (size : ℤ → ℕ) (from : ℤ) → ((y : ℤ) → 0 < size y) → (n : ℤ) → Lies size from n → Lies size from (n +ℤ pos 1)
lies_next size from some n (y, a, p, e) =
    by_lt {P = Lies size from (n +ℤ pos 1)} (a + 1) (size y)
    (λ lt. (y, a + 1, lt, omega (arith, signed)))
    (λ le. (y +ℤ pos 1, 0, some (y +ℤ pos 1), omega (arith, signed, span-next size from y)))

lies_before : (size : ℤ → ℕ) (from : ℤ) → ((y : ℤ) → 0 < size y) → (n : ℤ) → Lies size from (n +ℤ pos 1) → Lies size from n
lies_before size from some n (y, a, p, e) =
    by_lt {P = Lies size from n} 0 a
    (λ lt. (y, a - 1, omega arith, omega (arith, signed)))
    (λ le.
    let back : y -ℤ pos 1 +ℤ pos 1 ≡ y = omega (arith, signed) in
    let some_before = some (y -ℤ pos 1) in
    (y -ℤ pos 1, size (y -ℤ pos 1) - 1, omega arith, omega (arith, signed, rw back at (span-next size from (y -ℤ pos 1)))))

pub span-finds : (size : ℤ → ℕ) (from : ℤ) → ((y : ℤ) → 0 < size y) → (n : ℤ) → Lies size from n
span-finds size from some =
    by_years (Lies size from) (pos 0) (from, 0, some from, omega (arith, signed, span-same size from)) (lies_next size from some) (lies_before size from some)
