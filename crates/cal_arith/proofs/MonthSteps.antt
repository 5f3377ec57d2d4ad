-- How many months lie between years.
use Rattle.std.proofs.Common.{◌≡◌, ℕ, zero, suc, ◌*◌, ℤ, pos, ◌+ℤ◌, ◌-ℤ◌, ◌*ℤ◌, ◌≤ℤ◌, ap, arith}
use Rattle.cal_days.specs.Sums.{years_up}
use Rattle.cal_days.proofs.Signed.{signed}
use Rattle.cal_types.specs.CalendarList.{CalendarList, IsLawful, month_number}
use Rattle.cal_types.proofs.ListLemmas.{month_number-next}

-- n years have from 12 n to 13 n months
months-of_years : (c : CalendarList) → IsLawful c → (y : ℤ) (n : ℕ) → ((month_number c y 1 +ℤ pos (12 * n)) ≤ℤ month_number c (y +ℤ pos n) 1) × (month_number c (y +ℤ pos n) 1 ≤ℤ (month_number c y 1 +ℤ pos (13 * n)))
months-of_years c law y zero =
    let same : y +ℤ pos 0 ≡ y = omega (arith, signed) in
    let e = ap (λ (z : ℤ). month_number c z 1) same in
    (omega (arith, signed, e), omega (arith, signed, e))
months-of_years c law y (suc n) =
    let next : y +ℤ pos (suc n) ≡ y +ℤ pos n +ℤ pos 1 = omega (arith, signed) in
    let e = ap (λ (z : ℤ). month_number c z 1) next in
    let before = months-of_years c law y n in
    let count = law.count (y +ℤ pos n) in
    (omega (arith, signed, e, month_number-next c (y +ℤ pos n), before, count), omega (arith, signed, e, month_number-next c (y +ℤ pos n), before, count))

-- the months between two years are from 12 to 13 for each
pub months-between : (c : CalendarList) → IsLawful c → (y z : ℤ) → y ≤ℤ z → ((pos 12 *ℤ (z -ℤ y)) ≤ℤ (month_number c z 1 -ℤ month_number c y 1)) × ((month_number c z 1 -ℤ month_number c y 1) ≤ℤ (pos 13 *ℤ (z -ℤ y)))
months-between c law y z order =
    let n = years_up (z -ℤ y) in
    let reach : y +ℤ pos n ≡ z = omega (arith, signed, order) in
    let e = ap (λ (x : ℤ). month_number c x 1) reach in
    let bounds = months-of_years c law y n in
    (omega (arith, signed, reach, e, bounds), omega (arith, signed, reach, e, bounds))
