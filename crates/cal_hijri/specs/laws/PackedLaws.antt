-- What is read of any packed date is near the mean start of its year, and has twelve months.
use Rattle.std.proofs.Common.{ℕ, ◌/◌, ◌%◌, ◌<◌, min, List, Bool, true, false, if◌then◌else◌, nat_eq, arith, ℤ, pos, neg_ℤ, ◌+ℤ◌}
use Rattle.cal_days.specs.Day.{IsBetween}
use Rattle.cal_days.specs.Islamic.{islamic_mean_start}
use Rattle.cal_days.proofs.Signed.{signed}
use Rattle.date_bytes.specs.HijriBytes.{bits_in, long_in, offset_in}
use Rattle.cal_hijri.specs.HijriMonths.{IsNearMean}

offset-by : (negative : Bool) (n : ℕ) → IsBetween (neg_ℤ (pos 5)) (pos 5) (if negative then neg_ℤ (pos (min n 5)) else pos (min n 5))
offset-by true n = (omega (arith, signed), omega (arith, signed))
offset-by false n = (omega (arith, signed), omega (arith, signed))

pub near-by : (p : List ℕ) (y : ℤ) → IsNearMean y (islamic_mean_start y +ℤ offset_in p)
near-by p y =
    let small = offset-by (nat_eq (bits_in p / 4096 % 2) 1) (bits_in p / 8192) in
    (omega (arith, signed, small), omega (arith, signed, small))

pub twelve-by : (p : List ℕ) → long_in p < 4096
twelve-by p = omega arith
