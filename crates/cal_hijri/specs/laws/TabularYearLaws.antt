-- Each tabular year starts where the one before ends, and near its mean start.
use Rattle.std.proofs.Common.{◌≡◌, ◌<◌, Bool, true, false, if◌then◌else◌, refl, arith, ℤ, pos, ◌+ℤ◌}
use Rattle.cal_days.specs.Islamic.{IsIslamicEpoch}
use Rattle.cal_days.proofs.IslamicLemmas.{islamic_start-near, islamic_start-next}
use Rattle.cal_days.proofs.Signed.{signed}
use Rattle.cal_hijri.specs.HijriMonths.{IsNearMean, days_of_months}
use Rattle.cal_hijri.specs.TabularYears.{epoch_day, is_leap, long_by, start_by, tabular_start}
use Rattle.cal_hijri.specs.laws.TypeILaws.{type_i_start-near, type_i_start-next}
use Rattle.cal_hijri.specs.declared.tabular_algorithm.TabularAlgorithm.{TabularAlgorithm}
use Rattle.cal_hijri.specs.declared.tabular_algorithm.TabularAlgorithmEpoch.{TabularAlgorithmEpoch}
use Rattle.cal_hijri.specs.declared.tabular_algorithm.TabularAlgorithmEpoch.TheVariants.{Thursday, Friday}
use Rattle.cal_hijri.specs.declared.tabular_algorithm.TabularAlgorithmLeapYears.{TabularAlgorithmLeapYears}
use Rattle.cal_hijri.specs.declared.tabular_algorithm.TabularAlgorithmLeapYears.TheVariants.{TypeI, TypeII}

pub epoch_day-known : (e : TabularAlgorithmEpoch) → IsIslamicEpoch (epoch_day e)
epoch_day-known Thursday = (omega (arith, signed), omega (arith, signed))
epoch_day-known Friday = (omega (arith, signed), omega (arith, signed))

near_by : (l : TabularAlgorithmLeapYears) (epoch y : ℤ) → IsIslamicEpoch epoch → IsNearMean y (start_by l epoch y)
near_by TypeI epoch y known = type_i_start-near epoch y known
near_by TypeII epoch y known =
    let near = islamic_start-near epoch y known in
    (omega (arith, signed, near), omega (arith, signed, near))

-- a tabular year starts near its mean start
pub tabular-near : (s : TabularAlgorithm) (y : ℤ) → IsNearMean y (tabular_start s y)
tabular-near s y = near_by s.leap_years (epoch_day s.epoch) y (epoch_day-known s.epoch)

-- the bits are those of twelve months
pub long_by-few : (leap : Bool) → long_by leap < 4096
long_by-few true = omega arith
long_by-few false = omega arith

-- as many days as the long months make
pub days_by : (leap : Bool) → days_of_months (long_by leap) ≡ (if leap then 355 else 354)
days_by true = refl
days_by false = refl

-- the next year starts where a year ends
pub next_by : (l : TabularAlgorithmLeapYears) (epoch y : ℤ) → start_by l epoch (y +ℤ pos 1) ≡ start_by l epoch y +ℤ pos (if is_leap l y then 355 else 354)
next_by TypeI epoch y = type_i_start-next epoch y
next_by TypeII epoch y = islamic_start-next epoch y
