-- The ranges of what eras read as.
use Rattle.std.proofs.Common.{◌≡◌, ℕ, ℤ, pos, ◌-ℤ◌, List, None, Some, arith}
use Rattle.std.specs.Prelude.{◌||◌, codes}
use Rattle.cal_days.specs.Day.{IsFieldYear, IsRuleYear, IsConstructorYear, IsCoveredYear, IsNearEra}
use Rattle.cal_days.proofs.Signed.{signed}
use Rattle.cal_types.specs.YearNames.{is_code}
use Rattle.cal_types.specs.Eras.{only_era_reads, common_era_reads}
use Rattle.cal_types.proofs.YearNameLemmas.{year_in_era-some, no_era-some}

pub only_era_reads-in_range : (code era : List ℕ) (n y : ℤ) → IsFieldYear n → only_era_reads code era n ≡ Some y → IsRuleYear y
only_era_reads-in_range code era n y h e = year_in_era-some IsRuleYear (is_code era code) n None (omega (arith, signed, h), omega (arith, signed, h)) (no_era-some IsRuleYear) y e

pub only_era_reads-near : (code era : List ℕ) (n y : ℤ) → IsConstructorYear n → only_era_reads code era n ≡ Some y → IsNearEra y
only_era_reads-near code era n y h e = year_in_era-some IsNearEra (is_code era code) n None (omega (arith, signed, h), omega (arith, signed, h)) (no_era-some IsNearEra) y e

pub common_era_reads-in_range : (era : List ℕ) (n y : ℤ) → IsFieldYear n → common_era_reads era n ≡ Some y → IsRuleYear y
common_era_reads-in_range era n y h e =
    year_in_era-some IsRuleYear _ n _ (omega (arith, signed, h), omega (arith, signed, h))
    (year_in_era-some IsRuleYear (is_code era (codes "bce") || is_code era (codes "bc")) (pos 1 -ℤ n) None (omega (arith, signed, h), omega (arith, signed, h)) (no_era-some IsRuleYear)) y e

pub common_era_reads-near : (era : List ℕ) (n y : ℤ) → IsConstructorYear n → common_era_reads era n ≡ Some y → IsNearEra y
common_era_reads-near era n y h e =
    year_in_era-some IsNearEra _ n _ (omega (arith, signed, h), omega (arith, signed, h))
    (year_in_era-some IsNearEra (is_code era (codes "bce") || is_code era (codes "bc")) (pos 1 -ℤ n) None (omega (arith, signed, h), omega (arith, signed, h)) (no_era-some IsNearEra)) y e

-- the days of the years near an era are valid
pub near_era-covered : (y : ℤ) → IsNearEra y → IsCoveredYear y
near_era-covered y h = (omega (arith, signed, h), omega (arith, signed, h))
