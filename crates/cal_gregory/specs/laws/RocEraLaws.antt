-- The ranges of what the eras of the Republic of China read as, and that a year in its era has its extended year.
use Rattle.std.proofs.Common.{◌≡◌, ℕ, ℤ, pos, ◌-ℤ◌, List, None, Some, refl, arith}
use Rattle.std.specs.Prelude.{codes, int_lt}
use Rattle.cal_days.specs.Day.{IsConstructorYear, IsFieldYear, IsNearEra, IsRuleYear}
use Rattle.cal_days.proofs.Signed.{signed}
use Rattle.cal_types.specs.CalendarList.{Date}
use Rattle.cal_types.specs.YearNames.{is_code}
use Rattle.cal_types.proofs.YearNameLemmas.{year_in_era-some, no_era-some}
use Rattle.cal_gregory.specs.laws.CommonEraLaws.{either_extended}
use Rattle.cal_gregory.specs.RocEra.{roc_reads, roc_era_year}

pub roc_reads-in_range : (era : List ℕ) (n y : ℤ) → IsFieldYear n → roc_reads era n ≡ Some y → IsRuleYear y
roc_reads-in_range era n y h e =
    year_in_era-some IsRuleYear (is_code era (codes "roc")) n _ (omega (arith, signed, h), omega (arith, signed, h))
    (year_in_era-some IsRuleYear (is_code era (codes "broc")) (pos 1 -ℤ n) None (omega (arith, signed, h), omega (arith, signed, h)) (no_era-some IsRuleYear)) y e

pub roc_reads-near : (era : List ℕ) (n y : ℤ) → IsConstructorYear n → roc_reads era n ≡ Some y → IsNearEra y
roc_reads-near era n y h e =
    year_in_era-some IsNearEra (is_code era (codes "roc")) n _ (omega (arith, signed, h), omega (arith, signed, h))
    (year_in_era-some IsNearEra (is_code era (codes "broc")) (pos 1 -ℤ n) None (omega (arith, signed, h), omega (arith, signed, h)) (no_era-some IsNearEra)) y e

pub roc_era-named : (t : Date) → (roc_era_year t.year).extended_year ≡ t.year
roc_era-named t = either_extended (int_lt t.year (pos 1)) _ _ t.year refl refl
