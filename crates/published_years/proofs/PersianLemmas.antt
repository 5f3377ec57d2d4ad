-- The published corrections are accepted.
use Rattle.std.proofs.Common.{refl}
use Rattle.cal_days.specs.Division.{floor_mod}
use Rattle.cal_julian.specs.PersianAccepted.{AreCorrections, meets_at}
use Rattle.cal_types.specs.RowTests.{all_from}
use Rattle.cal_types.specs.laws.RowTestLaws.{accepted-by}
use Rattle.published_years.specs.declared.persian_data.TheConstants.{CORRECTED_YEARS}

-- the test of each year computes to true
pub corrections-accepted : AreCorrections CORRECTED_YEARS
unfolding all_from floor_mod
corrections-accepted = accepted-by (meets_at CORRECTED_YEARS) CORRECTED_YEARS refl
