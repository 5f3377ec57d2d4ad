-- The published years of Umm al-Qura are accepted.
use Rattle.std.proofs.Common.{◌≡◌, refl}
use Rattle.std.specs.Prelude.{map}
use Rattle.cal_days.specs.Division.{floor_div, floor_mod}
use Rattle.cal_days.specs.Islamic.{islamic_start, islamic_mean_start}
use Rattle.cal_hijri.specs.RowsAccepted.{IsAccepted, meets}
use Rattle.cal_hijri.specs.TableFriday.{friday_year}
use Rattle.cal_hijri.specs.TableYears.{number_of}
use Rattle.cal_hijri.specs.HijriRows.{years_of}
use Rattle.cal_types.specs.RowTests.{all_from}
use Rattle.cal_types.specs.laws.RowTestLaws.{accepted-by}
use Rattle.published_years.specs.declared.hijri_data.TheConstants.{FIRST_UMM_AL_QURA_YEAR, LAST_UMM_AL_QURA_YEAR, UMM_AL_QURA}
use Rattle.published_years.specs.Published.{numbers_through}

-- the test of each row computes to true
pub umm_al_qura-accepted : IsAccepted friday_year UMM_AL_QURA
unfolding all_from floor_div floor_mod islamic_start islamic_mean_start
umm_al_qura-accepted = accepted-by (meets friday_year UMM_AL_QURA) UMM_AL_QURA refl

-- their numbers compute to those from the first to the last
pub umm_al_qura-years : map number_of (years_of UMM_AL_QURA) ≡ numbers_through FIRST_UMM_AL_QURA_YEAR LAST_UMM_AL_QURA_YEAR
umm_al_qura-years = refl
