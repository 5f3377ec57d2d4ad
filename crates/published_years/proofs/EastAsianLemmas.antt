-- The published years of China and of Korea are accepted.
use Rattle.std.proofs.Common.{◌≡◌, refl}
use Rattle.std.specs.Prelude.{map}
use Rattle.cal_days.specs.Division.{floor_div, floor_mod}
use Rattle.cal_days.specs.Gregorian.{gregorian_start, leap_days_through}
use Rattle.cal_east_asian.specs.laws.ComputedLaws.{computed_year}
use Rattle.cal_east_asian.specs.MeanYears.{moon, term, last_moon, solstice_moon, month_start, lacks_term, leap_month, mean_months, new_year}
use Rattle.cal_east_asian.specs.RowsAccepted.{IsAccepted, meets}
use Rattle.cal_east_asian.specs.TableYears.{number_of}
use Rattle.cal_east_asian.specs.declared.sides.Side.TheVariants.{China, Korea}
use Rattle.cal_east_asian.specs.EastAsianRows.{years_of}
use Rattle.cal_types.specs.RowTests.{all_from}
use Rattle.cal_types.specs.laws.RowTestLaws.{accepted-by}
use Rattle.published_years.specs.declared.east_asian_data.TheConstants.{CHINA, FIRST_CHINESE_YEAR, FIRST_KOREAN_YEAR, KOREA, LAST_CHINESE_YEAR, LAST_KOREAN_YEAR}
use Rattle.published_years.specs.Published.{numbers_through}

-- the test of each row computes to true
pub china-accepted : IsAccepted (computed_year China) CHINA
unfolding all_from floor_div floor_mod gregorian_start leap_days_through moon term last_moon solstice_moon month_start lacks_term leap_month mean_months new_year
china-accepted = accepted-by (meets (computed_year China) CHINA) CHINA refl

pub korea-accepted : IsAccepted (computed_year Korea) KOREA
unfolding all_from floor_div floor_mod gregorian_start leap_days_through moon term last_moon solstice_moon month_start lacks_term leap_month mean_months new_year
korea-accepted = accepted-by (meets (computed_year Korea) KOREA) KOREA refl

-- their numbers compute to those from the first to the last
pub china-years : map number_of (years_of CHINA) ≡ numbers_through FIRST_CHINESE_YEAR LAST_CHINESE_YEAR
china-years = refl

pub korea-years : map number_of (years_of KOREA) ≡ numbers_through FIRST_KOREAN_YEAR LAST_KOREAN_YEAR
korea-years = refl
