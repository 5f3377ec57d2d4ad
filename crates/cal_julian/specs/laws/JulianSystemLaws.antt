-- What belonging to the Julian calendar says, and that its years keep their number in their eras.
use Rattle.std.proofs.Common.{◌≡◌}
use Rattle.std.specs.Prelude.{IsTrue}
use Rattle.cal_types.specs.Year.{extended_year_of}
use Rattle.cal_types.specs.declared.year.YearInfo.TheVariants.{Era}
use Rattle.cal_types.specs.CalendarList.{Date, IsValidDate}
use Rattle.cal_types.proofs.DateTests.{is_valid_date-true}
use Rattle.cal_julian.specs.JulianEra.{julian_era_year}
use Rattle.cal_julian.specs.JulianList.{julian_list}
use Rattle.cal_julian.specs.laws.JulianLaws.{julian_year-named}
use Rattle.cal_julian.specs.JulianSystem.{julian_date, julian_belongs}
use Rattle.cal_julian.specs.declared.julian.JulianDateInner.{JulianDateInner}

-- what belongs is a date of the list
pub julian_belongs-dated : (d : JulianDateInner) → IsTrue (julian_belongs d) → IsValidDate julian_list (julian_date d)
julian_belongs-dated d h = is_valid_date-true julian_list (julian_date d) h

-- a date's year in its era has its extended year
pub julian_year_info-named : (t : Date) → extended_year_of (Era (julian_era_year t.year)) ≡ t.year
julian_year_info-named t = julian_year-named t.year
