-- The years that China and Korea choose where no table has a row: mean years from 1912 on and before 1900,
-- and the Qing years between them.
use Rattle.std.specs.Prelude.{ℕ, int_le, if◌then◌else◌, ℤ, pos}
use Rattle.cal_east_asian.specs.EastAsianYear.{months_of_year}
use Rattle.cal_east_asian.specs.EastAsianYears.{YearParts}
use Rattle.cal_east_asian.specs.MeanParts.{mean_parts}
use Rattle.cal_east_asian.specs.QingYears.{qing_parts}
use Rattle.cal_east_asian.specs.declared.sides.Side.{Side}
use Rattle.cal_east_asian.specs.declared.sides.Side.TheVariants.{China, Korea}

-- the offset of the standard time
abbrev pub standard_offset : Side → ℤ
standard_offset China = pos 28800000
standard_offset Korea = pos 32400000

-- the offset of Beijing's mean time
abbrev pub beijing_offset : ℤ
beijing_offset = pos 27940000

abbrev pub computed_parts : Side → ℤ → YearParts
computed_parts side y =
    if int_le (pos 1912) y then mean_parts (standard_offset side) y
    else (if int_le (pos 1900) y then qing_parts y else mean_parts beijing_offset y)

-- how many months a year has
abbrev pub computed_month_count : Side → ℤ → ℕ
computed_month_count side y = months_of_year (computed_parts side y).leap_month
