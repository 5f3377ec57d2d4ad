-- How the Qing years join each other, and the mean years before and after them.
use Rattle.std.specs.Prelude.{◌≡◌, ℤ, pos, ◌+ℤ◌}
use Rattle.cal_east_asian.specs.ComputedYears.{beijing_offset, standard_offset}
use Rattle.cal_east_asian.specs.EastAsianYears.{end_day}
use Rattle.cal_east_asian.specs.MeanYears.{new_year}
use Rattle.cal_east_asian.specs.QingYears.{IsQingNumber, qing_parts}
use Rattle.cal_east_asian.specs.declared.east_asian_traditional_year.EastAsianTraditionalYear.{EastAsianTraditionalYear}
use Rattle.cal_east_asian.specs.declared.sides.Side.{Side}

-- a year ends where the next row begins; 1900 begins where the mean year 1900 does, so where the mean year 1899 ends;
-- and 1911 ends where the mean year 1912 of each side begins
pub record DoesJoin (y : ℤ) (year : EastAsianTraditionalYear) : Type 0 where
  pub next : IsQingNumber (y +ℤ pos 1) → (qing_parts (y +ℤ pos 1)).new_year ≡ end_day year
  pub first : y ≡ pos 1900 → year.new_year ≡ new_year beijing_offset (pos 1900)
  pub last : y ≡ pos 1911 → (side : Side) → end_day year ≡ new_year (standard_offset side) (pos 1912)
