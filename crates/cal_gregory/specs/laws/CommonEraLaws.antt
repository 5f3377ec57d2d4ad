-- A year in its era has its extended year.
use Rattle.std.specs.Prelude.{◌≡◌, Bool, true, false, if◌then◌else◌, pos, int_lt, ℤ, refl}
use Rattle.cal_types.specs.declared.year.EraYear.{EraYear}
use Rattle.cal_types.specs.CalendarList.{Date}
use Rattle.cal_gregory.specs.CommonEra.{common_era_year}

pub either_extended : (b : Bool) (p q : EraYear) (y : ℤ) → p.extended_year ≡ y → q.extended_year ≡ y → (if b then p else q).extended_year ≡ y
either_extended true p q y e f = e
either_extended false p q y e f = f

pub common_era_year-named : (y : ℤ) → (common_era_year y).extended_year ≡ y
common_era_year-named y = either_extended (int_lt y (pos 1)) _ _ y refl refl

pub common_era-named : (t : Date) → (common_era_year t.year).extended_year ≡ t.year
common_era-named t = common_era_year-named t.year
