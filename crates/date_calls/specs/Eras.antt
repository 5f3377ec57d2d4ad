-- The era of a day's year.
use Rattle.std.specs.Prelude.{◌≡◌, ℕ, ℤ, List, []}
use Rattle.cal_types.specs.declared.year.YearInfo.{YearInfo}
use Rattle.cal_types.specs.declared.year.YearInfo.TheVariants.{Era, Cyclic}
use Rattle.cal_types.specs.CalendarList.{Date, IsOn}
use Rattle.cal_types.specs.CalendarSystem.{CalendarSystem}

-- the code of a year's era, without a byte where the year is one of a cycle
abbrev pub era_text : YearInfo → List ℕ
era_text (Era y) = y.era
era_text (Cyclic _) = []

-- the code of the era of a day's year
pub record IsEraOf (s : CalendarSystem) (day : ℤ) (era : List ℕ) : Type 0 where
  pub date : Date
  pub on : IsOn s.list day date
  pub is : era ≡ era_text (s.year_info date)
