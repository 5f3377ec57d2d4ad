-- Years that two lists share.
use Rattle.std.specs.Prelude.{◌≡◌, ℤ}
use Rattle.cal_types.specs.CalendarList.{CalendarList, start_of_year}

-- a year has the same first day and the same months in both
pub record HaveSameYear (c d : CalendarList) (y : ℤ) : Type 0 where
  pub first_day : start_of_year c y ≡ start_of_year d y
  pub months : c.entries y ≡ d.entries y
