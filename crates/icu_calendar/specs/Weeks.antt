-- Weeks of years.
-- Source: ISO 8601. A week runs from Monday to Sunday, and belongs to the year of its Thursday.
use Rattle.std.specs.Prelude.{◌≡◌, ℕ, ℤ, pos, ◌+ℤ◌, ◌-ℤ◌, ◌≤ℤ◌, ◌<ℤ◌}
use Rattle.cal_days.specs.Division.{floor_div, floor_mod}
use Rattle.cal_days.specs.Gregorian.{gregorian_start}

-- the Thursday of the week from Monday to Sunday that a day is in; day number 0 is a Sunday
pub record IsThursdayOf (day thursday : ℤ) : Type 0 where
  pub weekday : floor_mod thursday 7 ≡ 4
  pub monday : (thursday -ℤ pos 3) ≤ℤ day
  pub sunday : day ≤ℤ (thursday +ℤ pos 3)

-- a day is in this week of this year: the Thursday lies in the year, and the weeks are counted by its day of the year,
-- from 0, in sevens
pub record IsInWeek (day year : ℤ) (week : ℕ) : Type 0 where
  pub thursday : ℤ
  pub of : IsThursdayOf day thursday
  pub first : gregorian_start year ≤ℤ thursday
  pub last : thursday <ℤ gregorian_start (year +ℤ pos 1)
  pub number : pos week ≡ floor_div (thursday -ℤ gregorian_start year) 7 +ℤ pos 1
