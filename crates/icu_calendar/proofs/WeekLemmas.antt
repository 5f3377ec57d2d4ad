-- Weeks: the Thursday of a day's week, which is valid where the day is.
use Rattle.std.proofs.Common.{◌≡◌, ℕ, ◌+◌, ◌/◌, arith, ℤ, pos, ◌+ℤ◌, ◌-ℤ◌, ◌≤ℤ◌, ◌<ℤ◌}
use Rattle.cal_days.specs.Day.{IsValidDay}
use Rattle.cal_days.specs.Division.{floor_mod}
use Rattle.cal_days.proofs.Signed.{signed}
use Rattle.cal_days.proofs.DivisionLemmas.{floor_parts}
use Rattle.cal_days.specs.Gregorian.{gregorian_start}
use Rattle.cal_days.proofs.GregorianLemmas.{gregorian_start-bounds}
use Rattle.icu_calendar.specs.Weeks.{IsThursdayOf, IsInWeek}

pub thursday_found : (day thursday : ℤ) → thursday ≡ day +ℤ pos 3 -ℤ pos (floor_mod (day -ℤ pos 1) 7) → IsThursdayOf day thursday
thursday_found day thursday e =
    let rest = floor_parts (day -ℤ pos 1) 7 (omega arith) in
    record {
      weekday = omega (arith, signed, rest, floor_parts thursday 7);
      monday = omega (arith, signed, rest);
      sunday = omega (arith, signed, rest);
    }

-- the first valid day is a Monday, and the last a Friday
pub thursday-valid : (day thursday : ℤ) → thursday ≡ day +ℤ pos 3 -ℤ pos (floor_mod (day -ℤ pos 1) 7) → IsValidDay day → IsValidDay thursday
thursday-valid day thursday e h =
    let rest = floor_parts (day -ℤ pos 1) 7 (omega arith) in
    (omega (arith, signed, rest, h), omega (arith, signed, rest, h))

-- the days of a year before a Thursday in it
pub days_before_thursday : (thursday y : ℤ) → gregorian_start y ≤ℤ thursday → thursday <ℤ gregorian_start (y +ℤ pos 1) → (pos 0 ≤ℤ (thursday -ℤ gregorian_start y)) × ((thursday -ℤ gregorian_start y) <ℤ pos 371)
days_before_thursday thursday y first last =
    (omega (arith, signed), omega (arith, signed, gregorian_start-bounds y, gregorian_start-bounds (y +ℤ pos 1)))

-- the week of a day, from its Thursday's day of the year
pub week_counted : (day thursday y : ℤ) (n : ℕ) → IsThursdayOf day thursday → gregorian_start y ≤ℤ thursday → thursday <ℤ gregorian_start (y +ℤ pos 1) → pos n ≡ thursday -ℤ gregorian_start y → IsInWeek day y (n / 7 + 1)
week_counted day thursday y n of first last e = record {
  thursday = thursday;
  of = of;
  first = first;
  last = last;
  number = omega (arith, signed, floor_parts (thursday -ℤ gregorian_start y) 7);
}
