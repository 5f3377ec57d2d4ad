-- Dates of the Gregorian calendar.
use Rattle.std.proofs.Common.{◌≡◌, ℕ, false, ◌&&◌, nat_le, Option, Some, None, if◌then◌else◌, ℤ, pos, refl}
use Rattle.cal_types.specs.CalendarList.{date, day_number, is_date, month_count}
use Rattle.cal_base.specs.IsoSystem.{iso_list}
use Rattle.cal_base.specs.laws.OffsetListLaws.{offset_list-plain}

-- a year has twelve months
pub twelve_months : (y : ℤ) → month_count iso_list y ≡ 12
twelve_months y = (offset_list-plain (pos 0)).count y

-- a month that no year has
pub no-month : (y : ℤ) (m d : ℕ) → (nat_le 1 m && nat_le m 12) ≡ false →
    ◌≡◌ {A = Option ℤ} None (if is_date iso_list (date y m d) then Some (day_number iso_list (date y m d)) else None)
no-month y m d out =
    let none : (nat_le 1 m && nat_le m (month_count iso_list y)) ≡ false = rw (twelve_months y) out in
    rw none refl
