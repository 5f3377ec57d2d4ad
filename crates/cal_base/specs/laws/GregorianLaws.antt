-- The days on which the years of the Gregorian list start, and the bounds of the list.
use Rattle.std.proofs.Common.{◌≡◌, ℕ, refl, sym, ap, ◌∙◌, arith, ℤ, pos, neg_ℤ, ◌+ℤ◌, ◌≤ℤ◌, ◌<ℤ◌}
use Rattle.cal_days.specs.Day.{IsBetween}
use Rattle.cal_days.specs.Division.{floor_div}
use Rattle.cal_days.specs.Gregorian.{gregorian_leap, gregorian_start, gregorian_year_length, leap_days_through}
use Rattle.cal_days.proofs.Signed.{signed}
use Rattle.cal_days.proofs.GregorianLemmas.{gregorian_start-bounds, gregorian_start-next, year_of_valid_day}
use Rattle.cal_types.specs.CalendarList.{Date, day_number, start_of_year, year_length, IsDate, IsValidDate}
use Rattle.cal_types.specs.PlainMonths.{HasPlainMonths}
use Rattle.cal_types.specs.RenumberedBounds.{IsBounded}
use Rattle.cal_types.proofs.ListLemmas.{date-in_year, start_of_year-unique}
use Rattle.cal_types.proofs.PlainMonthLemmas.{apart-plain}
use Rattle.cal_base.specs.GregorianList.{gregorian_list, HasGregorianMonths}
use Rattle.cal_base.specs.laws.GregorianMonths.{gregorian-plain, year_length-gregorian}

pub gregorian_list-months : HasGregorianMonths gregorian_leap gregorian_list
unfolding gregorian_list
gregorian_list-months = record { entries = λ y. refl; kind = λ m. refl }

pub gregorian_list-plain : HasPlainMonths 12 gregorian_list
gregorian_list-plain = gregorian-plain gregorian_leap gregorian_list gregorian_list-months

year_days : (y : ℤ) → year_length gregorian_list y ≡ gregorian_year_length y
year_days y = year_length-gregorian gregorian_leap gregorian_list gregorian_list-months y

gregorian_start-anchor : gregorian_start gregorian_list.anchor_year ≡ gregorian_list.anchor_day
unfolding gregorian_list gregorian_start leap_days_through floor_div
gregorian_start-anchor = refl

-- each year of the list starts where the closed form says
pub start_of_year-gregorian : (y : ℤ) → start_of_year gregorian_list y ≡ gregorian_start y
start_of_year-gregorian y =
    start_of_year-unique gregorian_list gregorian_start gregorian_start-anchor
    (λ z. gregorian_start-next z ∙ ap (λ (n : ℕ). gregorian_start z +ℤ pos n) (sym (year_days z))) y

-- a date lies between its year's start and the next
pub day_number-gregorian : (t : Date) → IsDate gregorian_list t → (gregorian_start t.year ≤ℤ day_number gregorian_list t) × (day_number gregorian_list t <ℤ gregorian_start (t.year +ℤ pos 1))
day_number-gregorian t h =
    let start = start_of_year-gregorian t.year in
    (omega (arith, signed, start), omega (arith, signed, start, h.day.0, date-in_year gregorian_list t h, year_days t.year, gregorian_start-next t.year))

-- the ISO year of a valid day
pub iso_year-valid : (t : Date) → IsValidDate gregorian_list t → IsBetween (neg_ℤ (pos 999999)) (pos 999999) t.year
iso_year-valid t h = let within = day_number-gregorian t h.date in year_of_valid_day (day_number gregorian_list t) t.year h.valid within.0 within.1

-- the bounds of the list, from which those of the calendars follow that count its years from a year of their own
pub gregorian_list-bounded : IsBounded gregorian_list
gregorian_list-bounded = record {
  near = λ t year h.
      let within = day_number-gregorian t h in
      let low = gregorian_start-bounds t.year in
      let high = gregorian_start-bounds (t.year +ℤ pos 1) in
      (omega (arith, signed, within.0, low), omega (arith, signed, within.1, high));
  ranged = λ t h. let year = iso_year-valid t h in (omega (arith, signed, year), omega (arith, signed, year));
  apart = λ t u h k.
      let first = iso_year-valid t h in
      let second = iso_year-valid u k in
      apart-plain 12 gregorian_list gregorian_list-plain t u h.date.place k.date.place
      (omega (arith, signed, first), omega (arith, signed, first)) (omega (arith, signed, second), omega (arith, signed, second));
  covered = λ t year h.
      let within = day_number-gregorian t h in
      let low = gregorian_start-bounds t.year in
      let high = gregorian_start-bounds (t.year +ℤ pos 1) in
      (omega (arith, signed, within.0, low), omega (arith, signed, within.1, high));
}
