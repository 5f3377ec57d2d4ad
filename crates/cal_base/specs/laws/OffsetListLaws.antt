-- A list of Gregorian years that are counted from a year of their own is a calendar's, and what its ISO years are in it.
use Rattle.std.proofs.Common.{true, ◌≡◌, sym, ap, arith, ℤ, pos, neg_ℤ, ◌+ℤ◌}
use Rattle.cal_days.specs.Day.{IsCoveredYear, IsFieldYear, IsShiftedYear, IsValidDay, is_between}
use Rattle.cal_days.specs.Gregorian.{gregorian_leap}
use Rattle.cal_days.proofs.Signed.{signed}
use Rattle.cal_days.proofs.RangeLemmas.{is_between-true}
use Rattle.cal_types.specs.CalendarList.{Date, IsDate, IsLawful, IsValidDate, day_number}
use Rattle.cal_types.specs.PlainMonths.{HasPlainMonths}
use Rattle.cal_types.proofs.PlainMonthLemmas.{plain-lawful, renumbered-plain}
use Rattle.cal_types.proofs.RenumberedBoundLemmas.{ranged-renumbered, covered-renumbered}
use Rattle.cal_arith.specs.Given.{IsGiven}
use Rattle.cal_base.specs.GregorianList.{gregorian_list, HasGregorianMonths}
use Rattle.cal_base.specs.laws.GregorianMonths.{renumbered-gregorian}
use Rattle.cal_base.specs.laws.GregorianLaws.{gregorian_list-bounded, gregorian_list-months, gregorian_list-plain}
use Rattle.cal_base.specs.OffsetList.{offset_list, offset_years, IsOffset, iso_year_of, extended_year_from}
use Rattle.cal_base.specs.declared.numbered_year.NumberedYear.{NumberedYear}

-- each year has the months of its ISO year
pub offset_list-months : (offset : ℤ) → HasGregorianMonths (λ y. gregorian_leap (y +ℤ offset)) (offset_list offset)
offset_list-months offset = renumbered-gregorian gregorian_leap gregorian_list offset gregorian_list-months

pub offset_list-plain : (offset : ℤ) → HasPlainMonths 12 (offset_list offset)
offset_list-plain offset = renumbered-plain 12 gregorian_list gregorian_list-plain offset

pub offset_list-lawful : (offset : ℤ) → IsLawful (offset_list offset)
offset_list-lawful offset = plain-lawful 12 (offset_list offset) (offset_list-plain offset)

-- the years of valid days are small, and the days of small years are valid
pub offset_list-ranged : (offset : ℤ) → IsOffset offset → (t : Date) → IsValidDate (offset_list offset) t → IsFieldYear t.year
offset_list-ranged offset small t h = (ranged-renumbered offset small gregorian_list gregorian_list-bounded t h).0

-- and so do their ISO years
pub offset_list-shifted : (offset : ℤ) → IsOffset offset → (t : Date) → IsValidDate (offset_list offset) t → IsFieldYear (t.year +ℤ offset)
offset_list-shifted offset small t h = (ranged-renumbered offset small gregorian_list gregorian_list-bounded t h).1

pub offset_list-covered : (offset : ℤ) → IsOffset offset → (t : Date) → IsCoveredYear t.year → IsDate (offset_list offset) t → IsValidDay (day_number (offset_list offset) t)
offset_list-covered offset small = covered-renumbered offset small gregorian_list gregorian_list-bounded

-- an extended year comes back from its ISO year
pub extended_year-iso : (offset y : ℤ) → extended_year_from offset (iso_year_of offset y) ≡ y
extended_year-iso offset y = omega (arith, signed)

-- and an ISO year from its extended year
pub number-extended : (offset : ℤ) (year : NumberedYear) → year.number ≡ extended_year_from offset year +ℤ offset
number-extended offset year = omega (arith, signed)

pub iso_year-extended : (offset : ℤ) (year : NumberedYear) → iso_year_of offset (extended_year_from offset year) ≡ year
iso_year-extended offset year = ap numbered (sym (number-extended offset year)) where
  numbered : ℤ → NumberedYear
  numbered n = record { number = n }

-- the ISO year of a given year
pub given-iso : (offset : ℤ) → IsOffset offset → (year : NumberedYear) → IsGiven (offset_years offset) year → IsShiftedYear year.number
given-iso offset small year given = (omega (arith, signed, small, given.range), omega (arith, signed, small, given.range))

-- an offset that passes the test lies in the range
pub true-offset : (offset : ℤ) → is_between (neg_ℤ (pos 9999)) (pos 9999) offset ≡ true → IsOffset offset
true-offset offset h = is_between-true (neg_ℤ (pos 9999)) (pos 9999) offset h
