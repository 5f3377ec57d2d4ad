-- What an ISO year is in a list of Gregorian years that are counted from a year of their own.
use Rattle.std.proofs.Common.{◌≡◌, ◌↔◌, ℕ, Bool, IsTrue, if◌then◌else◌, sym, ap, subst, ◌∙◌, ℤ, ◌+ℤ◌}
use Rattle.cal_days.specs.Gregorian.{gregorian_leap, gregorian_start, gregorian_year_length}
use Rattle.cal_types.specs.CalendarList.{date, month_length, year_length, start_of_year, day_number, IsDate, IsOn}
use Rattle.cal_types.proofs.RenumberedLemmas.{start_of_year-renumbered, day_number-renumbered, renumbered-date, on-renumbered}
use Rattle.cal_base.specs.GregorianList.{gregorian_list, gregorian_month_length}
use Rattle.cal_base.specs.laws.GregorianMonths.{leap_is, month_length-gregorian, year_length-gregorian}
use Rattle.cal_base.specs.laws.GregorianLaws.{start_of_year-gregorian}
use Rattle.cal_base.specs.OffsetList.{offset_list, extended_year_from}
use Rattle.cal_base.specs.laws.OffsetListLaws.{number-extended, offset_list-months}
use Rattle.cal_base.specs.declared.numbered_year.NumberedYear.{NumberedYear}

module _ (offset : ℤ) (year : NumberedYear) where
  extended-number : extended_year_from offset year +ℤ offset ≡ year.number
  extended-number = sym (number-extended offset year)

  -- what the test of a leap year tells
  pub leap_year-offset : (r : Bool) → IsTrue r ↔ IsTrue (gregorian_leap year.number) → gregorian_leap (extended_year_from offset year +ℤ offset) ≡ r
  leap_year-offset r h = leap_is gregorian_leap r (extended_year_from offset year +ℤ offset) year.number (number-extended offset year) h

  pub start_of_year-offset : start_of_year (offset_list offset) (extended_year_from offset year) ≡ gregorian_start year.number
  start_of_year-offset =
      start_of_year-renumbered offset gregorian_list (extended_year_from offset year)
      ∙ (start_of_year-gregorian (extended_year_from offset year +ℤ offset) ∙ ap gregorian_start extended-number)

  pub year_days-offset : year_length (offset_list offset) (extended_year_from offset year) ≡ gregorian_year_length year.number
  year_days-offset =
      year_length-gregorian (λ y. gregorian_leap (y +ℤ offset)) (offset_list offset) (offset_list-months offset) (extended_year_from offset year)
      ∙ ap gregorian_year_length extended-number

  pub month_length-offset : (r : Bool) (i : ℕ) → IsTrue r ↔ IsTrue (gregorian_leap year.number) → month_length (offset_list offset) (extended_year_from offset year) i ≡ gregorian_month_length r i
  month_length-offset r i h =
      month_length-gregorian (λ y. gregorian_leap (y +ℤ offset)) (offset_list offset) (offset_list-months offset) (extended_year_from offset year) i
      ∙ ap (λ (b : Bool). gregorian_month_length b i) (leap_year-offset r h)

  pub day_number-offset : (i d : ℕ) → day_number (offset_list offset) (date (extended_year_from offset year) i d) ≡ day_number gregorian_list (date year.number i d)
  day_number-offset i d =
      day_number-renumbered offset gregorian_list (date (extended_year_from offset year) i d)
      ∙ ap (λ (y : ℤ). day_number gregorian_list (date y i d)) extended-number

  -- a date of the list is one of the ISO year
  pub offset-date : (i d : ℕ) → IsDate (offset_list offset) (date (extended_year_from offset year) i d) → IsDate gregorian_list (date year.number i d)
  offset-date i d h = subst (λ (y : ℤ). IsDate gregorian_list (date y i d)) extended-number (renumbered-date offset gregorian_list (date (extended_year_from offset year) i d) h)

  -- a day of the ISO year is one of the list
  pub on-offset : (rd : ℤ) (i d : ℕ) → IsOn gregorian_list rd (date year.number i d) → IsOn (offset_list offset) rd (date (extended_year_from offset year) i d)
  on-offset rd i d h = on-renumbered offset gregorian_list rd (date (extended_year_from offset year) i d) (subst (λ (y : ℤ). IsOn gregorian_list rd (date y i d)) (number-extended offset year) h)
