-- What a calendar cites whose years are known by their number alone,
-- so that its dates belong where they are valid dates of its list.
use Rattle.std.proofs.Common.{◌≡◌, ap}
use Rattle.std.specs.Prelude.{IsTrue, Some}
use Rattle.std.specs.Ordering.{int_cmp, int_eq}
use Rattle.cal_types.specs.CalendarList.{CalendarList, Date, day_number, is_valid_date}
use Rattle.cal_types.specs.DateOrder.{date_eq, date_cmp}
use Rattle.cal_types.proofs.DateTests.{is_valid_date-true}
use Rattle.cal_types.proofs.OrderLemmas.{dates-equal, dates-ordered}

module _ (list : CalendarList) (t u : Date) (h : IsTrue (is_valid_date list t))
    (k : IsTrue (is_valid_date list u)) where
  -- dates are equal where their day numbers are
  pub numbered_equal : date_eq t u ≡ int_eq (day_number list t) (day_number list u)
  numbered_equal = dates-equal list t u (is_valid_date-true list t h).date (is_valid_date-true list u k).date

  -- and are ordered as these
  pub numbered_ordered : Some (date_cmp t u) ≡ Some (int_cmp (day_number list t) (day_number list u))
  numbered_ordered =
      ap Some (dates-ordered list t u (is_valid_date-true list t h).date (is_valid_date-true list u k).date)
