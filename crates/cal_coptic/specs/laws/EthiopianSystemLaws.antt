-- What belonging to the Ethiopian calendar says, and that both styles have the same dates.
use Rattle.std.proofs.Common.{◌≡◌, Some, sym, ap, ◌∙◌}
use Rattle.std.specs.Prelude.{IsTrue}
use Rattle.std.specs.Ordering.{int_cmp, int_eq}
use Rattle.cal_types.specs.CalendarList.{day_number, IsValidDate}
use Rattle.cal_types.specs.DateOrder.{date_eq, date_cmp}
use Rattle.cal_types.proofs.DateTests.{is_valid_date-true, true-is_valid_date}
use Rattle.cal_coptic.specs.CopticList.{coptic_list}
use Rattle.cal_types.proofs.CountedDateLemmas.{counted-valid, valid-counted, day_number-counted, counted-equal, counted-ordered}
use Rattle.cal_coptic.specs.EthiopianList.{coptic_offset, ethiopian_list}
use Rattle.cal_coptic.specs.EthiopianSystem.{kept_date, ethiopian_date, ethiopian_belongs}
use Rattle.cal_coptic.specs.declared.ethiopian.EthiopianDateInner.{EthiopianDateInner}
use Rattle.cal_coptic.specs.declared.ethiopian.EthiopianEraStyle.{EthiopianEraStyle}

-- what belongs is a date of the list
pub ethiopian_belongs-dated : (style : EthiopianEraStyle) (d : EthiopianDateInner) → IsTrue (ethiopian_belongs style d) → IsValidDate (ethiopian_list (coptic_offset style)) (ethiopian_date style d)
ethiopian_belongs-dated style d h = is_valid_date-true (ethiopian_list (coptic_offset style)) (ethiopian_date style d) h

-- and one of the Coptic list
pub ethiopian_belongs-kept : (style : EthiopianEraStyle) (d : EthiopianDateInner) → IsTrue (ethiopian_belongs style d) → IsValidDate coptic_list (kept_date d)
ethiopian_belongs-kept style d h = valid-counted (coptic_offset style) coptic_list (kept_date d) (ethiopian_belongs-dated style d h)

-- dates that belong are equal and ordered as their day numbers
pub ethiopian_dates-equal : (style : EthiopianEraStyle) (a b : EthiopianDateInner) → IsTrue (ethiopian_belongs style a) → IsTrue (ethiopian_belongs style b) → date_eq (kept_date a) (kept_date b) ≡ int_eq (day_number (ethiopian_list (coptic_offset style)) (ethiopian_date style a)) (day_number (ethiopian_list (coptic_offset style)) (ethiopian_date style b))
ethiopian_dates-equal style a b h k =
    counted-equal (coptic_offset style) coptic_list (kept_date a) (kept_date b) (ethiopian_belongs-kept style a h).date (ethiopian_belongs-kept style b k).date

pub ethiopian_dates-ordered : (style : EthiopianEraStyle) (a b : EthiopianDateInner) → IsTrue (ethiopian_belongs style a) → IsTrue (ethiopian_belongs style b) → Some (date_cmp (kept_date a) (kept_date b)) ≡ Some (int_cmp (day_number (ethiopian_list (coptic_offset style)) (ethiopian_date style a)) (day_number (ethiopian_list (coptic_offset style)) (ethiopian_date style b)))
ethiopian_dates-ordered style a b h k =
    ap Some (counted-ordered (coptic_offset style) coptic_list (kept_date a) (kept_date b) (ethiopian_belongs-kept style a h).date (ethiopian_belongs-kept style b k).date)

-- a date of one style is one of the other, on the same day
pub ethiopian_belongs-shared : (style other : EthiopianEraStyle) (d : EthiopianDateInner) → IsTrue (ethiopian_belongs style d) → IsTrue (ethiopian_belongs other d)
ethiopian_belongs-shared style other d h =
    true-is_valid_date (ethiopian_list (coptic_offset other)) (ethiopian_date other d)
    (counted-valid (coptic_offset other) coptic_list (kept_date d) (ethiopian_belongs-kept style d h))

pub ethiopian_day-shared : (style other : EthiopianEraStyle) (d : EthiopianDateInner) → day_number (ethiopian_list (coptic_offset other)) (ethiopian_date other d) ≡ day_number (ethiopian_list (coptic_offset style)) (ethiopian_date style d)
ethiopian_day-shared style other d =
    day_number-counted (coptic_offset other) coptic_list (kept_date d) ∙ sym (day_number-counted (coptic_offset style) coptic_list (kept_date d))
