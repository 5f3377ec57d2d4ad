-- What belonging to a Persian calendar says, and what calendars with the same corrections share.
use Rattle.std.proofs.Common.{◌≡◌, List, ℤ, sym, ap, subst, ◌∙◌}
use Rattle.std.specs.Prelude.{IsTrue}
use Rattle.std.specs.Cmp.{int_eq_equiv}
use Rattle.std.specs.Cmp.Lexicographic.{lists_equiv}
use Rattle.cal_types.specs.CalendarList.{IsValidDate, day_number, is_valid_date}
use Rattle.cal_types.proofs.DateTests.{is_valid_date-true}
use Rattle.cal_julian.specs.PersianCorrected.{are_corrected_alike, corrected_years}
use Rattle.cal_julian.specs.PersianList.{persian_list}
use Rattle.cal_julian.specs.laws.PersianLaws.{same_years}
use Rattle.cal_julian.specs.PersianSystem.{persian_date, persian_belongs}
use Rattle.cal_julian.specs.declared.persian.Persian.{Persian}
use Rattle.cal_julian.specs.declared.persian.PersianDateInner.{PersianDateInner}

-- what belongs is a date of the list
pub persian_belongs-dated : (s : Persian) (d : PersianDateInner) → IsTrue (persian_belongs s d) → IsValidDate (persian_list (corrected_years s)) (persian_date d)
persian_belongs-dated s d h = is_valid_date-true (persian_list (corrected_years s)) (persian_date d) h

pub persian_alike-back : (s t : Persian) → IsTrue (are_corrected_alike s t) → IsTrue (are_corrected_alike t s)
persian_alike-back s t h = sym ((lists_equiv int_eq_equiv).symm (corrected_years s) (corrected_years t)) ∙ h

pub persian_alike-on : (s t u : Persian) → IsTrue (are_corrected_alike s t) → IsTrue (are_corrected_alike t u) → IsTrue (are_corrected_alike s u)
persian_alike-on s t u h k = (lists_equiv int_eq_equiv).congr (corrected_years s) (corrected_years t) (corrected_years u) h ∙ k

-- a date belongs to both or to neither
pub persian_belongs-shared : (s t : Persian) (d : PersianDateInner) → IsTrue (are_corrected_alike s t) → IsTrue (persian_belongs s d) → IsTrue (persian_belongs t d)
persian_belongs-shared s t d h k =
    subst (λ (years : List ℤ). IsTrue (is_valid_date (persian_list years) (persian_date d))) (same_years (corrected_years s) (corrected_years t) h) k

-- with the same day number
pub persian_day-shared : (s t : Persian) (d : PersianDateInner) → IsTrue (are_corrected_alike s t) → day_number (persian_list (corrected_years t)) (persian_date d) ≡ day_number (persian_list (corrected_years s)) (persian_date d)
persian_day-shared s t d h = sym (ap (λ (years : List ℤ). day_number (persian_list years) (persian_date d)) (same_years (corrected_years s) (corrected_years t) h))
