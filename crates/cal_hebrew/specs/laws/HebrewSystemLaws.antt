-- What belonging to the Hebrew calendar says, and when a year is the calendar's.
use Rattle.std.proofs.Common.{◌≡◌, ◌↔◌, ℕ, ap, refl, arith}
use Rattle.std.specs.Prelude.{IsTrue, nat_eq}
use Rattle.std.proofs.lemmas.Bool.Decides.{nat_tests}
use Rattle.cal_days.specs.Hebrew.{hebrew_year_length}
use Rattle.cal_types.specs.CalendarList.{IsValidDate, is_valid_date}
use Rattle.cal_types.proofs.DateTests.{and-right, is_valid_date-true}
use Rattle.cal_hebrew.specs.HebrewList.{hebrew_list, hebrew_years}
use Rattle.cal_hebrew.specs.HebrewSystem.{has_hebrew_length, hebrew_date, hebrew_belongs}
use Rattle.cal_hebrew.specs.laws.SameYears.{same_parts}
use Rattle.cal_hebrew.specs.declared.hebrew_year.HebrewYear.{HebrewYear}
use Rattle.cal_hebrew.specs.declared.hebrew.HebrewDateInner.{HebrewDateInner}

same_length : (n m : ℕ) → n ≡ m → IsTrue (nat_eq n m)
same_length n m e = grind (arith, nat_tests)

length_same : (n m : ℕ) → IsTrue (nat_eq n m) → n ≡ m
length_same n m e = grind (arith, nat_tests)

-- the test of a year says that it is the calendar's year of its number
pub has_hebrew_length-tested : (y : HebrewYear) → IsTrue (has_hebrew_length y) ↔ (hebrew_years.year_of (hebrew_years.extended y) ≡ y)
has_hebrew_length-tested y = (λ h. same_parts (hebrew_years.year_of y.extended_year) y refl (length_same (hebrew_year_length y.extended_year) y.length h), λ e. same_length (hebrew_year_length y.extended_year) y.length (ap (λ (x : HebrewYear). x.length) e))

-- what belongs is a valid date of the list
pub hebrew_belongs-valid : (d : HebrewDateInner) → IsTrue (hebrew_belongs d) → IsTrue (is_valid_date hebrew_list (hebrew_date d))
hebrew_belongs-valid d h = and-right (has_hebrew_length d.0.parts.year) (is_valid_date hebrew_list (hebrew_date d)) h

pub hebrew_belongs-dated : (d : HebrewDateInner) → IsTrue (hebrew_belongs d) → IsValidDate hebrew_list (hebrew_date d)
hebrew_belongs-dated d h = is_valid_date-true hebrew_list (hebrew_date d) (hebrew_belongs-valid d h)
