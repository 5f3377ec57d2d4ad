-- The answers of the arithmetic of dates belong to the calendar.
use Rattle.std.proofs.Common.{neg_ℤ, pos, ◌-ℤ◌, to_z, of_z, w32, arith}
use Rattle.std.specs.Prelude.{ℤ, Result, Ok, Err, IsTrue, IfOk}
use Rattle.cal_days.specs.Day.{IsBetween, IsFieldYear, IsShiftedYear}
use Rattle.cal_days.proofs.Signed.{signed}
use Rattle.cal_arith.specs.Dates.{Belongs}
use Rattle.cal_arith.specs.Given.{IsGiven}
use Rattle.cal_arith.specs.declared.arithmetic_date.ArithmeticDate.{ArithmeticDate}
use Rattle.cal_base.specs.declared.numbered_year.NumberedYear.{NumberedYear}
use Rattle.cal_base.specs.OffsetList.{IsOffset, offset_years}
use Rattle.cal_base.specs.OffsetSystem.{kept_belongs}
use Rattle.cal_base.specs.laws.OffsetListLaws.{iso_year-extended}
use Rattle.cal_base.specs.laws.OffsetSystemLaws.{belongs-kept}

-- the year that keeps a number
abbrev pub kept_number : ℤ → NumberedYear
kept_number n = record { number = n }

pub ok-belongs : {C E : Type 0} (offset : ℤ) (r : Result (ArithmeticDate C NumberedYear) E) → IfOk r (λ a. Belongs (offset_years offset) a.parts) → IfOk r (λ a. IsTrue (kept_belongs a.parts))
ok-belongs offset (Ok a) h = belongs-kept offset a.parts h
ok-belongs offset (Err e) h = h

-- an ISO year as an argument
pub shifted_argument : (n : ℤ) → IsShiftedYear n → IsShiftedYear (to_z w32 (of_z w32 n))
shifted_argument n h = (omega (arith, signed, h), omega (arith, signed, h))

-- the extended year of an ISO year of a valid day
pub field_kept : (n offset : ℤ) → IsBetween (neg_ℤ (pos 1000000)) (pos 1000000) n → IsOffset offset → IsFieldYear (to_z w32 (of_z w32 n) -ℤ offset)
field_kept n offset h small = (omega (arith, signed, h, small), omega (arith, signed, h, small))

-- such an ISO year is given
pub given_kept : (n offset : ℤ) → IsBetween (neg_ℤ (pos 1000000)) (pos 1000000) n → IsOffset offset → IsGiven (offset_years offset) (kept_number (to_z w32 (of_z w32 n)))
given_kept n offset h small =
    let field = field_kept n offset h small in
    record { same = iso_year-extended offset (kept_number (to_z w32 (of_z w32 n))); range = (omega (arith, signed, field), omega (arith, signed, field)) }
