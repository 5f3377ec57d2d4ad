-- Places of months that the calendar knows.
use Rattle.std.proofs.Common.{◌≡◌, ℕ, ℤ, true, None, ok_or, refl, sym, ◌∙◌}
use Rattle.cal_types.specs.Month.{MonthParts}
use Rattle.cal_types.specs.declared.options.Overflow.{Overflow}
use Rattle.cal_types.specs.declared.options.Overflow.TheVariants.{Constrain}
use Rattle.cal_errors.specs.declared.errors.MonthError.TheVariants.{NotInYear}
use Rattle.cal_types.specs.CalendarList.{CalendarList, HasPlace, IsLawful, month_at, spot}
use Rattle.cal_arith.specs.Places.{ordinal_month}

-- a month of one year has a spot in each under Constrain
pub stands-some : (c : CalendarList) → IsLawful c → (y : ℤ) (i : ℕ) (z : ℤ) → HasPlace c y i → ¬ (spot c z (month_at c y i) Constrain ≡ None)
stands-some c law y i z h none =
    let stands = law.stands z (month_at c y i) (law.kind y i h) in
    let wrong = sym none ∙ stands.1 in
    cc
