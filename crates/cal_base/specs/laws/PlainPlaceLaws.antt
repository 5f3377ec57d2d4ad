-- The place of a month in a year of plain months, and in any other.
use Rattle.std.proofs.Common.{◌≡◌, ℕ, Bool, true, false, Some, refl, ap, ◌∙◌, ℤ}
use Rattle.cal_types.specs.Month.{MonthParts}
use Rattle.cal_types.specs.declared.options.Overflow.{Overflow}
use Rattle.cal_types.specs.CalendarList.{CalendarList, HasPlace, month_at, spot}
use Rattle.cal_types.specs.PlainMonths.{is_plain_month, numbered_month, HasPlainMonths}
use Rattle.cal_types.proofs.ListLemmas.{spot-own}
use Rattle.cal_types.proofs.PlainMonthLemmas.{place_of-plain, plain-month, plain-place, true-plain}
use Rattle.cal_arith.specs.Places.{ordinal_month}
use Rattle.cal_base.specs.PlainPlaces.{plain_place}

module _ (n : ℕ) (c : CalendarList) (has : HasPlainMonths n c) (y : ℤ) (m : MonthParts) (o : Overflow) where
  place_by : (b : Bool) → is_plain_month n m ≡ b → ordinal_month c y m o ≡ plain_place n m
  place_by true h = rw (has.kind m ∙ h, h, spot-own c y m o m.number (place_of-plain n c has y m h)) refl
  place_by false h = rw (has.kind m ∙ h, h) refl

  pub ordinal_month-plain : ordinal_month c y m o ≡ plain_place n m
  ordinal_month-plain = place_by (is_plain_month n m) refl

-- a month of one year stands in the same place of each
pub spot-plain : (n : ℕ) (c : CalendarList) (has : HasPlainMonths n c) (y z : ℤ) (i : ℕ) (o : Overflow) → HasPlace c y i → spot c z (month_at c y i) o ≡ Some i
spot-plain n c has y z i o h =
    let place = plain-place n c has y i h in
    let month = numbered_month i in
    ap (λ (m : MonthParts). spot c z m o) (plain-month n c has y i h) ∙ spot-own c z month o i (place_of-plain n c has z month (true-plain n i place.0 place.1))
