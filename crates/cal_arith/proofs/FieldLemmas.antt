-- Places of months that were found, eras that were read, and numbers that were tested.
use Rattle.std.proofs.Common.{◌≡◌, ℕ, ℤ, ◌≤◌, Bool, true, false, Option, Some, None, Result, Ok, Err, refl, ap, ◌∙◌, arith}
use Rattle.std.specs.Prelude.{◌&&◌, nat_le}
use Rattle.std.proofs.lemmas.Bool.Decides.{nat_tests}
use Rattle.cal_types.specs.Month.{MonthParts}
use Rattle.cal_types.specs.declared.options.Overflow.{Overflow}
use Rattle.cal_errors.specs.declared.errors.MonthError.{MonthError}
use Rattle.cal_errors.specs.declared.errors.MonthError.TheVariants.{NotInCalendar, NotInYear}
use Rattle.cal_types.specs.CalendarList.{CalendarList, HasPlace, spot}
use Rattle.cal_types.proofs.ListLemmas.{spot-place}
use Rattle.cal_arith.specs.FieldNames.{era_read}
use Rattle.cal_arith.specs.Places.{ordinal_month}

-- a number that passes the test lies from 1 to the last one
pub up_to-true : (r : Bool) (n last most : ℕ) → r ≡ (nat_le 1 n && nat_le n last) → r ≡ true → last ≡ most → (1 ≤ n) × (n ≤ most)
up_to-true r n last most is on same = (grind (arith, nat_tests), grind (arith, nat_tests))

-- a month that has a place is one of the calendar's, and that is its spot
pub ordinal_month-ok : (c : CalendarList) (y : ℤ) (m : MonthParts) (o : Overflow) (i : ℕ) → ordinal_month c y m o ≡ Ok i → (c.is_of_kind m ≡ true) × (spot c y m o ≡ Some i)
ordinal_month-ok c y m o i e = known (c.is_of_kind m) (spot c y m o) refl refl where
  never : (f : MonthError) → ◌≡◌ {A = Result ℕ MonthError} (Err f) (Ok i) → ⊥
  never f e = cc

  known : (b : Bool) (s : Option ℕ) → c.is_of_kind m ≡ b → spot c y m o ≡ s → (c.is_of_kind m ≡ true) × (spot c y m o ≡ Some i)
  known true (Some j) kind place =
      let ok : ◌≡◌ {A = Result ℕ MonthError} (Ok j) (Ok i) = rw (kind, place) at e in
      let same : j ≡ i = cc in
      (kind, place ∙ ap (λ (n : ℕ). Some n) same)
  known true None kind place = let fails : ◌≡◌ {A = Result ℕ MonthError} (Err NotInYear) (Ok i) = rw (kind, place) at e in absurd (never NotInYear fails)
  known false s kind place = let fails : ◌≡◌ {A = Result ℕ MonthError} (Err NotInCalendar) (Ok i) = rw kind at e in absurd (never NotInCalendar fails)

-- so the year has it
pub ordinal_month-place : (c : CalendarList) (y : ℤ) (m : MonthParts) (o : Overflow) (i : ℕ) → ordinal_month c y m o ≡ Ok i → HasPlace c y i
ordinal_month-place c y m o i e = spot-place c y m o i (ordinal_month-ok c y m o i e).1

-- an era that is read has the year
pub era_read-ok : (r : Option ℤ) (y : ℤ) → Ok y ≡ era_read r → r ≡ Some y
era_read-ok None y e = cc
era_read-ok (Some z) y e = cc
