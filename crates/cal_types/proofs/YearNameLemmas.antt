-- What eras read as, and reference years of months that each have one.
use Rattle.std.proofs.Common.{◌≡◌, ◌↔◌, ℤ, Bool, true, false, Option, Some, None, Err, refl, sym, subst}
use Rattle.cal_errors.specs.declared.errors.EcmaReferenceYearError.TheVariants.{MonthNotInCalendar, UseRegularIfConstrain}
use Rattle.cal_types.specs.YearNames.{year_in_era, reference_of_known}

-- a fact of the year of one era and of the years of those behind it is one of each year that is read
pub year_in_era-some : (P : ℤ → Type 0) (is_era : Bool) (x : ℤ) (others : Option ℤ) → P x → ((y : ℤ) → others ≡ Some y → P y) → (y : ℤ) → year_in_era is_era x others ≡ Some y → P y
year_in_era-some P true x others here behind y e = let same : x ≡ y = cc in subst P same here
year_in_era-some P false x others here behind y e = behind y e

-- behind the last era nothing is read
pub no_era-some : (P : ℤ → Type 0) (y : ℤ) → ◌≡◌ {A = Option ℤ} None (Some y) → P y
no_era-some P y e = cc

-- a month that the calendar knows has its year, and another is refused as such
pub reference_of_known-kind : (is_known : Bool) (y : ℤ) → (reference_of_known is_known y ≡ Err MonthNotInCalendar) ↔ (is_known ≡ false)
reference_of_known-kind true y = (λ e. cc, λ e. cc)
reference_of_known-kind false y = (λ e. refl, λ e. refl)

-- the same, where the calendar's own test says which months it knows
pub reference_of_known-tested : (is_known is_of_kind : Bool) (y : ℤ) → is_of_kind ≡ is_known → (reference_of_known is_known y ≡ Err MonthNotInCalendar) ↔ (is_of_kind ≡ false)
reference_of_known-tested is_known is_of_kind y same =
    subst (λ (b : Bool). (reference_of_known is_known y ≡ Err MonthNotInCalendar) ↔ (b ≡ false)) (sym same) (reference_of_known-kind is_known y)

-- so no month leaves its place to another
pub reference_of_known-stands : {Q : Type 0} (is_known : Bool) (y : ℤ) → reference_of_known is_known y ≡ Err UseRegularIfConstrain → Q
reference_of_known-stands true y e = cc
reference_of_known-stands false y e = cc
