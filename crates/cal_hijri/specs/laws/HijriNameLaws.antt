-- The eras of a Hijri calendar are in range, and its reference years are those of its months.
use Rattle.std.specs.Prelude.{◌≡◌, ◌↔◌, ℕ, Bool, true, false, List, codes, Some, None, Result, Err, ℤ, pos, ◌-ℤ◌, int_lt}
use Rattle.std.proofs.Common.{refl, sym, ◌∙◌, arith}
use Rattle.cal_days.specs.Day.{IsFieldYear, IsRuleYear, IsNearEra, IsConstructorYear}
use Rattle.cal_days.proofs.Signed.{signed}
use Rattle.cal_types.specs.Month.{MonthParts}
use Rattle.cal_types.specs.Year.{extended_year_of}
use Rattle.cal_errors.specs.declared.errors.EcmaReferenceYearError.{EcmaReferenceYearError}
use Rattle.cal_errors.specs.declared.errors.EcmaReferenceYearError.TheVariants.{MonthNotInCalendar, Unimplemented, UseRegularIfConstrain}
use Rattle.cal_types.specs.declared.year.YearInfo.TheVariants.{Era}
use Rattle.cal_types.specs.PlainMonths.{is_plain_month}
use Rattle.cal_types.specs.YearNames.{is_code}
use Rattle.cal_types.proofs.YearNameLemmas.{year_in_era-some, no_era-some}
use Rattle.cal_hijri.specs.HijriNames.{hijri_reads, era_year_by, hijri_era_year, reference_of_rules, hijri_names, AreReferences}

-- rules without reference years keep it
pub no-references : AreReferences (λ _ _. Err Unimplemented)
no-references = record { range = λ m d y e. cc; kind = λ m d e. cc; stands = λ m d e. cc }

pub hijri_reads-in_range : (era : List ℕ) (n y : ℤ) → IsFieldYear n → hijri_reads era n ≡ Some y → IsRuleYear y
hijri_reads-in_range era n y h e =
    year_in_era-some IsRuleYear _ n _ (omega (arith, signed, h), omega (arith, signed, h))
    (year_in_era-some IsRuleYear (is_code era (codes "bh")) (pos 1 -ℤ n) None (omega (arith, signed, h), omega (arith, signed, h)) (no_era-some IsRuleYear)) y e

pub hijri_reads-near : (era : List ℕ) (n y : ℤ) → IsConstructorYear n → hijri_reads era n ≡ Some y → IsNearEra y
hijri_reads-near era n y h e =
    year_in_era-some IsNearEra _ n _ (omega (arith, signed, h), omega (arith, signed, h))
    (year_in_era-some IsNearEra (is_code era (codes "bh")) (pos 1 -ℤ n) None (omega (arith, signed, h), omega (arith, signed, h)) (no_era-some IsNearEra)) y e

named_by : (before : Bool) (y : ℤ) → extended_year_of (Era (era_year_by before y)) ≡ y
named_by true y = refl
named_by false y = refl

-- a year in its era has its extended year
pub years-named : (y : ℤ) → extended_year_of (Era (hijri_era_year y)) ≡ y
years-named y = named_by (int_lt y (pos 1)) y

refused_by : (is_of_kind : Bool) (by_rules : Result ℤ EcmaReferenceYearError) → (by_rules ≡ Err MonthNotInCalendar → is_of_kind ≡ false) → (reference_of_rules is_of_kind by_rules ≡ Err MonthNotInCalendar) ↔ (is_of_kind ≡ false)
refused_by true by_rules h = (λ e. h e, λ e. cc)
refused_by false by_rules h = (λ e. refl, λ e. refl)

-- a month is refused as such exactly where the calendar lacks it
pub reference_of_kind : (reference : MonthParts → ℕ → Result ℤ EcmaReferenceYearError) → AreReferences reference → (m : MonthParts) (d : ℕ) (kind : Bool) → kind ≡ is_plain_month 12 m → ((hijri_names reference).reference m d ≡ Err MonthNotInCalendar) ↔ (kind ≡ false)
reference_of_kind reference law m d kind same =
    let known = refused_by (is_plain_month 12 m) (reference m d) (law.kind m d) in
    (λ e. same ∙ known.0 e, λ e. known.1 (sym same ∙ e))

stands_by : (is_of_kind : Bool) (by_rules : Result ℤ EcmaReferenceYearError) → (by_rules ≡ Err UseRegularIfConstrain → ⊥) → reference_of_rules is_of_kind by_rules ≡ Err UseRegularIfConstrain → ⊥
stands_by true by_rules h e = h e
stands_by false by_rules h e = cc

-- no month leaves its place to another
pub reference_of_leap_month : {Q : Type 0} (reference : MonthParts → ℕ → Result ℤ EcmaReferenceYearError) → AreReferences reference → (m : MonthParts) (d : ℕ) → (hijri_names reference).reference m d ≡ Err UseRegularIfConstrain → Q
reference_of_leap_month reference law m d e = absurd (stands_by (is_plain_month 12 m) (reference m d) (law.stands m d) e)
