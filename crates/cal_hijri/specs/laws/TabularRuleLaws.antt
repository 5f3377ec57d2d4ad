-- The years of tabular rules follow one another, and their reference years are in range.
use Rattle.std.proofs.Common.{◌≡◌, ℕ, ◌+◌, ◌*◌, Bool, true, false, if◌then◌else◌, refl, sym, ap, subst, ◌∙◌, arith, ℤ, pos, ◌+ℤ◌, Result, Ok, Err}
use Rattle.std.specs.Prelude.{IsTrue, nat_eq, nat_le}
use Rattle.std.proofs.lemmas.Cmp.{on_equiv, nat_eq_equiv}
use Rattle.std.specs.Cmp.{IsEquivalence}
use Rattle.std.specs.Ordering.{nat_cmp, ordering_then}
use Rattle.cal_days.specs.Day.{IsFieldYear}
use Rattle.cal_days.proofs.Signed.{signed}
use Rattle.cal_errors.specs.declared.errors.EcmaReferenceYearError.{EcmaReferenceYearError}
use Rattle.cal_errors.specs.declared.errors.EcmaReferenceYearError.TheVariants.{MonthNotInCalendar, UseRegularIfConstrain}
use Rattle.cal_types.specs.Month.{MonthParts}
use Rattle.cal_types.specs.PlainMonths.{is_plain_month}
use Rattle.cal_types.specs.YearNames.{reference_of_known}
use Rattle.cal_hijri.specs.HijriList.{Joins, Numbered}
use Rattle.cal_hijri.specs.HijriNames.{AreReferences}
use Rattle.cal_hijri.specs.RuleOrder.{epoch_place, leap_years_place}
use Rattle.cal_hijri.specs.TabularRules.{algorithm_of_rules, are_same_rules, last_reference_day, name_of_rules, rules_place, tabular_reference, tabular_reference_year, tabular_year}
use Rattle.cal_hijri.specs.TabularYears.{epoch_day, is_leap, tabular_start}
use Rattle.cal_hijri.specs.laws.TabularYearLaws.{days_by, next_by}
use Rattle.cal_hijri.specs.declared.tabular_algorithm.TabularAlgorithm.{TabularAlgorithm}
use Rattle.cal_hijri.specs.declared.tabular_algorithm.TabularAlgorithmEpoch.{TabularAlgorithmEpoch}
use Rattle.cal_hijri.specs.declared.tabular_algorithm.TabularAlgorithmEpoch.TheVariants.{Thursday, Friday}
use Rattle.cal_hijri.specs.declared.tabular_algorithm.TabularAlgorithmLeapYears.{TabularAlgorithmLeapYears}
use Rattle.cal_hijri.specs.declared.tabular_algorithm.TabularAlgorithmLeapYears.TheVariants.{TypeI, TypeII}

pub tabular-numbered : (s : TabularAlgorithm) → Numbered (tabular_year s)
tabular-numbered s y rule = refl

pub tabular-joins : (s : TabularAlgorithm) → Joins (tabular_year s)
tabular-joins s y here there =
    next_by s.leap_years (epoch_day s.epoch) y ∙ ap (λ (n : ℕ). tabular_start s y +ℤ pos n) (sym (days_by (is_leap s.leap_years y)))

abbrev rules_of : TabularAlgorithmLeapYears → TabularAlgorithmEpoch → TabularAlgorithm
rules_of l e = record { leap_years = l; epoch = e }

same_parts : (e f : TabularAlgorithmEpoch) (l m : TabularAlgorithmLeapYears) → IsTrue (nat_eq (2 * leap_years_place l + epoch_place e) (2 * leap_years_place m + epoch_place f)) → rules_of l e ≡ rules_of m f
same_parts Thursday Thursday TypeI TypeI h = refl
same_parts Thursday Thursday TypeI TypeII h = cc
same_parts Thursday Thursday TypeII TypeI h = cc
same_parts Thursday Thursday TypeII TypeII h = refl
same_parts Thursday Friday TypeI TypeI h = cc
same_parts Thursday Friday TypeI TypeII h = cc
same_parts Thursday Friday TypeII TypeI h = cc
same_parts Thursday Friday TypeII TypeII h = cc
same_parts Friday Thursday TypeI TypeI h = cc
same_parts Friday Thursday TypeI TypeII h = cc
same_parts Friday Thursday TypeII TypeI h = cc
same_parts Friday Thursday TypeII TypeII h = cc
same_parts Friday Friday TypeI TypeI h = refl
same_parts Friday Friday TypeI TypeII h = cc
same_parts Friday Friday TypeII TypeI h = cc
same_parts Friday Friday TypeII TypeII h = refl

-- rules in the same place are the same
pub same-rules : (s t : TabularAlgorithm) → IsTrue (are_same_rules s t) → s ≡ t
same-rules s t h = same_parts s.epoch t.epoch s.leap_years t.leap_years h

-- the same rules give the same years, reference years and names
pub tabular-shared : (s t : TabularAlgorithm) (y : ℤ) → IsTrue (are_same_rules s t) → tabular_year s y ≡ tabular_year t y
tabular-shared s t y h = ap (λ (r : TabularAlgorithm). tabular_year r y) (same-rules s t h)

pub tabular-shared_references : (s t : TabularAlgorithm) (m : MonthParts) (d : ℕ) → IsTrue (are_same_rules s t) → tabular_reference s m d ≡ tabular_reference t m d
tabular-shared_references s t m d h = ap (λ (r : TabularAlgorithm). tabular_reference r m d) (same-rules s t h)

pub tabular-shared_names : (s t : TabularAlgorithm) → IsTrue (are_same_rules s t) → (algorithm_of_rules s ≡ algorithm_of_rules t) × (name_of_rules s ≡ name_of_rules t)
tabular-shared_names s t h =
    let same = same-rules s t h in
    (ap algorithm_of_rules same, ap name_of_rules same)

-- rules are in order by their leap years, and then by their epoch
pub rules-ordered : (s t : TabularAlgorithm) → ordering_then (nat_cmp (leap_years_place s.leap_years) (leap_years_place t.leap_years)) (nat_cmp (epoch_place s.epoch) (epoch_place t.epoch)) ≡ nat_cmp (rules_place s) (rules_place t)
rules-ordered s t = ordered s.leap_years t.leap_years s.epoch t.epoch
  where
    ordered : (l m : TabularAlgorithmLeapYears) (e f : TabularAlgorithmEpoch) → ordering_then (nat_cmp (leap_years_place l) (leap_years_place m)) (nat_cmp (epoch_place e) (epoch_place f)) ≡ nat_cmp (2 * leap_years_place l + epoch_place e) (2 * leap_years_place m + epoch_place f)
    ordered TypeI TypeI Thursday Thursday = refl
    ordered TypeI TypeI Thursday Friday = refl
    ordered TypeI TypeI Friday Thursday = refl
    ordered TypeI TypeI Friday Friday = refl
    ordered TypeI TypeII Thursday Thursday = refl
    ordered TypeI TypeII Thursday Friday = refl
    ordered TypeI TypeII Friday Thursday = refl
    ordered TypeI TypeII Friday Friday = refl
    ordered TypeII TypeI Thursday Thursday = refl
    ordered TypeII TypeI Thursday Friday = refl
    ordered TypeII TypeI Friday Thursday = refl
    ordered TypeII TypeI Friday Friday = refl
    ordered TypeII TypeII Thursday Thursday = refl
    ordered TypeII TypeII Thursday Friday = refl
    ordered TypeII TypeII Friday Thursday = refl
    ordered TypeII TypeII Friday Friday = refl

pub same_rules-equivalence : IsEquivalence are_same_rules
same_rules-equivalence = on_equiv rules_place nat_eq_equiv

in_range : (known : Bool) (y z : ℤ) → IsFieldYear y → ◌≡◌ {A = Result ℤ EcmaReferenceYearError} (reference_of_known known y) (Ok z) → IsFieldYear z
in_range true y z h e = let same : y ≡ z = cc in subst IsFieldYear same h
in_range false y z h e = cc

refused : (known : Bool) (y : ℤ) → reference_of_known known y ≡ Err MonthNotInCalendar → known ≡ false
refused true y e = cc
refused false y e = refl

stands : (known : Bool) (y : ℤ) → reference_of_known known y ≡ Err UseRegularIfConstrain → ⊥
stands true y e = cc
stands false y e = cc

year_by : (low eleven before last : Bool) → IsFieldYear (if low then pos 1392 else (if eleven then (if before then pos 1392 else pos 1391) else (if last then pos 1390 else pos 1391)))
year_by true eleven before last = (omega (arith, signed), omega (arith, signed))
year_by false true true last = (omega (arith, signed), omega (arith, signed))
year_by false true false last = (omega (arith, signed), omega (arith, signed))
year_by false false before true = (omega (arith, signed), omega (arith, signed))
year_by false false before false = (omega (arith, signed), omega (arith, signed))

-- the reference years of known months, and a refusal of the others
pub known-references : (year : ℕ → ℕ → ℤ) → ((m d : ℕ) → IsFieldYear (year m d)) → AreReferences (λ m d. reference_of_known (is_plain_month 12 m) (year m.number d))
known-references year range = record {
  range = λ m d y e. in_range (is_plain_month 12 m) (year m.number d) y (range m.number d) e;
  kind = λ m d e. refused (is_plain_month 12 m) (year m.number d) e;
  stands = λ m d e. stands (is_plain_month 12 m) (year m.number d) e;
}

pub tabular_reference_year-range : (e : TabularAlgorithmEpoch) (m d : ℕ) → IsFieldYear (tabular_reference_year e m d)
tabular_reference_year-range e m d = year_by (nat_le m 10) (nat_eq m 11) (nat_le d (last_reference_day e)) (nat_le 30 d)

pub tabular-references : (s : TabularAlgorithm) → AreReferences (tabular_reference s)
tabular-references s = known-references (tabular_reference_year s.epoch) (tabular_reference_year-range s.epoch)
