-- The reference years of rules are those of a calendar's names.
use Rattle.std.proofs.Common.{◌≡◌, ◌↔◌, ℕ, Bool, true, false, Result, Err, IsTrue, if◌then◌else◌, refl, ℤ}
use Rattle.cal_types.specs.Month.{MonthParts}
use Rattle.cal_errors.specs.declared.errors.EcmaReferenceYearError.{EcmaReferenceYearError}
use Rattle.cal_errors.specs.declared.errors.EcmaReferenceYearError.TheVariants.{MonthNotInCalendar, UseRegularIfConstrain}
use Rattle.cal_east_asian.specs.EastAsianPlaces.{is_east_asian_month}
use Rattle.cal_east_asian.specs.EastAsianList.{east_asian_list}
use Rattle.cal_east_asian.specs.laws.EastAsianListLaws.{is_of_kind-east_asian}
use Rattle.cal_east_asian.specs.EastAsianSystem.{east_asian_names}
use Rattle.cal_east_asian.specs.declared.east_asian_traditional_year.EastAsianTraditionalYear.{EastAsianTraditionalYear}

abbrev pub reference_by : Bool → Result ℤ EcmaReferenceYearError → Result ℤ EcmaReferenceYearError
reference_by known year = if known then year else Err MonthNotInCalendar

kind-by : (known : Bool) (year : Result ℤ EcmaReferenceYearError) → (year ≡ Err MonthNotInCalendar → known ≡ false) → (reference_by known year ≡ Err MonthNotInCalendar) ↔ (known ≡ false)
kind-by true year law = (law, λ e. absurd cc)
kind-by false year law = (λ e. refl, λ e. refl)

leap-by : {Q : Type 0} (known : Bool) (year : Result ℤ EcmaReferenceYearError) → (year ≡ Err UseRegularIfConstrain → Q) → reference_by known year ≡ Err UseRegularIfConstrain → Q
leap-by true year law e = law e
leap-by false year law e = absurd cc

module _ (year_of : ℤ → EastAsianTraditionalYear) (reference : MonthParts → ℕ → Result ℤ EcmaReferenceYearError) where
  -- just a month that the calendar doesn't know is refused as such
  pub reference-of_kind : ((m : MonthParts) (d : ℕ) → reference m d ≡ Err MonthNotInCalendar → is_east_asian_month m ≡ false) → (m : MonthParts) (d : ℕ) → ((east_asian_names reference).reference m d ≡ Err MonthNotInCalendar) ↔ ((east_asian_list year_of).is_of_kind m ≡ false)
  reference-of_kind law m d = rw (is_of_kind-east_asian year_of m) (kind-by (is_east_asian_month m) (reference m d) (law m d))

  -- only a leap month leaves its place to another
  pub reference-of_leap_month : ((m : MonthParts) (d : ℕ) → reference m d ≡ Err UseRegularIfConstrain → IsTrue m.is_leap × IsTrue (is_east_asian_month m)) → (m : MonthParts) (d : ℕ) → (east_asian_names reference).reference m d ≡ Err UseRegularIfConstrain → IsTrue m.is_leap × IsTrue ((east_asian_list year_of).is_of_kind m)
  reference-of_leap_month law m d e = rw (is_of_kind-east_asian year_of m) (leap-by (is_east_asian_month m) (reference m d) (law m d) e)
