-- Tables of China and Korea give years of a calendar, those of equal rows the same, and their reference years are in range.
use Rattle.std.proofs.Common.{◌≡◌, ℕ, ◌≤◌, Bool, true, false, if◌then◌else◌, Option, Some, None, Result, Ok, Err, List, IsTrue, refl, ap, subst, ◌∙◌, arith, ℤ, pos}
use Rattle.std.specs.Prelude.{ok_or, nat_le}
use Rattle.std.specs.Cmp.{IsEquivalence, and_equiv, on_equiv, nat_eq_equiv, int_eq_equiv}
use Rattle.std.specs.Cmp.Lexicographic.{pointwise, lists_equiv, pointwise_decides}
use Rattle.std.proofs.lemmas.Bool.Decides.{nat_tests}
use Rattle.cal_days.specs.Day.{IsFieldYear}
use Rattle.cal_days.proofs.Signed.{signed}
use Rattle.cal_types.specs.Month.{MonthParts}
use Rattle.cal_errors.specs.declared.errors.EcmaReferenceYearError.{EcmaReferenceYearError}
use Rattle.cal_errors.specs.declared.errors.EcmaReferenceYearError.TheVariants.{MonthNotInCalendar, UseRegularIfConstrain}
use Rattle.cal_types.proofs.MonthCases.{by_month}
use Rattle.cal_east_asian.specs.EastAsianRows.{years_of}
use Rattle.cal_east_asian.specs.EastAsianYears.{AreYears}
use Rattle.cal_east_asian.specs.EastAsianPlaces.{is_east_asian_month}
use Rattle.cal_east_asian.specs.EastAsianReferences.{ReferenceRow, both, short, third_month_30, plain_row, leap_row, month_row, year_for_day, side_reference}
use Rattle.cal_east_asian.specs.SameYears.{same_year}
use Rattle.cal_east_asian.specs.laws.SameYearLaws.{same_year-same, same_year-own}
use Rattle.cal_east_asian.specs.laws.ComputedLaws.{computed_year, computed-years}
use Rattle.cal_east_asian.specs.TableYears.{number_of, chosen_year}
use Rattle.cal_east_asian.specs.TableAccepted.{start_of}
use Rattle.cal_east_asian.specs.laws.TableYearLaws.{chosen-years}
use Rattle.cal_east_asian.specs.declared.east_asian_traditional_year.EastAsianTraditionalYear.{EastAsianTraditionalYear}
use Rattle.cal_east_asian.specs.declared.east_asian_table.EastAsianTable.{EastAsianTable}
use Rattle.cal_east_asian.specs.declared.sides.Side.{Side}
use Rattle.cal_east_asian.specs.declared.sides.Side.TheVariants.{China, Korea}
use Rattle.cal_east_asian.specs.TableRules.{table_year, table_rows, have_same_rows}

pub table-years : (t : EastAsianTable) → AreYears (table_year t)
table-years t = chosen-years (computed_year t.side) (years_of t.rows.now) t.accepted (computed-years t.side)

abbrev lengths_of : EastAsianTraditionalYear → ℕ
lengths_of y = y.long_months

abbrev leap_of : EastAsianTraditionalYear → ℕ
leap_of y = y.leap_month

pub same_year-alike : IsEquivalence same_year
same_year-alike = and_equiv (and_equiv (on_equiv number_of int_eq_equiv) (on_equiv start_of int_eq_equiv)) (and_equiv (on_equiv lengths_of nat_eq_equiv) (on_equiv leap_of nat_eq_equiv))

pub rows-alike : IsEquivalence have_same_rows
rows-alike = on_equiv table_rows (lists_equiv same_year-alike)

-- tables that have the same rows have one list of them
pub same_lists : (xs ys : List EastAsianTraditionalYear) → pointwise same_year xs ys ≡ true → xs ≡ ys
same_lists xs ys h = (pointwise_decides (λ a b. (same_year-same a b, same_year-own a b)) xs ys).0 h

-- tables of one side with the same rows choose the same years
pub same_rows-years : (s t : EastAsianTable) → s.side ≡ t.side → IsTrue (have_same_rows s t) → (y : ℤ) → table_year s y ≡ table_year t y
same_rows-years s t side h y =
    ap (λ (rows : List EastAsianTraditionalYear). chosen_year (computed_year s.side) rows y) (same_lists (table_rows s) (table_rows t) h)
    ∙ ap (λ (x : Side). chosen_year (computed_year x) (table_rows t) y) side

-- a year that may stand in the table of reference years
abbrev IsReference : Option ℤ → Type 0
IsReference o = (y : ℤ) → o ≡ Some y → IsFieldYear y

some-reference : (n : ℕ) → n ≤ 1040000 → IsReference (Some (pos n))
some-reference n h y e = let same : pos n ≡ y = cc in subst IsFieldYear same (omega (arith, signed), omega (arith, signed))

none-reference : IsReference None
none-reference y e = absurd cc

abbrev HasReferences : ReferenceRow → Type 0
HasReferences row = IsReference row.to_26 × IsReference row.to_29 × IsReference row.later

both-references : (y z : ℕ) → y ≤ 1040000 → z ≤ 1040000 → HasReferences (both y z)
both-references y z h k = (some-reference y h, some-reference y h, some-reference z k)

short-references : (y : ℕ) → y ≤ 1040000 → HasReferences (short y)
short-references y h = (some-reference y h, some-reference y h, none-reference)

third-small : (side : Side) → third_month_30 side ≤ 1040000
third-small China = omega arith
third-small Korea = omega arith

plain-references : (side : Side) (k : ℕ) → 1 ≤ k → k ≤ 12 → HasReferences (plain_row side k)
plain-references side = by_month (λ k. HasReferences (plain_row side k))
    (both-references 1972 1970 (omega arith) (omega arith)) (both-references 1972 1972 (omega arith) (omega arith)) (both-references 1972 (third_month_30 side) (omega arith) (third-small side))
    (both-references 1972 1970 (omega arith) (omega arith)) (both-references 1972 1972 (omega arith) (omega arith)) (both-references 1972 1971 (omega arith) (omega arith))
    (both-references 1972 1972 (omega arith) (omega arith)) (both-references 1972 1971 (omega arith) (omega arith)) (both-references 1972 1972 (omega arith) (omega arith))
    (both-references 1972 1972 (omega arith) (omega arith)) (some-reference 1972 (omega arith), some-reference 1971 (omega arith), some-reference 1969 (omega arith)) (both-references 1971 1971 (omega arith) (omega arith))

leap-references : (k : ℕ) → 1 ≤ k → k ≤ 12 → HasReferences (leap_row k)
leap-references = by_month (λ k. HasReferences (leap_row k))
    (none-reference, none-reference, none-reference) (short-references 1947 (omega arith)) (both-references 1966 1955 (omega arith) (omega arith)) (both-references 1963 1944 (omega arith) (omega arith))
    (both-references 1971 1952 (omega arith) (omega arith)) (both-references 1960 1941 (omega arith) (omega arith)) (both-references 1968 1938 (omega arith) (omega arith)) (short-references 1957 (omega arith))
    (short-references 2014 (omega arith)) (short-references 1984 (omega arith)) (short-references 2033 (omega arith)) (none-reference, none-reference, none-reference)

month-references : (side : Side) (k : ℕ) (is_leap : Bool) → 1 ≤ k → k ≤ 12 → HasReferences (month_row side (record { number = k; is_leap = is_leap }))
month-references side k false low high = plain-references side k low high
month-references side k true low high = leap-references k low high

pick : (row : ReferenceRow) → HasReferences row → (a b : Bool) → IsReference (if a then row.to_26 else (if b then row.to_29 else row.later))
pick row h true b = h.0
pick row h false true = h.1
pick row h false false = h.2

abbrev answer_by : Bool → Option ℤ → Result ℤ EcmaReferenceYearError
answer_by known year = if known then ok_or year UseRegularIfConstrain else Err MonthNotInCalendar

answer-year : (o : Option ℤ) (y : ℤ) → answer_by true o ≡ Ok y → o ≡ Some y
answer-year (Some z) y e = let same : z ≡ y = cc in ap Some same
answer-year None y e = absurd cc

-- a reference year is one that fields may name
range-by : (side : Side) (m : MonthParts) (d : ℕ) (y : ℤ) (known : Bool) → is_east_asian_month m ≡ known → answer_by known (year_for_day (month_row side m) d) ≡ Ok y → IsFieldYear y
range-by side m d y true h e =
    pick (month_row side m) (month-references side m.number m.is_leap (grind (arith, nat_tests)) (grind (arith, nat_tests))) (nat_le d 26) (nat_le d 29) y (answer-year (year_for_day (month_row side m) d) y e)
range-by side m d y false h e = absurd cc

pub side_reference-in_range : (side : Side) (m : MonthParts) (d : ℕ) (y : ℤ) → side_reference side m d ≡ Ok y → IsFieldYear y
side_reference-in_range side m d y e = range-by side m d y (is_east_asian_month m) refl e

kind-by : (known : Bool) (o : Option ℤ) → answer_by known o ≡ Err MonthNotInCalendar → known ≡ false
kind-by false o e = refl
kind-by true (Some y) e = absurd cc
kind-by true None e = absurd cc

-- no month of the calendar is refused as one that it lacks
pub side_reference-of_kind : (side : Side) (m : MonthParts) (d : ℕ) → side_reference side m d ≡ Err MonthNotInCalendar → is_east_asian_month m ≡ false
side_reference-of_kind side m d e = kind-by (is_east_asian_month m) (year_for_day (month_row side m) d) e

-- a plain month has its reference years
abbrev IsThere : Option ℤ → Type 0
IsThere o = (y : ℤ) × (o ≡ Some y)

abbrev HasAll : ReferenceRow → Type 0
HasAll row = IsThere row.to_26 × IsThere row.to_29 × IsThere row.later

both-all : (y z : ℕ) → HasAll (both y z)
both-all y z = ((pos y, refl), (pos y, refl), (pos z, refl))

plain-all : (side : Side) (k : ℕ) → 1 ≤ k → k ≤ 12 → HasAll (plain_row side k)
plain-all side = by_month (λ k. HasAll (plain_row side k))
    (both-all 1972 1970) (both-all 1972 1972) (both-all 1972 (third_month_30 side)) (both-all 1972 1970) (both-all 1972 1972) (both-all 1972 1971)
    (both-all 1972 1972) (both-all 1972 1971) (both-all 1972 1972) (both-all 1972 1972) ((pos 1972, refl), (pos 1971, refl), (pos 1969, refl)) (both-all 1971 1971)

there : (row : ReferenceRow) → HasAll row → (a b : Bool) → IsThere (if a then row.to_26 else (if b then row.to_29 else row.later))
there row h true b = h.0
there row h false true = h.1
there row h false false = h.2

not-regular : {Q : Type 0} (o : Option ℤ) → IsThere o → answer_by true o ≡ Err UseRegularIfConstrain → Q
not-regular (Some y) h e = absurd cc
not-regular None h e = absurd cc

leap-by : (side : Side) (k d : ℕ) (is_leap known : Bool) → is_east_asian_month (record { number = k; is_leap = is_leap }) ≡ known → answer_by known (year_for_day (month_row side (record { number = k; is_leap = is_leap })) d) ≡ Err UseRegularIfConstrain → IsTrue is_leap × IsTrue known
leap-by side k d is_leap false h e = absurd cc
leap-by side k d true true h e = (refl, refl)
leap-by side k d false true h e = not-regular (year_for_day (plain_row side k) d) (there (plain_row side k) (plain-all side k (grind (arith, nat_tests)) (grind (arith, nat_tests))) (nat_le d 26) (nat_le d 29)) e

-- only a leap month leaves its place to the plain month of its number
pub side_reference-of_leap_month : (side : Side) (m : MonthParts) (d : ℕ) → side_reference side m d ≡ Err UseRegularIfConstrain → IsTrue m.is_leap × IsTrue (is_east_asian_month m)
side_reference-of_leap_month side m d e = leap-by side m.number d m.is_leap (is_east_asian_month m) refl e
