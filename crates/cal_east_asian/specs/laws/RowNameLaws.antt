-- Rows that name years are accepted exactly where their years are, and a year has one row.
use Rattle.std.proofs.Common.{◌≡◌, ◌<◌, ◌≤◌, ◌%◌, ◌^◌, ℕ, min, Bool, false, List, Some, slice_get, nat_eq, if◌then◌else◌, refl, sym, ap, subst, ◌∙◌, ◌+◌, arith, ℤ, pos, ◌+ℤ◌}
use Rattle.std.specs.Prelude.{IsTrue, ◌&&◌, nat_le, nat_lt, neg_ℤ}
use Rattle.std.proofs.lemmas.Bool.Decides.{nat_tests}
use Rattle.cal_days.specs.Day.{IsRuleYear, is_between}
use Rattle.cal_days.proofs.RangeLemmas.{is_between-true, true-is_between}
use Rattle.cal_days.proofs.Signed.{by_bool, signed}
use Rattle.cal_types.proofs.DateTests.{and-left, and-right, true-and}
use Rattle.cal_types.specs.laws.RowFaultLaws as faults
use Rattle.cal_errors.specs.declared.errors.TableFault.{TableFault}
use Rattle.cal_errors.specs.declared.errors.TablePart.{TablePart}
use Rattle.cal_errors.specs.declared.errors.TablePart.TheVariants.{Range}
use Rattle.cal_east_asian.specs.EastAsianRows.{names_year, NameYears, row_year, years_of}
use Rattle.cal_east_asian.specs.EastAsianYear.{is_leap_place, january_19, months_of_year}
use Rattle.cal_east_asian.specs.RowParts.{place_or_none}
use Rattle.cal_east_asian.specs.RowsAccepted as named
use Rattle.cal_east_asian.specs.RuleYears.{rule_year}
use Rattle.cal_east_asian.specs.TableAccepted as years
use Rattle.cal_east_asian.specs.laws.RuleYearLaws.{rule_year-same}
use Rattle.cal_east_asian.specs.declared.east_asian_row.EastAsianRow.{EastAsianRow}
use Rattle.cal_east_asian.specs.declared.east_asian_traditional_year.EastAsianTraditionalYear.{EastAsianTraditionalYear}

module _ (year_of : ℤ → EastAsianTraditionalYear) (rows : List EastAsianRow) where
  pub accepted-named : named.IsAccepted year_of rows → NameYears rows
  accepted-named = faults.accepted-named names_year row_year (years.meets year_of) (λ ys i y. refl) rows

  pub accepted-years : named.IsAccepted year_of rows → years.IsAccepted year_of (years_of rows)
  accepted-years = faults.accepted-years names_year row_year (years.meets year_of) (λ ys i y. refl) rows

  pub accepted-rows : NameYears rows → years.IsAccepted year_of (years_of rows) → named.IsAccepted year_of rows
  accepted-rows = faults.accepted-rows names_year row_year (years.meets year_of) (λ ys i y. refl) rows

  pub fault-years : NameYears rows → (fault : TableFault) → named.IsFirstFault year_of rows fault → years.IsFirstFault year_of (years_of rows) fault
  fault-years = faults.fault-years names_year row_year (years.meets year_of) (λ ys i y. refl) rows

  -- a row meets each part where it names a year that does, and breaks the part first that its year breaks first
  pub row-meets : (i : ℕ) (row : EastAsianRow) → IsTrue (names_year row) → years.MeetsAll year_of (years_of rows) i (row_year row) → named.MeetsAll year_of rows i row
  row-meets = faults.row-meets names_year row_year (years.meets year_of) (λ ys i y. refl) rows

  pub row-broken : (i : ℕ) (row : EastAsianRow) (part : TablePart) → IsTrue (names_year row) → years.IsFirstBroken year_of (years_of rows) i (row_year row) part → named.IsFirstBroken year_of rows i row part
  row-broken = faults.row-broken names_year row_year (years.meets year_of) (λ ys i y. refl) rows

  -- a row that names no year breaks Range
  pub range-broken : (i : ℕ) (row : EastAsianRow) → names_year row ≡ false → named.IsFirstBroken year_of rows i row Range
  range-broken = faults.range-broken names_year row_year (years.meets year_of) (λ ys i y. refl) rows

  -- the year of a row stands in its place
  pub year-there : (i : ℕ) (row : EastAsianRow) → slice_get rows i ≡ Some row → slice_get (years_of rows) i ≡ Some (row_year row)
  year-there = faults.year-there names_year row_year (years.meets year_of) (λ ys i y. refl) rows

abbrev has_year : EastAsianRow → Bool
has_year row = is_between (neg_ℤ (pos 8000000)) (pos 8000000) row.related_iso

abbrev has_place : EastAsianRow → Bool
has_place row = is_leap_place row.leap_month

abbrev has_months : EastAsianRow → Bool
has_months row = nat_lt row.long_months (2 ^ months_of_year row.leap_month)

abbrev has_start : EastAsianRow → Bool
has_start row = nat_le row.start_offset 34

-- a row that names a year has each of its numbers in range
pub named-year : (row : EastAsianRow) → IsTrue (names_year row) → IsRuleYear row.related_iso
named-year row h = is_between-true (neg_ℤ (pos 8000000)) (pos 8000000) row.related_iso (and-left (has_year row) (has_place row && (has_months row && has_start row)) h)

pub named-place : (row : EastAsianRow) → IsTrue (names_year row) → IsTrue (is_leap_place row.leap_month)
named-place row h = and-left (has_place row) (has_months row && has_start row) (and-right (has_year row) (has_place row && (has_months row && has_start row)) h)

ends : (row : EastAsianRow) → IsTrue (names_year row) → IsTrue (has_months row && has_start row)
ends row h = and-right (has_place row) (has_months row && has_start row) (and-right (has_year row) (has_place row && (has_months row && has_start row)) h)

less : (m n : ℕ) → IsTrue (nat_lt m n) → m < n
less m n h = grind (arith, nat_tests, h)

pub named-months : (row : EastAsianRow) → IsTrue (names_year row) → row.long_months < 2 ^ months_of_year row.leap_month
named-months row h = less row.long_months (2 ^ months_of_year row.leap_month) (and-left (has_months row) (has_start row) (ends row h))

pub named-start : (row : EastAsianRow) → IsTrue (names_year row) → row.start_offset ≤ 34
named-start row h =
    let few = and-right (has_months row) (has_start row) (ends row h) in
    grind (arith, nat_tests, few)

pub place-same : (p : ℕ) → IsTrue (is_leap_place p) → place_or_none p ≡ p
place-same p h = rw h refl

pub bits-same : (m p : ℕ) → IsTrue (is_leap_place p) → m < 2 ^ months_of_year p → m % 2 ^ months_of_year (place_or_none p) ≡ m
bits-same m p h few =
    ap (λ (q : ℕ). m % 2 ^ months_of_year q) (place-same p h)
    ∙ by_bool {P = m % 2 ^ months_of_year p ≡ m} (nat_eq p 0)
    (λ none. let less : m < 4096 = subst (λ (b : Bool). m < 2 ^ (12 + (if b then 0 else 1))) none few in rw none (omega (arith, less)))
    (λ some. let less : m < 8192 = subst (λ (b : Bool). m < 2 ^ (12 + (if b then 0 else 1))) some few in rw some (omega (arith, less)))

-- numbers in range name a year
pub year-named : (y : ℤ) (months place start : ℕ) → IsRuleYear y → IsTrue (is_leap_place place) → months < 2 ^ months_of_year place → start ≤ 34 → IsTrue (names_year (record { related_iso = y; long_months = months; leap_month = place; start_offset = start }))
year-named y months place start rule leap few near =
    let rest = nat_lt months (2 ^ months_of_year place) && nat_le start 34 in
    true-and (is_between (neg_ℤ (pos 8000000)) (pos 8000000) y) (is_leap_place place && rest) (true-is_between (neg_ℤ (pos 8000000)) (pos 8000000) y rule)
    (true-and (is_leap_place place) rest leap
    (true-and (nat_lt months (2 ^ months_of_year place)) (nat_le start 34) (below months (2 ^ months_of_year place) few) (grind (arith, nat_tests, near))))
  where
    below : (m n : ℕ) → m < n → IsTrue (nat_lt m n)
    below m n h = grind (arith, nat_tests, h)

pub same-row : (a b : EastAsianRow) → a.related_iso ≡ b.related_iso → a.long_months ≡ b.long_months → a.leap_month ≡ b.leap_month → a.start_offset ≡ b.start_offset → a ≡ b
same-row a b number months place start = λ i. record { related_iso = number i; long_months = months i; leap_month = place i; start_offset = start i }

-- rows that name the same year are the same
pub row-once : (a b : EastAsianRow) → IsTrue (names_year a) → IsTrue (names_year b) → row_year a ≡ row_year b → a ≡ b
row-once a b h k e =
    let nearest : rule_year a.related_iso ≡ rule_year b.related_iso = ap (λ (y : EastAsianTraditionalYear). y.related_iso) e in
    let number : a.related_iso ≡ b.related_iso = sym (rule_year-same a.related_iso (named-year a h)) ∙ (nearest ∙ rule_year-same b.related_iso (named-year b k)) in
    let place : a.leap_month ≡ b.leap_month = sym (place-same a.leap_month (named-place a h)) ∙ (ap (λ (y : EastAsianTraditionalYear). y.leap_month) e ∙ place-same b.leap_month (named-place b k)) in
    let bits : a.long_months ≡ b.long_months = sym (bits-same a.long_months a.leap_month (named-place a h) (named-months a h)) ∙ (ap (λ (y : EastAsianTraditionalYear). y.long_months) e ∙ bits-same b.long_months b.leap_month (named-place b k) (named-months b k)) in
    let day : january_19 (rule_year a.related_iso) +ℤ pos (min a.start_offset 34) ≡ january_19 (rule_year b.related_iso) +ℤ pos (min b.start_offset 34) = ap (λ (y : EastAsianTraditionalYear). y.new_year) e in
    let january : january_19 (rule_year a.related_iso) ≡ january_19 (rule_year b.related_iso) = ap january_19 nearest in
    same-row a b number bits place (omega (arith, signed, day, january, named-start a h, named-start b k))
