-- Rows that name years are accepted exactly where their years are, and a year has one row.
use Rattle.std.proofs.Common.{◌≡◌, ℕ, ◌%◌, ◌<◌, ◌≤◌, min, Bool, false, List, Some, slice_get, refl, sym, ap, ◌∙◌, arith, ℤ, pos, ◌+ℤ◌, ◌-ℤ◌}
use Rattle.std.specs.Prelude.{IsTrue, ◌&&◌, nat_le, nat_lt, neg_ℤ}
use Rattle.std.proofs.lemmas.Bool.Decides.{nat_tests}
use Rattle.cal_days.specs.Day.{IsRuleYear, is_between}
use Rattle.cal_days.specs.Islamic.{islamic_mean_start}
use Rattle.cal_days.proofs.RangeLemmas.{is_between-true, true-is_between}
use Rattle.cal_days.proofs.Signed.{signed}
use Rattle.cal_types.proofs.DateTests.{and-left, and-right, true-and}
use Rattle.cal_types.specs.laws.RowFaultLaws as faults
use Rattle.cal_errors.specs.declared.errors.TableFault.{TableFault}
use Rattle.cal_errors.specs.declared.errors.TablePart.{TablePart}
use Rattle.cal_errors.specs.declared.errors.TablePart.TheVariants.{Range}
use Rattle.cal_hijri.specs.HijriRows.{names_year, NameYears, row_year, years_of}
use Rattle.cal_hijri.specs.RowStarts.{nearest_rule_year, start_after}
use Rattle.cal_hijri.specs.RowsAccepted as named
use Rattle.cal_hijri.specs.TableAccepted as years
use Rattle.cal_hijri.specs.laws.RowStartLaws.{nearest_rule_year-same}
use Rattle.cal_hijri.specs.declared.hijri_row.HijriRow.{HijriRow}
use Rattle.cal_hijri.specs.declared.hijri_year.HijriYear.{HijriYear}

module _ (year_of : ℤ → HijriYear) (rows : List HijriRow) where
  pub accepted-named : named.IsAccepted year_of rows → NameYears rows
  accepted-named = faults.accepted-named names_year row_year (years.meets year_of) (λ ys i y. refl) rows

  pub accepted-years : named.IsAccepted year_of rows → years.IsAccepted year_of (years_of rows)
  accepted-years = faults.accepted-years names_year row_year (years.meets year_of) (λ ys i y. refl) rows

  pub accepted-rows : NameYears rows → years.IsAccepted year_of (years_of rows) → named.IsAccepted year_of rows
  accepted-rows = faults.accepted-rows names_year row_year (years.meets year_of) (λ ys i y. refl) rows

  pub fault-years : NameYears rows → (fault : TableFault) → named.IsFirstFault year_of rows fault → years.IsFirstFault year_of (years_of rows) fault
  fault-years = faults.fault-years names_year row_year (years.meets year_of) (λ ys i y. refl) rows

  -- a row meets each part where it names a year that does, and breaks the part first that its year breaks first
  pub row-meets : (i : ℕ) (row : HijriRow) → IsTrue (names_year row) → years.MeetsAll year_of (years_of rows) i (row_year row) → named.MeetsAll year_of rows i row
  row-meets = faults.row-meets names_year row_year (years.meets year_of) (λ ys i y. refl) rows

  pub row-broken : (i : ℕ) (row : HijriRow) (part : TablePart) → IsTrue (names_year row) → years.IsFirstBroken year_of (years_of rows) i (row_year row) part → named.IsFirstBroken year_of rows i row part
  row-broken = faults.row-broken names_year row_year (years.meets year_of) (λ ys i y. refl) rows

  -- a row that names no year breaks Range
  pub range-broken : (i : ℕ) (row : HijriRow) → names_year row ≡ false → named.IsFirstBroken year_of rows i row Range
  range-broken = faults.range-broken names_year row_year (years.meets year_of) (λ ys i y. refl) rows

  -- the year of a row stands in its place
  pub year-there : (i : ℕ) (row : HijriRow) → slice_get rows i ≡ Some row → slice_get (years_of rows) i ≡ Some (row_year row)
  year-there = faults.year-there names_year row_year (years.meets year_of) (λ ys i y. refl) rows

abbrev has_year : HijriRow → Bool
has_year row = is_between (neg_ℤ (pos 8000000)) (pos 8000000) row.extended_year

abbrev has_months : HijriRow → Bool
has_months row = nat_lt row.long_months 4096

abbrev has_start : HijriRow → Bool
has_start row = nat_le row.start_offset 10

-- a row that names a year has each of its numbers in range
pub named-year : (row : HijriRow) → IsTrue (names_year row) → IsRuleYear row.extended_year
named-year row h = is_between-true (neg_ℤ (pos 8000000)) (pos 8000000) row.extended_year (and-left (has_year row) (has_months row && has_start row) h)

pub named-months : (row : HijriRow) → IsTrue (names_year row) → row.long_months < 4096
named-months row h =
    let few = and-left (has_months row) (has_start row) (and-right (has_year row) (has_months row && has_start row) h) in
    grind (arith, nat_tests, few)

pub named-start : (row : HijriRow) → IsTrue (names_year row) → row.start_offset ≤ 10
named-start row h =
    let few = and-right (has_months row) (has_start row) (and-right (has_year row) (has_months row && has_start row) h) in
    grind (arith, nat_tests, few)

-- numbers in range name a year
pub year-named : (y : ℤ) (months start : ℕ) → IsRuleYear y → months < 4096 → start ≤ 10 → IsTrue (names_year (record { extended_year = y; long_months = months; start_offset = start }))
year-named y months start rule few near =
    true-and (is_between (neg_ℤ (pos 8000000)) (pos 8000000) y) (nat_lt months 4096 && nat_le start 10) (true-is_between (neg_ℤ (pos 8000000)) (pos 8000000) y rule)
    (true-and (nat_lt months 4096) (nat_le start 10) (grind (arith, nat_tests, few)) (grind (arith, nat_tests, near)))

pub same-row : (a b : HijriRow) → a.extended_year ≡ b.extended_year → a.long_months ≡ b.long_months → a.start_offset ≡ b.start_offset → a ≡ b
same-row a b number months start = λ i. record { extended_year = number i; long_months = months i; start_offset = start i }

-- rows that name the same year are the same
pub row-once : (a b : HijriRow) → IsTrue (names_year a) → IsTrue (names_year b) → row_year a ≡ row_year b → a ≡ b
row-once a b h k e =
    let nearest : nearest_rule_year a.extended_year ≡ nearest_rule_year b.extended_year = ap (λ (y : HijriYear). y.extended_year) e in
    let number : a.extended_year ≡ b.extended_year = sym (nearest_rule_year-same a.extended_year (named-year a h)) ∙ (nearest ∙ nearest_rule_year-same b.extended_year (named-year b k)) in
    let bits : a.long_months % 4096 ≡ b.long_months % 4096 = ap (λ (y : HijriYear). y.long_months) e in
    let day : start_after (nearest_rule_year a.extended_year) a.start_offset ≡ start_after (nearest_rule_year b.extended_year) b.start_offset = ap (λ (y : HijriYear). y.first_day) e in
    let mean : islamic_mean_start (nearest_rule_year a.extended_year) ≡ islamic_mean_start (nearest_rule_year b.extended_year) = ap islamic_mean_start nearest in
    same-row a b number (omega (arith, bits, named-months a h, named-months b k)) (omega (arith, signed, day, mean, named-start a h, named-start b k))
