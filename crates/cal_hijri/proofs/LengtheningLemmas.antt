-- A lengthened table keeps the years that aren't among the added rows.
use Rattle.std.proofs.Common.{◌≡◌, ◌∙◌, ℕ, ◌/◌, ◌%◌, ◌&&◌, true, List, refl, sym, arith, ℤ, pos, neg_ℤ}
use Rattle.std.specs.Prelude.{IsTrue, nat_eq}
use Rattle.std.specs.Ordering.{int_eq}
use Rattle.std.proofs.lemmas.Int.{ints}
use Rattle.std.proofs.lemmas.Bool.Decides.{nat_tests}
use Rattle.cal_days.specs.Day.{IsRuleYear, is_between}
use Rattle.cal_days.proofs.Signed.{by_bool}
use Rattle.cal_errors.specs.declared.errors.TablePart.TheVariants.{Year}
use Rattle.cal_types.specs.CalendarList.{start_of_year}
use Rattle.cal_types.proofs.DateTests.{and-left, and-right}
use Rattle.cal_types.proofs.SameYearLemmas.{same-year}
use Rattle.cal_types.specs.laws.LengtheningLaws.{chosen-kept, not_added-above, not_added-below, number-range}
use Rattle.cal_hijri.specs.HijriMonths.{months_of}
use Rattle.cal_hijri.specs.HijriList.{hijri_list, long_months_of}
use Rattle.cal_hijri.specs.HijriRows.{row_year, years_of}
use Rattle.cal_hijri.specs.LengthenedTables.{Lengthens, IsNotAdded, KeepsYears, is_equal_row, is_equal_year, month_bits}
use Rattle.cal_hijri.specs.TableAccepted.{IsAccepted, IsRow, IsTableYear}
use Rattle.cal_hijri.specs.TableFriday.{friday_year}
use Rattle.cal_hijri.specs.TableRules.{table_year}
use Rattle.cal_hijri.specs.laws.TableRuleLaws.{table-joins}
use Rattle.cal_hijri.specs.TableYears.{number_of}
use Rattle.cal_hijri.specs.laws.HijriLaws.{start-rule}
use Rattle.cal_hijri.specs.laws.RowNameLaws.{accepted-years}
use Rattle.cal_hijri.specs.laws.TableLaws.{accepted-consecutive}
use Rattle.cal_hijri.specs.declared.hijri_row.HijriRow.{HijriRow}
use Rattle.cal_hijri.specs.declared.hijri_year.HijriYear.{HijriYear}

-- the bits of twelve months tell their lengths
same-months : (a b : ℕ) → a % 4096 ≡ b % 4096 → months_of a ≡ months_of b
same-months a b e =
    let e0 : a % 2 ≡ b % 2 = omega (arith, e) in
    let e1 : a / 2 % 2 ≡ b / 2 % 2 = omega (arith, e) in
    let e2 : a / 4 % 2 ≡ b / 4 % 2 = omega (arith, e) in
    let e3 : a / 8 % 2 ≡ b / 8 % 2 = omega (arith, e) in
    let e4 : a / 16 % 2 ≡ b / 16 % 2 = omega (arith, e) in
    let e5 : a / 32 % 2 ≡ b / 32 % 2 = omega (arith, e) in
    let e6 : a / 64 % 2 ≡ b / 64 % 2 = omega (arith, e) in
    let e7 : a / 128 % 2 ≡ b / 128 % 2 = omega (arith, e) in
    let e8 : a / 256 % 2 ≡ b / 256 % 2 = omega (arith, e) in
    let e9 : a / 512 % 2 ≡ b / 512 % 2 = omega (arith, e) in
    let e10 : a / 1024 % 2 ≡ b / 1024 % 2 = omega (arith, e) in
    let e11 : a / 2048 % 2 ≡ b / 2048 % 2 = omega (arith, e) in
    rw (e0, e1, e2, e3, e4, e5, e6, e7, e8, e9, e10, e11) refl

-- years that have the same number, first day and months
abbrev AreAlike : HijriYear → HijriYear → Type 0
AreAlike a b = (a.extended_year ≡ b.extended_year) × (a.first_day ≡ b.first_day) × (months_of a.long_months ≡ months_of b.long_months)

int-same : (a b : ℤ) → int_eq a b ≡ true → a ≡ b
int-same a b h = grind (arith, ints)

nat-same : (a b : ℕ) → nat_eq a b ≡ true → a ≡ b
nat-same a b h = grind (arith, nat_tests)

equal-alike : (a b : HijriYear) → IsTrue (is_equal_year a b) → AreAlike a b
equal-alike a b h =
    let number = int_eq a.extended_year b.extended_year in
    let first = int_eq a.first_day b.first_day in
    let bits = nat_eq (month_bits a) (month_bits b) in
    let rest = and-right number (first && bits) h in
    (int-same a.extended_year b.extended_year (and-left number (first && bits) h), int-same a.first_day b.first_day (and-left first bits rest), same-months a.long_months b.long_months (nat-same (month_bits a) (month_bits b) (and-right first bits rest)))

rows-alike : (a b : HijriRow) → IsTrue (is_equal_row a b) → AreAlike (row_year a) (row_year b)
rows-alike a b h = equal-alike (row_year a) (row_year b) h

module _ (old longer : List HijriRow) (before : IsAccepted friday_year (years_of old)) (lengthens : Lengthens old longer) where
  abbrev earlier : ℤ → HijriYear
  earlier = table_year (years_of old)

  abbrev later : ℤ → HijriYear
  later = table_year (years_of longer)

  after : IsAccepted friday_year (years_of longer)
  after = accepted-years friday_year longer lengthens.1

  kept : (y : ℤ) → IsNotAdded old longer y → AreAlike (earlier y) (later y)
  kept =
      chosen-kept row_year is_equal_row number_of friday_year AreAlike (λ y. (refl, refl, refl)) (λ a b h. h.0) rows-alike old longer
      (accepted-consecutive friday_year (years_of old) before) (accepted-consecutive friday_year (years_of longer) after) lengthens.0

  starts : (y : ℤ) → IsRuleYear y → IsNotAdded old longer y → start_of_year (hijri_list earlier) y ≡ start_of_year (hijri_list later) y
  starts y rule free =
      start-rule earlier (table-joins (years_of old) before) y rule ∙ (kept y free).1 ∙ sym (start-rule later (table-joins (years_of longer) after) y rule)

  months : (y : ℤ) → IsNotAdded old longer y → months_of (long_months_of earlier y) ≡ months_of (long_months_of later y)
  months y free =
      by_bool {P = months_of (long_months_of earlier y) ≡ months_of (long_months_of later y)} (is_between (neg_ℤ (pos 8000000)) (pos 8000000) y)
      (λ on. rw on (kept y free).2)
      (λ off. rw off refl)

  range : (i : ℕ) (row : HijriYear) → IsRow (years_of longer) i row → IsTableYear row.extended_year
  range = number-range number_of (pos 1) (years_of longer) (λ i row here. after i row here Year)

  pub keeps-years : KeepsYears old longer
  unfolding hijri_list
  keeps-years =
      same-year (hijri_list earlier) (hijri_list later) (IsNotAdded old longer) starts months
      (not_added-above number_of (years_of old) (years_of longer) range) (not_added-below number_of (years_of old) (years_of longer) range)
