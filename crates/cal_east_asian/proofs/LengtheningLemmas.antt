-- A lengthened table keeps the years that aren't among the added rows.
use Rattle.std.proofs.Common.{◌≡◌, ◌∙◌, ℕ, zero, suc, ◌+◌, ◌*◌, ◌/◌, ◌%◌, ◌^◌, ◌&&◌, true, int_lt, List, ◌∷◌, refl, sym, ap, subst, arith, ℤ, pos, neg_ℤ, ◌≤ℤ◌}
use Rattle.std.specs.Prelude.{IsTrue, nat_eq}
use Rattle.std.specs.Ordering.{int_eq}
use Rattle.std.proofs.lemmas.Int.{ints}
use Rattle.std.proofs.lemmas.Bool.Decides.{nat_tests}
use Rattle.cal_days.specs.Day.{IsBetween, IsRuleYear}
use Rattle.cal_days.proofs.Signed.{signed, by_bool}
use Rattle.cal_errors.specs.declared.errors.TablePart.TheVariants.{Year}
use native.Mathlib.Nat.{div-add-mod, mul_assoc, mul_comm, mul-add-mod_self_left, pow-suc}
use Rattle.cal_types.specs.CalendarList.{Entry, start_of_year}
use Rattle.cal_types.proofs.DateTests.{and-left, and-right}
use Rattle.cal_types.proofs.SameYearLemmas.{same-year}
use Rattle.cal_types.specs.laws.LengtheningLaws.{chosen-kept, not_added-above, not_added-below, number-range}
use Rattle.cal_east_asian.specs.EastAsianList.{east_asian_list, entries_of}
use Rattle.cal_east_asian.specs.EastAsianMonths.{entries_by, month_in_place, year_entries}
use Rattle.cal_east_asian.specs.EastAsianRows.{row_year, years_of}
use Rattle.cal_east_asian.specs.RuleYears.{rule_year}
use Rattle.cal_east_asian.specs.LengthenedTables.{Lengthens, IsNotAdded, KeepsYears, bits_end, is_equal_row, is_equal_year, list_with, month_bits}
use Rattle.cal_east_asian.specs.TableAccepted.{IsAccepted, IsTableYear}
use Rattle.cal_east_asian.specs.TableYears.{number_of, chosen_year, IsRow}
use Rattle.cal_east_asian.specs.laws.ComputedLaws.{computed_year, computed-years}
use Rattle.cal_east_asian.specs.laws.EastAsianStartLaws.{start-rule}
use Rattle.cal_east_asian.specs.laws.RowNameLaws.{accepted-years}
use Rattle.cal_east_asian.specs.laws.TableYearLaws.{accepted-consecutive, chosen-years}
use Rattle.cal_east_asian.specs.declared.east_asian_row.EastAsianRow.{EastAsianRow}
use Rattle.cal_east_asian.specs.declared.east_asian_traditional_year.EastAsianTraditionalYear.{EastAsianTraditionalYear}
use Rattle.cal_east_asian.specs.declared.sides.Side.{Side}

-- without its lowest bit, a number leaves what its remainder leaves
halves : (m a : ℕ) → (a % 2 ≡ a % (2 * m) % 2) × (a / 2 % m ≡ a % (2 * m) / 2 % m)
halves m a =
    let q = a / (2 * m) in
    let r = a % (2 * m) in
    let split : 2 * m * q + r ≡ a = div-add-mod a (2 * m) in
    let doubled : 2 * m * q ≡ 2 * (m * q) = mul_assoc 2 m q in
    let half : a / 2 ≡ m * q + r / 2 = omega (arith, split, doubled) in
    (omega (arith, split, doubled), ap (λ (n : ℕ). n % m) half ∙ mul-add-mod_self_left m q (r / 2))

halved : (m a b : ℕ) → a % (2 * m) ≡ b % (2 * m) → (a % 2 ≡ b % 2) × (a / 2 % m ≡ b / 2 % m)
halved m a b e =
    let x = halves m a in
    let y = halves m b in
    (x.0 ∙ ap (λ (n : ℕ). n % 2) e ∙ sym y.0, x.1 ∙ ap (λ (n : ℕ). n / 2 % m) e ∙ sym y.1)

-- the bits of n months tell their lengths
same-entries : (p n i a b : ℕ) → a % 2 ^ n ≡ b % 2 ^ n → entries_by p i n a ≡ entries_by p i n b
same-entries p zero i a b e = refl
same-entries p (suc n) i a b e =
    let power : 2 ^ suc n ≡ 2 * 2 ^ n = pow-suc 2 n ∙ mul_comm (2 ^ n) 2 in
    let parts = halved (2 ^ n) a b (sym (ap (λ (m : ℕ). a % m) power) ∙ e ∙ ap (λ (m : ℕ). b % m) power) in
    ap (λ (bit : ℕ). entry p i bit ∷ entries_by p (i + 1) n (a / 2)) parts.0
    ∙ ap (λ (rest : List Entry). entry p i (b % 2) ∷ rest) (same-entries p n (i + 1) (a / 2) (b / 2) parts.1)
  where
    entry : ℕ → ℕ → ℕ → Entry
    entry p i bit = record { month = month_in_place p i; days = 29 + bit }

same-months : (p a b : ℕ) → a % bits_end p ≡ b % bits_end p → year_entries p a ≡ year_entries p b
same-months p a b e =
    by_bool {P = year_entries p a ≡ year_entries p b} (nat_eq p 0)
    (λ on.
    let rest : a % 2 ^ 12 ≡ b % 2 ^ 12 = rw on at e in
    rw on (same-entries p 12 1 a b rest))
    (λ off.
    let rest : a % 2 ^ 13 ≡ b % 2 ^ 13 = rw off at e in
    rw off (same-entries p 13 1 a b rest))

-- years that have the same number, first day and months
abbrev AreAlike : EastAsianTraditionalYear → EastAsianTraditionalYear → Type 0
AreAlike a b = (a.related_iso ≡ b.related_iso) × (a.new_year ≡ b.new_year) × (entries_of a ≡ entries_of b)

int-same : (a b : ℤ) → int_eq a b ≡ true → a ≡ b
int-same a b h = grind (arith, ints)

nat-same : (a b : ℕ) → nat_eq a b ≡ true → a ≡ b
nat-same a b h = grind (arith, nat_tests)

equal-alike : (a b : EastAsianTraditionalYear) → IsTrue (is_equal_year a b) → AreAlike a b
equal-alike a b h =
    let number = int_eq a.related_iso b.related_iso in
    let first = int_eq a.new_year b.new_year in
    let bits = nat_eq (month_bits a) (month_bits b) in
    let leap = nat_eq a.leap_month b.leap_month in
    let rest = and-right number (first && (bits && leap)) h in
    let months = and-right first (bits && leap) rest in
    let place : a.leap_month ≡ b.leap_month = nat-same a.leap_month b.leap_month (and-right bits leap months) in
    let told : a.long_months % bits_end a.leap_month ≡ b.long_months % bits_end b.leap_month = nat-same (month_bits a) (month_bits b) (and-left bits leap months) in (
      int-same a.related_iso b.related_iso (and-left number (first && (bits && leap)) h),
      int-same a.new_year b.new_year (and-left first (bits && leap) rest),
      same-months a.leap_month a.long_months b.long_months (subst (λ (p : ℕ). a.long_months % bits_end a.leap_month ≡ b.long_months % bits_end p) (sym place) told)
          ∙ ap (λ (p : ℕ). year_entries p b.long_months) place,
    )

rows-alike : (a b : EastAsianRow) → IsTrue (is_equal_row a b) → AreAlike (row_year a) (row_year b)
rows-alike a b h = equal-alike (row_year a) (row_year b) h

module _ (side : Side) (old longer : List EastAsianRow) (before : IsAccepted (computed_year side) (years_of old)) (lengthens : Lengthens side old longer) where
  abbrev earlier : ℤ → EastAsianTraditionalYear
  earlier = chosen_year (computed_year side) (years_of old)

  abbrev later : ℤ → EastAsianTraditionalYear
  later = chosen_year (computed_year side) (years_of longer)

  after : IsAccepted (computed_year side) (years_of longer)
  after = accepted-years (computed_year side) longer lengthens.1

  kept : (y : ℤ) → IsNotAdded old longer y → AreAlike (earlier y) (later y)
  kept =
      chosen-kept row_year is_equal_row number_of (computed_year side) AreAlike (λ y. (refl, refl, refl)) (λ a b h. h.0) rows-alike old longer
      (accepted-consecutive (computed_year side) (years_of old) before) (accepted-consecutive (computed_year side) (years_of longer) after) lengthens.0

  starts : (y : ℤ) → IsRuleYear y → IsNotAdded old longer y → start_of_year (list_with side old) y ≡ start_of_year (list_with side longer) y
  starts y rule free =
      start-rule earlier (chosen-years (computed_year side) (years_of old) before (computed-years side)) y rule
      ∙ (kept y free).1
      ∙ sym (start-rule later (chosen-years (computed_year side) (years_of longer) after (computed-years side)) y rule)

  table-range : (i : ℕ) (row : EastAsianTraditionalYear) → IsRow (years_of longer) i row → IsTableYear row.related_iso
  table-range = number-range number_of (pos 1912) (years_of longer) (λ i row here. after i row here Year)

  range : (i : ℕ) (row : EastAsianTraditionalYear) → IsRow (years_of longer) i row → IsBetween (pos 1) (pos 9999) row.related_iso
  range i row here = let table = table-range i row here in (omega (arith, signed, table), omega (arith, signed, table))

  above : (y : ℤ) → pos 8000000 ≤ℤ y → IsNotAdded old longer y
  above = not_added-above number_of (years_of old) (years_of longer) range

  below : (y : ℤ) → y ≤ℤ neg_ℤ (pos 8000000) → IsNotAdded old longer y
  below = not_added-below number_of (years_of old) (years_of longer) range

  -- the rule year whose months a year has is no added one either
  rule_year-free : (y : ℤ) → IsNotAdded old longer y → IsNotAdded old longer (rule_year y)
  rule_year-free y free =
      by_bool {P = IsNotAdded old longer (rule_year y)} (int_lt y (neg_ℤ (pos 8000000)))
      (λ low. rw low (below (neg_ℤ (pos 8000000)) (omega (arith, signed))))
      (λ other.
      by_bool {P = IsNotAdded old longer (rule_year y)} (int_lt (pos 8000000) y)
      (λ high. rw (other, high) (above (pos 8000000) (omega (arith, signed))))
      (λ inside. rw (other, inside) free))

  pub keeps-years : KeepsYears side old longer
  unfolding east_asian_list
  keeps-years =
      same-year (list_with side old) (list_with side longer) (IsNotAdded old longer) starts
      (λ y free. (kept (rule_year y) (rule_year-free y free)).2)
      above below
