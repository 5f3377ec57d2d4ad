-- The months of the years that a table chooses, in a run of years without rows, and the years that have none.
use Rattle.std.proofs.Common.{◌≡◌, ℕ, zero, suc, ◌+◌, ◌-◌, ◌*◌, ◌<◌, ◌≤◌, cond, not, nat_eq, List, [], ◌∷◌, length, take, drop, get_or, Some, None, slice_get, refl, sym, ap, subst, ◌∙◌, to_z, of_z, w32, arith, ℤ, pos, ◌+ℤ◌, ◌-ℤ◌, ◌≤ℤ◌, ◌<ℤ◌}
use Rattle.std.specs.Option.{option_map}
use Rattle.std.proofs.lemmas.List.{get_or-drop, get_or-take, length-drop, length-map, length-take}
use Rattle.std.proofs.lemmas.List.Sums.{sum_by-cons}
use Rattle.std.proofs.lemmas.Option.{get_or_from_slice_get, slice_get-get_or, slice_get-map, slice_get_within}
use Rattle.cal_days.specs.Day.{IsRuleYear}
use Rattle.cal_days.specs.Sums.{years_up, total, span}
use Rattle.cal_days.proofs.Signed.{signed, by_bool}
use Rattle.cal_days.proofs.SumLemmas.{span-up}
use Rattle.cal_types.specs.CalendarList.{month_number}
use Rattle.cal_types.proofs.ListLemmas.{month_number-next}
use Rattle.cal_types.specs.Rows.{AreConsecutive}
use Rattle.cal_types.specs.laws.RowLaws.{number-at, row_below}
use Rattle.cal_types.specs.laws.RowPlaces.{by_year, chosen-row}
use Rattle.cal_east_asian.specs.EastAsianYear.{months_of_year}
use Rattle.cal_east_asian.specs.laws.RuleYearLaws.{rule_year-same}
use Rattle.cal_east_asian.specs.laws.EastAsianListLaws.{count-small}
use Rattle.cal_east_asian.specs.laws.EastAsianStartLaws.{count-rule}
use Rattle.cal_east_asian.specs.ComputedYears.{computed_parts, computed_month_count}
use Rattle.cal_east_asian.specs.laws.ComputedLaws.{computed_year}
use Rattle.cal_east_asian.specs.TableYears.{IsRow, number_of}
use Rattle.cal_east_asian.specs.laws.TableYearLaws.{accepted-consecutive, accepted-few}
use Rattle.cal_east_asian.specs.TableRules.{table_year, table_rows}
use Rattle.cal_east_asian.specs.laws.TableRuleLaws.{table-years}
use Rattle.cal_east_asian.specs.EastAsianRows.{row_year}
use Rattle.cal_east_asian.specs.LeapRows.{is_leap_row, leap_rows}
use Rattle.cal_east_asian.specs.TableMonths.{AreComputed, IsFirstNumber, table_list}
use Rattle.cal_east_asian.specs.declared.sides.Side.{Side}
use Rattle.cal_east_asian.specs.declared.east_asian_row.EastAsianRow.{EastAsianRow}
use Rattle.cal_east_asian.specs.declared.east_asian_table.EastAsianTable.{EastAsianTable}
use Rattle.cal_east_asian.specs.declared.east_asian_traditional_year.EastAsianTraditionalYear.{EastAsianTraditionalYear}

-- a number as calls take it
abbrev pub kept : ℤ → ℤ
kept y = to_z w32 (of_z w32 y)

-- a leap month is one more
months-leap : (p : ℕ) → months_of_year p ≡ 12 + cond (not (nat_eq p 0)) 1 0
months-leap p =
    by_bool {P = months_of_year p ≡ 12 + cond (not (nat_eq p 0)) 1 0} (nat_eq p 0) (λ on. rw on refl) (λ off. rw off refl)

-- a place in a part of a list
part-get : (rows : List EastAsianRow) (a m j : ℕ) (r : EastAsianRow) → slice_get (take m (drop a rows)) j ≡ Some r → slice_get rows (a + j) ≡ Some r
part-get rows a m j r e =
    let part = take m (drop a rows) in
    let within : j < length part = slice_get_within part j r e in
    let many = length-take m (drop a rows) in
    let left = length-drop a rows in
    let value : get_or rows (a + j) r ≡ r = sym (get_or-take m (drop a rows) j r (omega (arith, within, many)) ∙ get_or-drop a rows j r) ∙ get_or_from_slice_get part j r r e in
    slice_get-get_or rows (a + j) r (omega (arith, within, many, left)) ∙ ap Some value

module _ (t : EastAsianTable) where
  abbrev pub before : ℤ → ℤ
  before y = month_number (table_list t) y 1

  pub next : (y z : ℤ) → z ≡ y +ℤ pos 1 → IsRuleYear y → before z ≡ before y +ℤ pos (months_of_year (table_year t y).leap_month)
  next y z e rule = omega (arith, signed, ap before e, month_number-next (table_list t) y, count-rule (table_year t) (table-years t) y rule)

  -- n years have at most 13 n months
  pub run-bound : (n : ℕ) (y z : ℤ) → z ≡ y +ℤ pos n → (before y ≤ℤ before z) × (before z ≤ℤ (before y +ℤ pos (13 * n)))
  run-bound zero y z e =
      let same : z ≡ y = omega (arith, signed) in
      (omega (arith, signed, ap before same), omega (arith, signed, ap before same))
  run-bound (suc n) y z e =
      let last : z ≡ y +ℤ pos n +ℤ pos 1 = omega (arith, signed) in
      let known = run-bound n y (y +ℤ pos n) refl in
      (omega (arith, signed, known, ap before last, month_number-next (table_list t) (y +ℤ pos n)), omega (arith, signed, known, ap before last, month_number-next (table_list t) (y +ℤ pos n), count-small (table_year t) (y +ℤ pos n)))

  computed-count : (y : ℤ) → IsRuleYear y → table_year t y ≡ computed_year t.side y → months_of_year (table_year t y).leap_month ≡ computed_month_count t.side y
  computed-count y rule same =
      ap (λ (x : EastAsianTraditionalYear). months_of_year x.leap_month) same
      ∙ ap (λ (z : ℤ). months_of_year (computed_parts t.side z).leap_month) (rule_year-same y rule)

  run : (n : ℕ) (y z : ℤ) → z ≡ y +ℤ pos n → IsRuleYear y → IsRuleYear z → AreComputed t y z → before z ≡ before y +ℤ pos (total (computed_month_count t.side) y n)
  unfolding total
  run zero y z e low high computed = let same : z ≡ y = omega (arith, signed) in omega (arith, signed, ap before same)
  run (suc n) y z e low high computed =
      let w = y +ℤ pos n in
      let last : z ≡ w +ℤ pos 1 = omega (arith, signed) in
      let rule : IsRuleYear w = (omega (arith, signed, low), omega (arith, signed, high, last)) in
      let known = run n y w refl low rule (λ x from to. computed x from (omega (arith, signed, last, to))) in
      let count = computed-count w rule (computed w (omega (arith, signed)) (omega (arith, signed, last))) in
      omega (arith, signed, known, next w z last rule, count)

  -- the months of a run of computed years are counted from one to the other
  pub run-span : (y z : ℤ) → y ≤ℤ z → IsRuleYear y → IsRuleYear z → AreComputed t y z → before z ≡ before y +ℤ span (computed_month_count t.side) y z
  run-span y z le low high computed =
      let n = years_up (z -ℤ y) in
      let e : z ≡ y +ℤ pos n = omega (arith, signed) in
      omega (arith, signed, run n y z e low high computed, span-up (computed_month_count t.side) y z n e)

  -- from one year to another there are at most 13 months a year
  pub between : (from to : ℤ) → from ≤ℤ to → (before from ≤ℤ before to) × (before to ≤ℤ (before from +ℤ pos (13 * years_up (to -ℤ from))))
  between from to order = run-bound (years_up (to -ℤ from)) from to (omega (arith, signed, order))

  -- the months of such a run, of numbers as calls take them
  pub kept_run : (from to r : ℤ) (side : Side) → IsRuleYear from → IsRuleYear to → from ≤ℤ to → AreComputed t from to → side ≡ t.side → r ≡ span (computed_month_count side) (kept from) (kept to) → (before to ≡ before from +ℤ r) × (pos 0 ≤ℤ r) × (r ≤ℤ pos 208000000)
  kept_run from to r side low high order here same e =
      let from_is : kept from ≡ from = omega (arith, signed, low) in
      let to_is : kept to ≡ to = omega (arith, signed, high) in
      let value : r ≡ span (computed_month_count t.side) from to =
      e ∙ (ap (λ (x : Side). span (computed_month_count x) (kept from) (kept to)) same
      ∙ (ap (λ (z : ℤ). span (computed_month_count t.side) z (kept to)) from_is
      ∙ ap (λ (z : ℤ). span (computed_month_count t.side) from z) to_is)) in
      let count = run-span from to order low high here in
      let bound = between from to order in
      (omega (arith, signed, count, value), omega (arith, signed, count, value, bound), omega (arith, signed, count, value, bound, low, high))

  -- years that have the rows of a list, one after another, have 12 months each, and one more for each leap month
  rows-run : (xs : List EastAsianRow) (y : ℤ) → ((j : ℕ) (r : EastAsianRow) → slice_get xs j ≡ Some r → (table_year t (y +ℤ pos j) ≡ row_year r) × IsRuleYear (y +ℤ pos j)) → before (y +ℤ pos (length xs)) ≡ before y +ℤ pos (12 * length xs + leap_rows xs)
  rows-run [] y h = let same : y +ℤ pos 0 ≡ y = omega (arith, signed) in omega (arith, signed, ap before same)
  rows-run (r ∷ rs) y h =
      let z = y +ℤ pos 1 in
      let none : y +ℤ pos 0 ≡ y = omega (arith, signed) in
      let here = h 0 r refl in
      let year : table_year t y ≡ row_year r = subst (λ (x : ℤ). table_year t x ≡ row_year r) none here.0 in
      let step = next y z refl (subst IsRuleYear none here.1) in
      let months : months_of_year (table_year t y).leap_month ≡ 12 + cond (is_leap_row r) 1 0 = ap (λ (x : EastAsianTraditionalYear). months_of_year x.leap_month) year ∙ months-leap (row_year r).leap_month in
      let later = rows-run rs z (λ j s e. moved j s (h (suc j) s e)) in
      let last : z +ℤ pos (length rs) ≡ y +ℤ pos (suc (length rs)) = omega (arith, signed) in
      let leaps : leap_rows (r ∷ rs) ≡ cond (is_leap_row r) 1 0 + leap_rows rs = sum_by-cons (λ (x : EastAsianRow). cond (is_leap_row x) 1 0) r rs in
      omega (arith, signed, step, months, later, ap before last, leaps) where
        moved : (j : ℕ) (s : EastAsianRow) → (table_year t (y +ℤ pos (suc j)) ≡ row_year s) × IsRuleYear (y +ℤ pos (suc j)) → (table_year t (y +ℤ pos 1 +ℤ pos j) ≡ row_year s) × IsRuleYear (y +ℤ pos 1 +ℤ pos j)
        moved j s known =
            let same : y +ℤ pos (suc j) ≡ y +ℤ pos 1 +ℤ pos j = omega (arith, signed) in
            (subst (λ (x : ℤ). table_year t x ≡ row_year s) same known.0, subst IsRuleYear same known.1)

  pub consecutive_rows : AreConsecutive number_of (table_rows t)
  consecutive_rows = accepted-consecutive (computed_year t.side) (table_rows t) t.accepted

  -- without a first row every year is computed
  pub no-rows : slice_get (table_rows t) 0 ≡ None → (y : ℤ) → table_year t y ≡ computed_year t.side y
  no-rows none y =
      by_year number_of (computed_year t.side) (table_rows t) consecutive_rows {P = table_year t y ≡ computed_year t.side y} y
      (λ i row h e c. row_below {P = table_year t y ≡ computed_year t.side y} (table_rows t) 0 i row h (omega arith) (λ below first. let off : None ≡ Some below = sym none ∙ first in absurd cc))
      (λ other c. c)

  module _ (first : EastAsianTraditionalYear) (h : IsRow (table_rows t) 0 first) where
    -- a year before the first row's is computed
    pub before-first : (y : ℤ) → y <ℤ first.related_iso → table_year t y ≡ computed_year t.side y
    before-first y lt =
        by_year number_of (computed_year t.side) (table_rows t) consecutive_rows {P = table_year t y ≡ computed_year t.side y} y
        (λ i row here e c. absurd (omega (arith, signed, lt, e, number-at number_of (table_rows t) consecutive_rows first h i row here)))
        (λ other c. c)

    -- and a year after the last row's
    pub after-last : (y : ℤ) → (first.related_iso +ℤ pos (length t.rows.now)) ≤ℤ y → table_year t y ≡ computed_year t.side y
    after-last y le =
        by_year number_of (computed_year t.side) (table_rows t) consecutive_rows {P = table_year t y ≡ computed_year t.side y} y
        (λ i row here e c.
        let within : i < length (table_rows t) = slice_get_within (table_rows t) i row here in
        let many = length-map t.rows.now row_year in
        absurd (omega (arith, signed, le, e, within, many, number-at number_of (table_rows t) consecutive_rows first h i row here)))
        (λ other c. c)

    -- the year of a row is that row
    row-year : (i : ℕ) (r : EastAsianRow) → slice_get t.rows.now i ≡ Some r → (table_year t (first.related_iso +ℤ pos i) ≡ row_year r) × IsRuleYear (first.related_iso +ℤ pos i)
    row-year i r e =
        let here : IsRow (table_rows t) i (row_year r) = slice_get-map row_year t.rows.now i ∙ ap (option_map row_year) e in
        let number : (row_year r).related_iso ≡ first.related_iso +ℤ pos i = number-at number_of (table_rows t) consecutive_rows first h i (row_year r) here in
        let year : table_year t (row_year r).related_iso ≡ row_year r = chosen-row number_of (computed_year t.side) (table_rows t) consecutive_rows i (row_year r) here in
        (subst (λ (y : ℤ). table_year t y ≡ row_year r) number year, subst IsRuleYear number (row_year r).valid.0)

    -- the months of some rows, from one place on up to another
    pub places-run : (a b : ℕ) → a ≤ b → b ≤ length t.rows.now → before (first.related_iso +ℤ pos b) ≡ before (first.related_iso +ℤ pos a) +ℤ pos (12 * (b - a) + leap_rows (take (b - a) (drop a t.rows.now)))
    places-run a b le within =
        let rows = t.rows.now in
        let y = first.related_iso +ℤ pos a in
        let part = take (b - a) (drop a rows) in
        let many : length part ≡ b - a = omega (arith, length-take (b - a) (drop a rows), length-drop a rows) in
        let count = rows-run part y (λ j r e. moved a j r (row-year (a + j) r (part-get rows a (b - a) j r e))) in
        let last : y +ℤ pos (length part) ≡ first.related_iso +ℤ pos b = omega (arith, signed, many) in
        omega (arith, signed, count, many, ap before last) where
          moved : (a j : ℕ) (r : EastAsianRow) → (table_year t (first.related_iso +ℤ pos (a + j)) ≡ row_year r) × IsRuleYear (first.related_iso +ℤ pos (a + j)) → (table_year t (first.related_iso +ℤ pos a +ℤ pos j) ≡ row_year r) × IsRuleYear (first.related_iso +ℤ pos a +ℤ pos j)
          moved a j r known =
              let same : first.related_iso +ℤ pos (a + j) ≡ first.related_iso +ℤ pos a +ℤ pos j = omega (arith, signed) in
              (subst (λ (x : ℤ). table_year t x ≡ row_year r) same known.0, subst IsRuleYear same known.1)

  -- there are at most as many rows as years from 1912 to 9999
  pub few-rows : length t.rows.now ≤ 8088
  few-rows = omega (arith, accepted-few (computed_year t.side) (table_rows t) t.accepted, length-map t.rows.now row_year)

  -- the first row's number is a rule year
  pub first-rule : (first : ℤ) → IsFirstNumber t first → IsRuleYear first
  first-rule first (row, h, e) = subst IsRuleYear e row.valid.0

  -- the months of years that have rows, by the places of these
  pub rows-between : (first from to : ℤ) (a b : ℕ) → IsFirstNumber t first → from ≡ first +ℤ pos a → to ≡ first +ℤ pos b → a ≤ b → b ≤ length t.rows.now → (before to ≡ before from +ℤ pos (12 * (b - a) + leap_rows (take (b - a) (drop a t.rows.now)))) × (12 * (b - a) + leap_rows (take (b - a) (drop a t.rows.now)) ≤ 105144)
  rows-between first from to a b (row, h, e) from_is to_is le within =
      let count = places-run row h a b le within in
      let start : row.related_iso +ℤ pos a ≡ from = omega (arith, signed, e, from_is) in
      let end : row.related_iso +ℤ pos b ≡ to = omega (arith, signed, e, to_is) in
      let months : before to ≡ before from +ℤ pos (12 * (b - a) + leap_rows (take (b - a) (drop a t.rows.now))) = omega (arith, signed, count, ap before start, ap before end) in
      let bound = run-bound (b - a) from to (omega (arith, signed, from_is, to_is, le)) in
      (months, omega (arith, signed, months, bound, within, few-rows))
