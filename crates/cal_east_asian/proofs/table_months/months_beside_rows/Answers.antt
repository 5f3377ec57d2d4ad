use Rattle.std.proofs.Common.{◌≡◌, ℕ, ◌≤◌, List, length, to_z, w32, ap, arith, ℤ, pos, ◌+ℤ◌, ◌-ℤ◌, ◌≤ℤ◌}
use Rattle.cal_days.specs.Day.{IsRuleYear}
use Rattle.cal_days.proofs.Signed.{signed, signed_casts}
use Rattle.cal_east_asian.specs.declared.east_asian_row.EastAsianRow.{EastAsianRow}
use Rattle.cal_east_asian.specs.declared.east_asian_table.EastAsianTable.{EastAsianTable}
use Rattle.cal_east_asian.proofs.TableMonthLemmas.{after-last, before, before-first, between, few-rows, first-rule, kept}
use Rattle.cal_east_asian.proofs.table_months.months_beside_rows.Goals as goal

pub overflow_cast-rows : goal.overflow_cast-rows
overflow_cast-rows c =
    let many = ap (λ (xs : List EastAsianRow). length xs) c.rows.ensures.rows in
    omega (arith, signed, few-rows c.args.table.now, many)

-- a small number as a signed one
signed_length : (n m : ℕ) → n ≡ m → m ≤ 8088 → to_z w32 n ≡ pos m
signed_length n m e few = omega (arith, signed_casts, e, few)

pub overflow_add-first : goal.overflow_add-first
overflow_add-first c =
    let many = ap (λ (xs : List EastAsianRow). length xs) c.rows.ensures.rows in
    omega (arith, signed, signed_length (length c.rows.result.now) (length c.args.table.now.rows.now) many (few-rows c.args.table.now), few-rows c.args.table.now, first-rule c.args.table.now c.args.first c.requires.first)

pub months_without_rows-requires-clause-computed : goal.months_without_rows-requires-clause-computed
months_without_rows-requires-clause-computed c y low high =
    let start = c.nearest_year-start.ensures in
    let first = c.requires.first in
    let below = start.before y (omega (arith, signed, low)) (omega (arith, signed, high, start.within, c.requires.from, c.requires.to)) in
    before-first c.args.table.now first.0 first.1 y (omega (arith, signed, below, first.2, first-rule c.args.table.now c.args.first first))

pub months_of_rows-requires-clause-places : goal.months_of_rows-requires-clause-places
months_of_rows-requires-clause-places c lt =
    let start = c.nearest_year-start.ensures in
    let end = c.nearest_year-end.ensures in
    let many = ap (λ (xs : List EastAsianRow). length xs) c.rows.ensures.rows in
    let few = few-rows c.args.table.now in
    let rows = signed_length (length c.rows.result.now) (length c.args.table.now.rows.now) many few in
    let rule = first-rule c.args.table.now c.args.first c.requires.first in
    let low = start.after c.nearest_year-start.result (omega (arith, signed)) (omega (arith, signed, lt, start.within, end.within, c.requires.from, c.requires.to)) in
    let high = end.before (c.nearest_year-end.result -ℤ pos 1) (omega (arith, signed, lt, start.within, end.within, c.requires.from, c.requires.to)) (omega (arith, signed)) in
    (omega (arith, signed, low, start.within, c.requires.from, c.requires.to), omega (arith, signed, high, rows, few, rule, start.within, end.within, c.requires.from, c.requires.to))

-- the months up to a place that lies between two rule years
few_months : (t : EastAsianTable) (from to : ℤ) → IsRuleYear from → IsRuleYear to → from ≤ℤ to → before t to ≤ℤ (before t from +ℤ pos 208000000)
few_months t from to low high order = omega (arith, signed, between t from to order, low, high)

pub overflow_add-result : goal.overflow_add-result
overflow_add-result c =
    let start = c.nearest_year-start.ensures.within in
    let end = c.nearest_year-end.ensures.within in
    let from = kept c.args.from in
    let last = kept c.nearest_year-end.result in
    let few = few_months c.args.table.now from last (omega (arith, signed, c.requires.from), omega (arith, signed, c.requires.from)) (omega (arith, signed, start, end, c.requires.from, c.requires.to), omega (arith, signed, start, end, c.requires.from, c.requires.to)) (omega (arith, signed, start, end, c.requires.from, c.requires.to)) in
    omega (arith, signed, few, c.months_without_rows.ensures, c.months_of_rows.ensures)

pub months_without_rows-requires-2-clause-computed : goal.months_without_rows-requires-2-clause-computed
months_without_rows-requires-2-clause-computed c y low high =
    let start = c.nearest_year-start.ensures in
    let end = c.nearest_year-end.ensures in
    let first = c.requires.first in
    let many = ap (λ (xs : List EastAsianRow). length xs) c.rows.ensures.rows in
    let few = few-rows c.args.table.now in
    let rows = signed_length (length c.rows.result.now) (length c.args.table.now.rows.now) many few in
    let rule = first-rule c.args.table.now c.args.first first in
    let above = end.after y (omega (arith, signed, low, start.within, end.within, c.requires.from, c.requires.to)) (omega (arith, signed, high)) in
    after-last c.args.table.now first.0 first.1 y (omega (arith, signed, above, first.2, rows, few, rule))

pub overflow_add-result-2 : goal.overflow_add-result-2
overflow_add-result-2 c =
    let few = few_months c.args.table.now (kept c.args.from) (kept c.args.to) (omega (arith, signed, c.requires.from), omega (arith, signed, c.requires.from)) (omega (arith, signed, c.requires.to), omega (arith, signed, c.requires.to)) (omega (arith, signed, c.requires.order, c.requires.from, c.requires.to)) in
    omega (arith, signed, few, c.months_without_rows.ensures, c.months_of_rows.ensures, c.months_without_rows-2.ensures)

pub returns : goal.returns
returns c =
    let from_is : kept c.args.from ≡ c.args.from = omega (arith, signed, c.requires.from) in
    let to_is : kept c.args.to ≡ c.args.to = omega (arith, signed, c.requires.to) in
    omega (arith, signed, ap (before c.args.table.now) from_is, ap (before c.args.table.now) to_is, c.months_without_rows.ensures, c.months_of_rows.ensures, c.months_without_rows-2.ensures)
