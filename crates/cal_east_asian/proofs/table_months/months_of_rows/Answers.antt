use Rattle.std.proofs.Common.{◌≡◌, ℕ, ◌+◌, ◌-◌, ◌*◌, ◌≤◌, length, take, drop, nat_abs, of_z, w32, ap, arith, ℤ, pos, ◌+ℤ◌, ◌-ℤ◌, ◌≤ℤ◌, ◌<ℤ◌}
use Rattle.std.proofs.lemmas.Grind.{common_steps}
use Rattle.std.proofs.lemmas.Int.{by_lt_z}
use Rattle.cal_days.specs.Day.{IsRuleYear}
use Rattle.cal_days.proofs.Signed.{signed, signed_casts}
use Rattle.cal_east_asian.specs.LeapRows.{leap_rows}
use Rattle.cal_east_asian.specs.TableMonths.{IsFirstNumber}
use Rattle.cal_east_asian.specs.declared.east_asian_table.EastAsianTable.{EastAsianTable}
use Rattle.cal_east_asian.proofs.TableMonthLemmas.{before, few-rows, first-rule, kept, rows-between}
use Rattle.cal_east_asian.proofs.table_months.months_of_rows.Goals as goal

-- the years lie among those of the rows
record AreNear (t : EastAsianTable) (first from to : ℤ) : Type 0 where
  first_is : IsFirstNumber t first
  rule : IsRuleYear first
  low : first ≤ℤ from
  order : from ≤ℤ to
  high : to ≤ℤ (first +ℤ pos (length t.rows.now))
  few : length t.rows.now ≤ 8088

near : (t : EastAsianTable) (first from to : ℤ) → IsFirstNumber t first → from ≤ℤ to → (of_z w32 from ≡ of_z w32 to → ⊥) → (from <ℤ to → (first ≤ℤ from) × (to ≤ℤ (first +ℤ pos (length t.rows.now)))) → AreNear t first from to
near t first from to h order other places =
    let lt : from <ℤ to = by_lt_z {P = from <ℤ to} from to (λ less. less) (λ ge. let same : from ≡ to = omega (arith, signed, order, ge) in absurd (other (ap (of_z w32) same))) in
    let within = places lt in
    record { first_is = h; rule = first-rule t first h; low = within.0; order = order; high = within.1; few = few-rows t }

-- a place among the rows
abbrev place : ℤ → ℤ → ℕ
place first y = nat_abs (kept (kept y -ℤ kept first))

-- the months by places
counted : (t : EastAsianTable) (first from to : ℤ) (leaps : ℕ) → AreNear t first from to → leaps ≡ leap_rows (take (place first to - place first from) (drop (place first from) t.rows.now)) → (before t to ≡ before t from +ℤ pos (12 * nat_abs (kept (kept to -ℤ kept from)) + leaps)) × (12 * nat_abs (kept (kept to -ℤ kept from)) + leaps ≤ 105144)
counted t first from to leaps n e =
    let from_is : from ≡ first +ℤ pos (place first from) = omega (arith, signed_casts, n.rule, n.low, n.order, n.high, n.few) in
    let to_is : to ≡ first +ℤ pos (place first to) = omega (arith, signed_casts, n.rule, n.low, n.order, n.high, n.few) in
    let between : nat_abs (kept (kept to -ℤ kept from)) ≡ place first to - place first from = omega (arith, signed_casts, n.rule, n.low, n.order, n.high, n.few) in
    let found = rows-between t first from to (place first from) (place first to) n.first_is from_is to_is (omega (arith, signed, from_is, to_is, n.order)) (omega (arith, signed, to_is, n.high)) in
    (omega (arith, signed, found.0, between, e), omega (arith, found.1, between, e))

pub overflow_sub-from : goal.overflow_sub-from
overflow_sub-from c =
    let n = near c.args.table.now c.args.first c.args.from c.args.to c.requires.first c.requires.order c.if-from-to.false c.requires.places in
    omega (arith, signed, n.rule, n.low, n.order, n.high, n.few)

pub overflow_cast-from : goal.overflow_cast-from
overflow_cast-from c =
    let n = near c.args.table.now c.args.first c.args.from c.args.to c.requires.first c.requires.order c.if-from-to.false c.requires.places in
    (omega (arith, signed, n.rule, n.low, n.order, n.high, n.few), omega (arith, signed_casts, n.rule, n.low, n.order, n.high, n.few))

pub overflow_sub-to : goal.overflow_sub-to
overflow_sub-to c =
    let n = near c.args.table.now c.args.first c.args.from c.args.to c.requires.first c.requires.order c.if-from-to.false c.requires.places in
    omega (arith, signed, n.rule, n.low, n.order, n.high, n.few)

pub overflow_cast-to : goal.overflow_cast-to
overflow_cast-to c =
    let n = near c.args.table.now c.args.first c.args.from c.args.to c.requires.first c.requires.order c.if-from-to.false c.requires.places in
    (omega (arith, signed, n.rule, n.low, n.order, n.high, n.few), omega (arith, signed_casts, n.rule, n.low, n.order, n.high, n.few))

pub leap_rows_between-leaps-requires-clause-order : goal.leap_rows_between-leaps-requires-clause-order
leap_rows_between-leaps-requires-clause-order c =
    let n = near c.args.table.now c.args.first c.args.from c.args.to c.requires.first c.requires.order c.if-from-to.false c.requires.places in
    omega (arith, signed_casts, n.rule, n.low, n.order, n.high, n.few)

pub overflow_sub-result : goal.overflow_sub-result
overflow_sub-result c =
    let n = near c.args.table.now c.args.first c.args.from c.args.to c.requires.first c.requires.order c.if-from-to.false c.requires.places in
    omega (arith, signed, n.rule, n.low, n.order, n.high, n.few)

pub overflow_cast-result : goal.overflow_cast-result
overflow_cast-result c =
    let n = near c.args.table.now c.args.first c.args.from c.args.to c.requires.first c.requires.order c.if-from-to.false c.requires.places in
    (omega (arith, signed, n.rule, n.low, n.order, n.high, n.few), omega (arith, signed_casts, n.rule, n.low, n.order, n.high, n.few))

pub overflow_mul-result : goal.overflow_mul-result
overflow_mul-result c =
    let n = near c.args.table.now c.args.first c.args.from c.args.to c.requires.first c.requires.order c.if-from-to.false c.requires.places in
    omega (arith, counted c.args.table.now c.args.first c.args.from c.args.to c.leap_rows_between-leaps.result n c.leap_rows_between-leaps.ensures)

pub overflow_add-result : goal.overflow_add-result
overflow_add-result c =
    let n = near c.args.table.now c.args.first c.args.from c.args.to c.requires.first c.requires.order c.if-from-to.false c.requires.places in
    omega (arith, counted c.args.table.now c.args.first c.args.from c.args.to c.leap_rows_between-leaps.result n c.leap_rows_between-leaps.ensures)

pub returns : goal.returns
returns c =
    let n = near c.args.table.now c.args.first c.args.from c.args.to c.requires.first c.requires.order c.if-from-to.false c.requires.places in
    (counted c.args.table.now c.args.first c.args.from c.args.to c.leap_rows_between-leaps.result n c.leap_rows_between-leaps.ensures).0

pub leap_rows_between-leaps-requires-clause-within : goal.leap_rows_between-leaps-requires-clause-within
leap_rows_between-leaps-requires-clause-within c = grind (arith, common_steps)
