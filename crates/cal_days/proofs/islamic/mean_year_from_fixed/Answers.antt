use Rattle.std.proofs.Common.{◌≡◌, pos, neg_ℤ, ◌+ℤ◌, ◌-ℤ◌, ◌*ℤ◌, ◌≤ℤ◌, ◌<ℤ◌, ℤ, to_z, of_z, w32, w64, subst, sym, arith}
use Rattle.cal_days.specs.Day.{IsBetween, IsValidDay}
use Rattle.cal_days.specs.Division.{floor_div}
use Rattle.cal_days.specs.Islamic.{islamic_mean_start}
use Rattle.cal_days.proofs.Signed.{signed}
use Rattle.cal_days.proofs.IslamicLemmas.{mean_year-after, mean_year-before, mean_year_of_valid_day}
use Rattle.cal_days.proofs.islamic.mean_year_from_fixed.Goals as goal

-- the year of a day, and its range
record Found (rd y : ℤ) : Type 0 where
  first : islamic_mean_start y ≤ℤ rd
  last : rd <ℤ islamic_mean_start (y +ℤ pos 1)
  range : IsBetween (neg_ℤ (pos 1032000)) (pos 1032000) y

-- it comes back from its bits as it was
kept : (rd y : ℤ) → IsValidDay rd → (islamic_mean_start y ≤ℤ rd) × (rd <ℤ islamic_mean_start (y +ℤ pos 1)) → Found rd (to_z w32 (of_z w32 y))
kept rd y valid found =
    let range = mean_year_of_valid_day rd y valid found.0 found.1 in
    let same : to_z w32 (of_z w32 y) ≡ y = omega (arith, signed, range) in
    subst (Found rd) (sym same) (record { first = found.0; last = found.1; range = range })

before : (rd days y : ℤ) → IsValidDay rd → days ≡ rd -ℤ pos 227015 → rd <ℤ pos 227015 → y ≡ floor_div (to_z w64 (of_z w64 (pos 30 *ℤ days))) 10631 +ℤ pos 1 → Found rd (to_z w32 (of_z w32 y))
before rd days y valid since lt e =
    let number : to_z w64 (of_z w64 (pos 30 *ℤ days)) ≡ pos 30 *ℤ (rd -ℤ pos 227015) = omega (arith, signed, valid, since) in
    kept rd y valid (mean_year-before rd y lt (rw number at e))

after : (rd days y : ℤ) → IsValidDay rd → days ≡ rd -ℤ pos 227015 → pos 227015 ≤ℤ rd → y ≡ floor_div (to_z w64 (of_z w64 (to_z w64 (of_z w64 (pos 30 *ℤ days)) +ℤ pos 29))) 10631 +ℤ pos 1 → Found rd (to_z w32 (of_z w32 y))
after rd days y valid since le e =
    let number : to_z w64 (of_z w64 (to_z w64 (of_z w64 (pos 30 *ℤ days)) +ℤ pos 29)) ≡ pos 30 *ℤ (rd -ℤ pos 227015) +ℤ pos 29 = omega (arith, signed, valid, since) in
    kept rd y valid (mean_year-after rd y le (rw number at e))

found-then : (c : goal.After-year_of_thirtieths) → Found c.args.rd (to_z w32 (of_z w32 c.year_of_thirtieths.result))
found-then c =
    let days = to_z w64 (of_z w64 (to_z w64 (of_z w64 c.to_i64_date-days.result) -ℤ pos 227015)) in
    let since : days ≡ c.args.rd -ℤ pos 227015 = omega (arith, signed, c.requires, c.to_i64_date-days.ensures) in
    before c.args.rd days c.year_of_thirtieths.result c.requires since (omega (arith, signed, since, c.if-days-lt0.true)) c.year_of_thirtieths.ensures

found-else : (c : goal.After-year_of_thirtieths-else-days-lt0) → Found c.args.rd (to_z w32 (of_z w32 c.year_of_thirtieths-else-days-lt0.result))
found-else c =
    let days = to_z w64 (of_z w64 (to_z w64 (of_z w64 c.to_i64_date-days.result) -ℤ pos 227015)) in
    let since : days ≡ c.args.rd -ℤ pos 227015 = omega (arith, signed, c.requires, c.to_i64_date-days.ensures) in
    after c.args.rd days c.year_of_thirtieths-else-days-lt0.result c.requires since (omega (arith, signed, since, c.if-days-lt0.false)) c.year_of_thirtieths-else-days-lt0.ensures

pub returns-then-days-lt0-clause-first : goal.returns-then-days-lt0-clause-first
returns-then-days-lt0-clause-first c = (found-then c).first

pub returns-then-days-lt0-clause-last : goal.returns-then-days-lt0-clause-last
returns-then-days-lt0-clause-last c = (found-then c).last

pub returns-then-days-lt0-clause-range : goal.returns-then-days-lt0-clause-range
returns-then-days-lt0-clause-range c = (found-then c).range

pub returns-else-days-lt0-clause-first : goal.returns-else-days-lt0-clause-first
returns-else-days-lt0-clause-first c = (found-else c).first

pub returns-else-days-lt0-clause-last : goal.returns-else-days-lt0-clause-last
returns-else-days-lt0-clause-last c = (found-else c).last

pub returns-else-days-lt0-clause-range : goal.returns-else-days-lt0-clause-range
returns-else-days-lt0-clause-range c = (found-else c).range
