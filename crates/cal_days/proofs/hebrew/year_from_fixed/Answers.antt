use Rattle.std.proofs.Common.{◌≡◌, pos, ◌+ℤ◌, ◌-ℤ◌, ◌≤ℤ◌, ◌<ℤ◌, to_z, of_z, w32, arith}
use Rattle.cal_days.proofs.Signed.{signed}
use Rattle.cal_days.specs.Hebrew.{hebrew_start}
use Rattle.cal_days.proofs.HebrewLemmas.{hebrew_year_of_valid_day}
use Rattle.cal_days.proofs.hebrew.year_from_fixed.Goals as goal

pub returns-then-since-lt0-clause-range : goal.returns-then-since-lt0-clause-range
returns-then-since-lt0-clause-range c =
    let same : to_z w32 (of_z w32 c.near_year-near.result) ≡ c.near_year-near.result = omega (arith, signed, c.near_year-near.ensures.range) in
    let year : to_z w32 (of_z w32 (to_z w32 (of_z w32 c.near_year-near.result) -ℤ pos 1)) ≡ c.near_year-near.result -ℤ pos 1 = omega (arith, signed, c.near_year-near.ensures.range) in
    let formula = rw same at c.first_day.ensures in
    let again : c.near_year-near.result -ℤ pos 1 +ℤ pos 1 ≡ c.near_year-near.result = omega (arith, signed) in
    let last : c.args.rd <ℤ hebrew_start (c.near_year-near.result -ℤ pos 1 +ℤ pos 1) = rw again (omega (arith, signed, formula, c.since.ensures, c.if-since-lt0.true)) in
    rw year (hebrew_year_of_valid_day c.args.rd (c.near_year-near.result -ℤ pos 1) c.requires c.near_year-near.ensures.low last)

pub returns-else-since-lt0-clause-range : goal.returns-else-since-lt0-clause-range
returns-else-since-lt0-clause-range c =
    let year = c.near_year-near.result in
    let same : to_z w32 (of_z w32 year) ≡ year = omega (arith, signed, c.near_year-near.ensures.range) in
    let first : hebrew_start (to_z w32 (of_z w32 year)) ≤ℤ c.args.rd = omega (arith, signed, c.first_day.ensures, c.since.ensures, c.if-since-lt0.false) in
    rw same (hebrew_year_of_valid_day c.args.rd year c.requires (rw same at first) c.near_year-near.ensures.high)

pub returns-then-since-lt0-clause-first : goal.returns-then-since-lt0-clause-first
returns-then-since-lt0-clause-first c =
    let year : to_z w32 (of_z w32 (to_z w32 (of_z w32 c.near_year-near.result) -ℤ pos 1)) ≡ c.near_year-near.result -ℤ pos 1 = omega (arith, signed, c.near_year-near.ensures.range) in
    rw year c.near_year-near.ensures.low

pub returns-then-since-lt0-clause-last : goal.returns-then-since-lt0-clause-last
returns-then-since-lt0-clause-last c =
    let same : to_z w32 (of_z w32 c.near_year-near.result) ≡ c.near_year-near.result = omega (arith, signed, c.near_year-near.ensures.range) in
    let year : to_z w32 (of_z w32 (to_z w32 (of_z w32 c.near_year-near.result) -ℤ pos 1)) ≡ c.near_year-near.result -ℤ pos 1 = omega (arith, signed, c.near_year-near.ensures.range) in
    let formula = rw same at c.first_day.ensures in
    let again : c.near_year-near.result -ℤ pos 1 +ℤ pos 1 ≡ c.near_year-near.result = omega (arith, signed) in
    let last : c.args.rd <ℤ hebrew_start (c.near_year-near.result -ℤ pos 1 +ℤ pos 1) = rw again (omega (arith, signed, formula, c.since.ensures, c.if-since-lt0.true)) in
    rw year last
