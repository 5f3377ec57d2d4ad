use Rattle.std.proofs.Common.{◌≡◌, pos, ◌-ℤ◌, ◌≤ℤ◌, ◌<ℤ◌, to_z, of_z, w32, arith}
use Rattle.std.proofs.lemmas.Grind.{common_steps}
use Rattle.cal_days.proofs.Signed.{signed}
use Rattle.cal_east_asian.specs.laws.ComputedLaws.{computed_year, computed-years}
use Rattle.cal_east_asian.proofs.Finding.{IsFound, earlier, itself, new_year-small}
use Rattle.cal_east_asian.proofs.computed_years.computed_year_containing_rd.Goals as goal

before : (c : goal.After-computed_year) → IsFound (computed_year c.args.side) (computed-years c.args.side) c.args.rd c.year_from_fixed-iso_year.result c.year_from_fixed-iso_year.ensures.first c.year_from_fixed-iso_year.ensures.last c.year_from_fixed-iso_year.ensures.range c.computed_year.result
before c =
    let iso = c.year_from_fixed-iso_year in
    let range = iso.ensures.range in
    let at : to_z w32 (of_z w32 iso.result) ≡ iso.result = omega (arith, signed, range) in
    let down : to_z w32 (of_z w32 (to_z w32 (of_z w32 iso.result) -ℤ pos 1)) ≡ iso.result -ℤ pos 1 = omega (arith, signed, range) in
    let is = c.computed_year-year.ensures.exact in
    let small = new_year-small (computed_year c.args.side) (computed-years c.args.side) c.computed_year-year.result (to_z w32 (of_z w32 iso.result)) is (omega (arith, signed, range, at), omega (arith, signed, range, at)) in
    let lt : c.args.rd <ℤ c.computed_year-year.result.new_year = omega (arith, signed, small, c.to_i64_date.ensures, c.if-to_i64_date-year.true) in
    earlier (computed_year c.args.side) (computed-years c.args.side) c.args.rd iso.result iso.ensures.first iso.ensures.last range c.computed_year-year.result c.computed_year.result _ _ is at (c.computed_year.ensures.exact) down lt

pub returns-then-to_i64_date-year-clause-first : goal.returns-then-to_i64_date-year-clause-first
returns-then-to_i64_date-year-clause-first c = (before c).starts

pub returns-then-to_i64_date-year-clause-last : goal.returns-then-to_i64_date-year-clause-last
returns-then-to_i64_date-year-clause-last c = (before c).ends

within : (c : goal.Else-to_i64_date-year) → IsFound (computed_year c.args.side) (computed-years c.args.side) c.args.rd c.year_from_fixed-iso_year.result c.year_from_fixed-iso_year.ensures.first c.year_from_fixed-iso_year.ensures.last c.year_from_fixed-iso_year.ensures.range c.computed_year-year.result
within c =
    let iso = c.year_from_fixed-iso_year in
    let range = iso.ensures.range in
    let at : to_z w32 (of_z w32 iso.result) ≡ iso.result = omega (arith, signed, range) in
    let is = c.computed_year-year.ensures.exact in
    let small = new_year-small (computed_year c.args.side) (computed-years c.args.side) c.computed_year-year.result (to_z w32 (of_z w32 iso.result)) is (omega (arith, signed, range, at), omega (arith, signed, range, at)) in
    let le : c.computed_year-year.result.new_year ≤ℤ c.args.rd = omega (arith, signed, small, c.to_i64_date.ensures, c.if-to_i64_date-year.false) in
    itself (computed_year c.args.side) (computed-years c.args.side) c.args.rd iso.result iso.ensures.first iso.ensures.last range c.computed_year-year.result _ is at le

pub returns-else-to_i64_date-year-clause-last : goal.returns-else-to_i64_date-year-clause-last
returns-else-to_i64_date-year-clause-last c = (within c).ends

pub returns-then-to_i64_date-year-clause-range : goal.returns-then-to_i64_date-year-clause-range
returns-then-to_i64_date-year-clause-range c = grind (arith, common_steps)
