use Rattle.std.proofs.Common.{◌≡◌, ℤ, pos, ◌+ℤ◌, ◌-ℤ◌, to_z, of_z, w32, w64, ap, refl, arith}
use Rattle.cal_days.specs.Division.{floor_div}
use Rattle.cal_days.proofs.Signed.{signed}
use Rattle.cal_days.proofs.DivisionLemmas.{floor_parts}
use Rattle.cal_types.specs.CalendarList.{start_of_year}
use Rattle.arith_tests.specs.AlternatingMonths.{alternating}
use Rattle.arith_tests.specs.laws.AlternatingMonthLaws.{start_of_year-alternating, year_length-alternating}
use Rattle.arith_tests.proofs.alternating_months.AlternatingMonthsYears.year_containing_rd.Goals as goal

years : (c : goal.After-div_euclid-years) → c.div_euclid-years.result ≡ floor_div (c.args.rd -ℤ pos 1) 354
unfolding floor_div
years c = omega (arith, signed, c.div_euclid-years.ensures)

module _ (c : goal.After-div_euclid-years) where
  -- the year, as it comes back from its casts
  abbrev year : ℤ
  year = to_z w32 (of_z w32 (to_z w32 (of_z w32 (to_z w64 (of_z w64 c.div_euclid-years.result))) +ℤ pos 1))

  small : year ≡ floor_div (c.args.rd -ℤ pos 1) 354 +ℤ pos 1
  small = omega (arith, signed, years c, floor_parts (c.args.rd -ℤ pos 1) 354 (omega arith))

pub returns-clause-year : goal.returns-clause-year
returns-clause-year c =
    let parts = floor_parts (c.args.rd -ℤ pos 1) 354 (omega arith) in
    record { same = refl; range = (omega (arith, signed, small c, parts), omega (arith, signed, small c, parts)) }

pub returns-clause-range : goal.returns-clause-range
returns-clause-range c =
    let parts = floor_parts (c.args.rd -ℤ pos 1) 354 (omega arith) in
    (omega (arith, signed, small c, parts), omega (arith, signed, small c, parts))

pub returns-clause-storable : goal.returns-clause-storable
returns-clause-storable c =
    let parts = floor_parts (c.args.rd -ℤ pos 1) 354 (omega arith) in
    (omega (arith, signed, small c, parts), omega (arith, signed, small c, parts))

pub returns-clause-first : goal.returns-clause-first
returns-clause-first c =
    let start = ap (start_of_year alternating) (small c) in
    let formula = start_of_year-alternating (floor_div (c.args.rd -ℤ pos 1) 354 +ℤ pos 1) in
    omega (arith, signed, start, formula, floor_parts (c.args.rd -ℤ pos 1) 354 (omega arith))

pub returns-clause-last : goal.returns-clause-last
returns-clause-last c =
    let start = ap (start_of_year alternating) (small c) in
    let formula = start_of_year-alternating (floor_div (c.args.rd -ℤ pos 1) 354 +ℤ pos 1) in
    omega (arith, signed, start, formula, year_length-alternating (year c), floor_parts (c.args.rd -ℤ pos 1) 354 (omega arith))
