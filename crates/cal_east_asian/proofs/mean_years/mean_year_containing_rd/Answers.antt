use Rattle.std.proofs.Common.{◌≡◌, pos, ◌-ℤ◌, ◌≤ℤ◌, ◌<ℤ◌, ℤ, to_z, of_z, w32, w64, arith}
use Rattle.std.proofs.lemmas.Grind.{common_steps}
use Rattle.cal_days.proofs.Signed.{signed}
use Rattle.cal_east_asian.specs.MeanYears.{IsOffset}
use Rattle.cal_east_asian.specs.MeanTraditionalYears.{mean_traditional_year}
use Rattle.cal_east_asian.specs.laws.MeanTraditionalLaws.{mean-years}
use Rattle.cal_east_asian.proofs.PartLemmas.{mean-by, mean-own}
use Rattle.cal_east_asian.proofs.Finding.{IsFound, earlier, itself, new_year-small}
use Rattle.cal_east_asian.proofs.mean_years.mean_year_containing_rd.Goals as goal

offset_back : (o : ℤ) → IsOffset o → to_z w64 (of_z w64 o) ≡ o
offset_back o h = omega (arith, signed, h)

before : (c : goal.After-mean_year) → IsFound (mean_traditional_year c.args.utc_offset c.requires.offset) (mean-years c.args.utc_offset c.requires.offset) c.args.rd c.year_from_fixed-iso_year.result c.year_from_fixed-iso_year.ensures.first c.year_from_fixed-iso_year.ensures.last c.year_from_fixed-iso_year.ensures.range c.mean_year.result
before c =
    let iso = c.year_from_fixed-iso_year in
    let range = iso.ensures.range in
    let at : to_z w32 (of_z w32 iso.result) ≡ iso.result = omega (arith, signed, range) in
    let down : to_z w32 (of_z w32 (to_z w32 (of_z w32 iso.result) -ℤ pos 1)) ≡ iso.result -ℤ pos 1 = omega (arith, signed, range) in
    let is : c.mean_year-year.result ≡ mean_traditional_year c.args.utc_offset c.requires.offset (to_z w32 (of_z w32 iso.result)) = mean-by c.args.utc_offset (to_z w64 (of_z w64 c.args.utc_offset)) (to_z w32 (of_z w32 iso.result)) c.mean_year-year.result c.requires.offset (offset_back c.args.utc_offset c.requires.offset) c.mean_year-year.ensures.exact in
    let small = new_year-small (mean_traditional_year c.args.utc_offset c.requires.offset) (mean-years c.args.utc_offset c.requires.offset) c.mean_year-year.result (to_z w32 (of_z w32 iso.result)) is (omega (arith, signed, range, at), omega (arith, signed, range, at)) in
    let this : c.mean_year.result ≡ mean_traditional_year c.args.utc_offset c.requires.offset (to_z w32 (of_z w32 (to_z w32 (of_z w32 iso.result) -ℤ pos 1))) = mean-by c.args.utc_offset (to_z w64 (of_z w64 c.args.utc_offset)) (to_z w32 (of_z w32 (to_z w32 (of_z w32 iso.result) -ℤ pos 1))) c.mean_year.result c.requires.offset (offset_back c.args.utc_offset c.requires.offset) c.mean_year.ensures.exact in
    let lt : c.args.rd <ℤ c.mean_year-year.result.new_year = omega (arith, signed, small, c.to_i64_date.ensures, c.if-to_i64_date-year.true) in
    earlier (mean_traditional_year c.args.utc_offset c.requires.offset) (mean-years c.args.utc_offset c.requires.offset) c.args.rd iso.result iso.ensures.first iso.ensures.last range c.mean_year-year.result c.mean_year.result _ _ is at this down lt

pub returns-then-to_i64_date-year-clause-first : goal.returns-then-to_i64_date-year-clause-first
returns-then-to_i64_date-year-clause-first c = (before c).starts

pub returns-then-to_i64_date-year-clause-last : goal.returns-then-to_i64_date-year-clause-last
returns-then-to_i64_date-year-clause-last c = (before c).ends

within : (c : goal.Else-to_i64_date-year) → IsFound (mean_traditional_year c.args.utc_offset c.requires.offset) (mean-years c.args.utc_offset c.requires.offset) c.args.rd c.year_from_fixed-iso_year.result c.year_from_fixed-iso_year.ensures.first c.year_from_fixed-iso_year.ensures.last c.year_from_fixed-iso_year.ensures.range c.mean_year-year.result
within c =
    let iso = c.year_from_fixed-iso_year in
    let range = iso.ensures.range in
    let at : to_z w32 (of_z w32 iso.result) ≡ iso.result = omega (arith, signed, range) in
    let is : c.mean_year-year.result ≡ mean_traditional_year c.args.utc_offset c.requires.offset (to_z w32 (of_z w32 iso.result)) = mean-by c.args.utc_offset (to_z w64 (of_z w64 c.args.utc_offset)) (to_z w32 (of_z w32 iso.result)) c.mean_year-year.result c.requires.offset (offset_back c.args.utc_offset c.requires.offset) c.mean_year-year.ensures.exact in
    let small = new_year-small (mean_traditional_year c.args.utc_offset c.requires.offset) (mean-years c.args.utc_offset c.requires.offset) c.mean_year-year.result (to_z w32 (of_z w32 iso.result)) is (omega (arith, signed, range, at), omega (arith, signed, range, at)) in
    let le : c.mean_year-year.result.new_year ≤ℤ c.args.rd = omega (arith, signed, small, c.to_i64_date.ensures, c.if-to_i64_date-year.false) in
    itself (mean_traditional_year c.args.utc_offset c.requires.offset) (mean-years c.args.utc_offset c.requires.offset) c.args.rd iso.result iso.ensures.first iso.ensures.last range c.mean_year-year.result _ is at le

pub returns-else-to_i64_date-year-clause-last : goal.returns-else-to_i64_date-year-clause-last
returns-else-to_i64_date-year-clause-last c = (within c).ends

pub returns-then-to_i64_date-year-clause-year : goal.returns-then-to_i64_date-year-clause-year
returns-then-to_i64_date-year-clause-year c = mean-own c.args.utc_offset _ _ c.mean_year.result (offset_back c.args.utc_offset c.requires.offset) c.mean_year.ensures.year

pub returns-else-to_i64_date-year-clause-year : goal.returns-else-to_i64_date-year-clause-year
returns-else-to_i64_date-year-clause-year c = mean-own c.args.utc_offset _ _ c.mean_year-year.result (offset_back c.args.utc_offset c.requires.offset) c.mean_year-year.ensures.year

pub returns-then-to_i64_date-year-clause-range : goal.returns-then-to_i64_date-year-clause-range
returns-then-to_i64_date-year-clause-range c = grind (arith, common_steps)
