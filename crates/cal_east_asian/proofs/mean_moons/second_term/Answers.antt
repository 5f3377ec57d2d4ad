use Rattle.std.proofs.Common.{◌≡◌, ℤ, arith, to_z, of_z, w32, w64}
use Rattle.cal_days.proofs.Signed.{signed}
use Rattle.cal_days.specs.Day.{IsRuleYear}
use Rattle.cal_east_asian.specs.MeanYears as mean
use Rattle.cal_east_asian.specs.MeanYears.{IsOffset}
use Rattle.cal_east_asian.specs.laws.MoonLaws.{term-more}
use Rattle.cal_east_asian.proofs.MoonLemmas.{term-by}
use Rattle.cal_east_asian.proofs.mean_moons.second_term.Goals as goal

offset_back : (o : ℤ) → IsOffset o → to_z w64 (of_z w64 o) ≡ o
offset_back o h = omega (arith, signed, h)

year_back : (y : ℤ) → IsRuleYear y → to_z w32 (of_z w32 y) ≡ y
year_back y h = omega (arith, signed, h)

pub returns-clause-exact : goal.returns-clause-exact
returns-clause-exact c =
    let o = c.args.utc_offset in
    let y = c.args.year in
    let zero : c.solstice.result ≡ mean.term o y 0 = term-by o y _ _ (offset_back o c.requires.offset) (year_back y c.requires.year) _ 0 c.solstice.ensures.exact in
    omega (arith, signed, zero, c.solstice.ensures.near, term-more o y 0 2)
