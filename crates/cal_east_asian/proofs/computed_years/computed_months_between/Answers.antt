use Rattle.std.proofs.Common.{◌≡◌, ◌∙◌, ap, arith, ℤ, to_z, of_z, w32}
use Rattle.cal_days.specs.Day.{IsRuleYear}
use Rattle.cal_days.proofs.Signed.{signed}
use Rattle.cal_east_asian.specs.laws.ComputedLaws.{computed_first_moon, computed_first_moon-span}
use Rattle.cal_east_asian.proofs.computed_years.computed_months_between.Goals as goal

year_back : (y : ℤ) → IsRuleYear y → to_z w32 (of_z w32 y) ≡ y
year_back y h = omega (arith, signed, h)

pub returns : goal.returns
returns c =
    let side = c.args.side in
    let a : c.computed_first_moon.result ≡ computed_first_moon side c.args.to = c.computed_first_moon.ensures.exact ∙ ap (λ (z : ℤ). computed_first_moon side z) (year_back c.args.to c.requires.to) in
    let b : c.computed_first_moon-2.result ≡ computed_first_moon side c.args.from = c.computed_first_moon-2.ensures.exact ∙ ap (λ (z : ℤ). computed_first_moon side z) (year_back c.args.from c.requires.from) in
    omega (arith, signed, a, b, c.computed_first_moon.ensures.near, c.computed_first_moon-2.ensures.near, computed_first_moon-span side c.args.from c.args.to)
