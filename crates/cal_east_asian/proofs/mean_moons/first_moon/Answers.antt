use Rattle.std.proofs.Common.{◌≡◌, ◌∙◌, ℤ, arith, sym, ap, subst, to_z, of_z, w32, w64}
use Rattle.cal_days.proofs.Signed.{signed}
use Rattle.cal_days.specs.Day.{IsRuleYear}
use Rattle.cal_east_asian.specs.MeanYears as mean
use Rattle.cal_east_asian.specs.MeanYears.{day, IsOffset, IsLastMoon}
use Rattle.cal_east_asian.specs.laws.MoonLaws.{last_moon-greatest}
use Rattle.cal_east_asian.specs.laws.MeanYearLaws.{first_moon-is, first_moon-next}
use Rattle.cal_east_asian.proofs.MoonLemmas.{term-by, first-by}
use Rattle.cal_east_asian.proofs.mean_moons.first_moon.Goals as goal

offset_back : (o : ℤ) → IsOffset o → to_z w64 (of_z w64 o) ≡ o
offset_back o h = omega (arith, signed, h)

year_back : (y : ℤ) → IsRuleYear y → to_z w32 (of_z w32 y) ≡ y
year_back y h = omega (arith, signed, h)

pub returns-clause-exact : goal.returns-clause-exact
returns-clause-exact c =
    let o = c.args.utc_offset in
    let y = c.args.year in
    let so = offset_back o c.requires.offset in
    let sy = year_back y c.requires.year in
    let term : c.second_term.result ≡ mean.term o y 2 = term-by o y _ _ so sy _ 2 c.second_term.ensures.exact in
    let st : to_z w64 (of_z w64 c.second_term.result) ≡ c.second_term.result = omega (arith, signed, c.second_term.ensures.near) in
    let d : c.day_of.result ≡ day (mean.term o y 2) = c.day_of.ensures.exact ∙ ap (λ t. day t) (st ∙ term) in
    let sd : to_z w64 (of_z w64 c.day_of.result) ≡ c.day_of.result = omega (arith, signed, st, c.day_of.ensures.first, c.day_of.ensures.last, c.second_term.ensures.near) in
    let k = first-by o _ _ so _ c.last_moon_by.ensures.exact ∙ ap (mean.last_moon o) (sd ∙ d) in
    let sk : to_z w64 (of_z w64 c.last_moon_by.result) ≡ c.last_moon_by.result = omega (arith, signed, c.last_moon_by.ensures.near) in
    sk ∙ k ∙ sym (first_moon-is o y)

pub returns-clause-last : goal.returns-clause-last
returns-clause-last c =
    let o = c.args.utc_offset in
    let d = day (mean.term o c.args.year 2) in
    subst (λ (k : ℤ). IsLastMoon o d k) (sym (returns-clause-exact c ∙ first_moon-is o c.args.year)) (last_moon-greatest o d)

pub returns-clause-next : goal.returns-clause-next
returns-clause-next c = omega (arith, signed, returns-clause-exact c, first_moon-next c.args.utc_offset c.args.year)
