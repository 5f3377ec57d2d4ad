use Rattle.std.proofs.Common.{◌≡◌, ◌∙◌, ap, arith, ℤ, ◌-ℤ◌, to_z, of_z, w32, w64}
use Rattle.cal_days.specs.Day.{IsRuleYear}
use Rattle.cal_days.proofs.GregorianLemmas.{gregorian_start-bounds}
use Rattle.cal_days.proofs.Signed.{signed, signed_casts}
use Rattle.cal_east_asian.specs.EastAsianYear.{IsNewYear, january_19}
use Rattle.cal_east_asian.proofs.east_asian_traditional_year.days_after_january_19.Goals as goal

-- the difference of the two days arrives as it is
since : (y day first : ℤ) → IsRuleYear y → IsNewYear y day → first ≡ january_19 (to_z w32 (of_z w32 y)) → to_z w64 (of_z w64 (to_z w64 (of_z w64 day) -ℤ to_z w64 (of_z w64 first))) ≡ day -ℤ january_19 y
since y day first rule near said =
    let same : to_z w32 (of_z w32 y) ≡ y = omega (arith, signed, rule) in
    let is : first ≡ january_19 y = said ∙ ap january_19 same in
    omega (arith, signed, is, near, rule, gregorian_start-bounds y)

pub overflow_cast-result : goal.overflow_cast-result
overflow_cast-result c =
    let e = since c.args.related_iso c.args.new_year c.january_19.result c.requires.number c.requires.start c.january_19.ensures.value in
    (omega (arith, signed_casts, e, c.requires.start), omega (arith, signed_casts, e, c.requires.start))

pub returns-clause-value : goal.returns-clause-value
returns-clause-value c =
    let e = since c.args.related_iso c.args.new_year c.january_19.result c.requires.number c.requires.start c.january_19.ensures.value in
    omega (arith, signed_casts, e, c.requires.start)

pub returns-clause-small : goal.returns-clause-small
returns-clause-small c =
    let e = since c.args.related_iso c.args.new_year c.january_19.result c.requires.number c.requires.start c.january_19.ensures.value in
    omega (arith, signed_casts, e, c.requires.start)
