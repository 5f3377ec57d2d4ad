use Rattle.std.proofs.Common.{◌≡◌, ◌∙◌, ◌+◌, ◌*◌, ℤ, pos, neg_ℤ, ◌+ℤ◌, ◌-ℤ◌, ◌*ℤ◌, nat_abs, to_z, of_z, w64, ap, arith}
use Rattle.std.specs.Int.{int_div_euclid}
use Rattle.cal_days.specs.Day.{IsBetween}
use Rattle.cal_days.specs.Division.{floor_div, floor_mod}
use Rattle.cal_days.proofs.Signed.{signed}
use Rattle.cal_days.proofs.DivisionLemmas.{floor_div-is, floor_mod-is, floor_parts}
use Rattle.cal_days.proofs.EasterLemmas.{epact_terms-bounds}
use Rattle.cal_days.proofs.gregorian.shifted_epact.Goals as goal

-- the two quotients
dropped : (century q : ℤ) → IsBetween (neg_ℤ (pos 21474836)) (pos 21474837) century → q ≡ int_div_euclid (to_z w64 (of_z w64 (pos 3 *ℤ to_z w64 (of_z w64 century)))) (pos 4) → q ≡ floor_div (pos 3 *ℤ century) 4
dropped century q range e =
    let number : to_z w64 (of_z w64 (pos 3 *ℤ to_z w64 (of_z w64 century))) ≡ pos 3 *ℤ century = omega (arith, signed, range) in
    rw number at e ∙ floor_div-is (pos 3 *ℤ century) 4

gained : (century q : ℤ) → IsBetween (neg_ℤ (pos 21474836)) (pos 21474837) century → q ≡ int_div_euclid (to_z w64 (of_z w64 (to_z w64 (of_z w64 (pos 8 *ℤ to_z w64 (of_z w64 century))) +ℤ pos 5))) (pos 25) → q ≡ floor_div (pos 5 +ℤ pos 8 *ℤ century) 25
gained century q range e =
    let number : to_z w64 (of_z w64 (to_z w64 (of_z w64 (pos 8 *ℤ to_z w64 (of_z w64 century))) +ℤ pos 5)) ≡ pos 5 +ℤ pos 8 *ℤ century = omega (arith, signed, range) in
    rw number at e ∙ floor_div-is (pos 5 +ℤ pos 8 *ℤ century) 25

pub overflow_add-from : goal.overflow_add-from
overflow_add-from c =
    let bounds = epact_terms-bounds c.args.metonic c.args.century c.requires.year c.requires.century in
    let a = dropped c.args.century c.div_euclid-dropped.result c.requires.century c.div_euclid-dropped.ensures in
    let b = gained c.args.century c.div_euclid-gained.result c.requires.century c.div_euclid-gained.ensures in
    omega (arith, signed, a, b, bounds, c.from.ensures, c.requires.year)

pub returns-clause-value : goal.returns-clause-value
returns-clause-value c =
    let bounds = epact_terms-bounds c.args.metonic c.args.century c.requires.year c.requires.century in
    let a = dropped c.args.century c.div_euclid-dropped.result c.requires.century c.div_euclid-dropped.ensures in
    let b = gained c.args.century c.div_euclid-gained.result c.requires.century c.div_euclid-gained.ensures in
    let number = pos (14 + 11 * c.args.metonic) -ℤ floor_div (pos 3 *ℤ c.args.century) 4 +ℤ floor_div (pos 5 +ℤ pos 8 *ℤ c.args.century) 25 in
    let same : to_z w64 (of_z w64 (to_z w64 (of_z w64 (to_z w64 (of_z w64 c.from.result) -ℤ to_z w64 (of_z w64 c.div_euclid-dropped.result))) +ℤ to_z w64 (of_z w64 c.div_euclid-gained.result))) ≡ number
    = omega (arith, signed, a, b, bounds, c.from.ensures, c.requires.year) in
    let rest : c.rem_euclid.result ≡ pos (floor_mod number 30) = rw same at c.rem_euclid.ensures.value ∙ floor_mod-is number 30 (omega arith) in
    let back : to_z w64 (of_z w64 c.rem_euclid.result) ≡ pos (floor_mod number 30) = omega (arith, signed, rest, floor_parts number 30) in
    ap nat_abs back

pub overflow_sub-from : goal.overflow_sub-from
overflow_sub-from c =
    let a = dropped c.args.century c.div_euclid-dropped.result c.requires.century c.div_euclid-dropped.ensures in
    omega (arith, signed, a, c.from.ensures, c.requires.year, c.requires.century, floor_parts (pos 3 *ℤ c.args.century) 4)
