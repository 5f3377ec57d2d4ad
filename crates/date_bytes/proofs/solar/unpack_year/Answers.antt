use Rattle.std.proofs.Common.{◌≡◌, ◌∙◌, ℤ, pos, neg_ℤ, ap, sym, subst, rules, arith, to_z, of_z, w32, FitsSigned}
use Rattle.std.specs.Int.{int_shr, from_le_bytes}
use Rattle.cal_days.specs.Day.{IsBetween}
use Rattle.cal_days.specs.Division.{floor_div}
use Rattle.cal_days.proofs.Signed.{signed}
use Rattle.cal_days.proofs.DivisionLemmas.{floor_parts}
use Rattle.date_bytes.specs.Bytes.{number_from}
use Rattle.date_bytes.proofs.ByteLemmas.{shifted}
use Rattle.date_bytes.proofs.solar.unpack_year.Goals as goal

-- a shift of a number that fits, which the code does on its bits
halved : (z : ℤ) → FitsSigned w32 z → to_z w32 (of_z w32 (int_shr (to_z w32 (of_z w32 z)) 9)) ≡ floor_div z 512
halved z fits =
    let kept : to_z w32 (of_z w32 z) ≡ z = omega (arith, signed, fits) in
    let fewer : to_z w32 (of_z w32 (floor_div z 512)) ≡ floor_div z 512 = omega (arith, signed, fits, floor_parts z 512 (omega arith)) in
    ap (λ (y : ℤ). to_z w32 (of_z w32 (int_shr y 9))) kept ∙ ap (λ (y : ℤ). to_z w32 (of_z w32 y)) (shifted z) ∙ fewer

kept : (z : ℤ) → FitsSigned w32 z → IsBetween (neg_ℤ (pos 4194304)) (pos 4194303) (floor_div z 512)
kept z fits = let parts = floor_parts z 512 (omega arith) in (omega (arith, signed, fits, parts), omega (arith, signed, fits, parts))

pub returns-clause-value : goal.returns-clause-value
returns-clause-value c =
    let fits : FitsSigned w32 c.from_le_bytes.result = search rules in
    let value : from_le_bytes w32 c.args.packed ≡ number_from 0 c.args.packed = omega arith in
    halved c.from_le_bytes.result fits ∙ ap (λ (z : ℤ). floor_div z 512) (c.from_le_bytes.ensures ∙ ap (to_z w32) value)

pub returns-clause-range : goal.returns-clause-range
returns-clause-range c =
    let fits : FitsSigned w32 c.from_le_bytes.result = search rules in
    subst (IsBetween (neg_ℤ (pos 4194304)) (pos 4194303)) (sym (halved c.from_le_bytes.result fits)) (kept c.from_le_bytes.result fits)
