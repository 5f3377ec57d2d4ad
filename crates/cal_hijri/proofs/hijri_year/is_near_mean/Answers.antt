use Rattle.std.proofs.Common.{◌≡◌, IsTrue, ℤ, pos, ◌≤ℤ◌, to_z, of_z, w32, w64, arith}
use Rattle.std.specs.Prelude.{int_le}
use Rattle.std.proofs.lemmas.Grind.{common_steps}
use Rattle.std.proofs.lemmas.Int.{ints}
use Rattle.cal_days.specs.Islamic.{islamic_mean_start}
use Rattle.cal_days.proofs.Signed.{signed}
use Rattle.cal_hijri.proofs.hijri_year.is_near_mean.Goals as goal

at_most : (a b : ℤ) → a ≤ℤ b → IsTrue (int_le a b)
at_most a b h = grind (arith, ints)

pub returns-then-since-geminus5 : goal.returns-then-since-geminus5
returns-then-since-geminus5 c =
    let y = c.args.extended_year in
    let kept : to_z w32 (of_z w32 y) ≡ y = omega (arith, signed) in
    let mean : c.mean_start.result ≡ islamic_mean_start y = rw kept at c.mean_start.ensures.formula in
    let low = c.if-extended_year-ltminus8000000.false in
    let high = c.if-extended_year-gt8000000.false in
    let least = c.if-since-geminus5.true in
    (λ h. ((omega (arith, signed, low), omega (arith, signed, high)), (omega (arith, signed, mean, c.since-since.ensures, least), omega (arith, signed, mean, c.since-since.ensures, h))), λ h. at_most (to_z w64 (of_z w64 c.since-since.result)) (pos 5) (omega (arith, signed, mean, c.since-since.ensures, h)))

pub returns-else-since-geminus5 : goal.returns-else-since-geminus5
returns-else-since-geminus5 c = grind (arith, common_steps)
