use Rattle.std.proofs.Common.{◌≡◌, IsTrue, ℤ, pos, ◌≤ℤ◌, to_z, of_z, w32, w64, arith}
use Rattle.std.proofs.lemmas.Grind.{common_steps}
use Rattle.std.specs.Prelude.{int_le}
use Rattle.std.proofs.lemmas.Int.{ints}
use Rattle.cal_days.specs.Gregorian.{gregorian_start}
use Rattle.cal_days.proofs.Signed.{signed}
use Rattle.cal_east_asian.proofs.month_starts.is_new_year.Goals as goal

at_most : (a b : ℤ) → a ≤ℤ b → IsTrue (int_le a b)
at_most a b h = grind (arith, ints)

pub returns-then-since-ge18 : goal.returns-then-since-ge18
returns-then-since-ge18 c =
    let y = c.args.related_iso in
    let kept : to_z w32 (of_z w32 y) ≡ y = omega (arith, signed) in
    let start : c.year_start.result ≡ gregorian_start y = rw kept at c.year_start.ensures.formula in
    let low = c.if-related_iso-ltminus8000000.false in
    let high = c.if-related_iso-gt8000000.false in
    let least = c.if-since-ge18.true in
    (λ h. ((omega (arith, signed, low), omega (arith, signed, high)), (omega (arith, signed, start, c.since-since.ensures, least), omega (arith, signed, start, c.since-since.ensures, h))), λ h. at_most (to_z w64 (of_z w64 c.since-since.result)) (pos 52) (omega (arith, signed, start, c.since-since.ensures, h)))

pub returns-else-since-ge18 : goal.returns-else-since-ge18
returns-else-since-ge18 c = grind (arith, common_steps)
