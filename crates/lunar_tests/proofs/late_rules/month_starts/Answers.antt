use Rattle.std.proofs.Common.{◌≡◌, ◌∙◌, ℤ, pos, ◌+ℤ◌, ap, refl, to_z, of_z, w64, arith}
use Rattle.cal_days.proofs.Signed.{signed}
use Rattle.lunar_tests.proofs.late_rules.month_starts.Goals as goal

-- what a call gives
given : (result a : ℤ) (first : ℤ) → to_z w64 (of_z w64 first) ≡ first → result ≡ to_z w64 (of_z w64 first) +ℤ a → result ≡ first +ℤ a
given result a first kept e = e ∙ ap (λ (z : ℤ). z +ℤ a) kept

pub returns : goal.returns
returns c =
    let first : to_z w64 (of_z w64 c.args.first) ≡ c.args.first = omega (arith, signed, c.requires.first) in
    let next : to_z w64 (of_z w64 c.args.next) ≡ c.args.next = omega (arith, signed, c.requires.next) in
    rw (given c.day_after.result (pos 0) c.args.first first c.day_after.ensures, given c.day_after-2.result (pos 30) c.args.first first c.day_after-2.ensures, given c.day_after-3.result (pos 59) c.args.first first c.day_after-3.ensures, given c.day_after-4.result (pos 89) c.args.first first c.day_after-4.ensures, given c.day_after-5.result (pos 118) c.args.first first c.day_after-5.ensures, given c.day_after-6.result (pos 148) c.args.first first c.day_after-6.ensures, given c.day_after-7.result (pos 177) c.args.first first c.day_after-7.ensures, given c.day_after-8.result (pos 207) c.args.first first c.day_after-8.ensures, given c.day_after-9.result (pos 236) c.args.first first c.day_after-9.ensures, given c.day_after-10.result (pos 266) c.args.first first c.day_after-10.ensures, given c.day_after-11.result (pos 295) c.args.first first c.day_after-11.ensures, given c.day_after-12.result (pos 325) c.args.first first c.day_after-12.ensures, given c.day_after-13.result (pos 0) c.args.next next c.day_after-13.ensures) refl
