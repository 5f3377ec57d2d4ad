use Rattle.std.proofs.Common.{◌≡◌, ◌∙◌, pos, ◌+ℤ◌, ◌-ℤ◌, sym, arith}
use Rattle.cal_days.proofs.Signed.{signed}
use Rattle.cal_rrule.proofs.named_days.day_behind.Goals as goal

pub returns-in-Backward : goal.returns-in-Backward
returns-in-Backward c =
    let is : c.new.result ≡ c.args.first +ℤ pos c.args.days -ℤ pos 1 = omega (arith, signed) in
    rw c.in-Backward.is (is, λ n named. named ∙ sym is)
