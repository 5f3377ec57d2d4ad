use Rattle.std.proofs.Common.{◌≡◌, pos, ◌+ℤ◌, ◌-ℤ◌, arith}
use Rattle.cal_days.proofs.Signed.{signed}
use Rattle.cal_rrule.specs.NamedDays.{stretch}
use Rattle.cal_rrule.proofs.NamedDayLemmas.{front-inside}
use Rattle.cal_rrule.proofs.named_days.named_from_front.Goals as goal

pub returns : goal.returns
returns c =
    let is : c.new.result ≡ c.args.first +ℤ pos c.args.number -ℤ pos 1 = omega (arith, signed) in
    front-inside c.args.skip (stretch c.args.first c.args.days) c.args.number _ (omega arith) (omega arith) is
