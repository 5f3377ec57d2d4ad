use Rattle.std.proofs.Common.{◌≡◌, pos, ◌+ℤ◌, ◌-ℤ◌, arith}
use Rattle.cal_days.proofs.Signed.{signed}
use Rattle.cal_rrule.specs.NamedDays.{stretch}
use Rattle.cal_rrule.proofs.NamedDayLemmas.{back-inside}
use Rattle.cal_rrule.proofs.named_days.named_from_back.Goals as goal

pub returns : goal.returns
returns c =
    let is : c.new.result ≡ c.args.first +ℤ pos c.args.days -ℤ pos c.args.number = omega (arith, signed) in
    back-inside c.args.skip (stretch c.args.first c.args.days) c.args.number _ (omega arith) (omega arith) is
