use Rattle.std.proofs.Common.{subst, sym, ℤ, pos}
use Rattle.cal_days.specs.Day.{IsValidDay}
use Rattle.cal_base.specs.laws.OffsetSystemLaws.{kept-dated}
use Rattle.cal_base.proofs.calendar.Calendar.from_iso.Goals as goal

pub from_rata_die-requires : goal.from_rata_die-requires
from_rata_die-requires g c = subst (λ (n : ℤ). IsValidDay n) (sym c.to_rata_die.ensures) (kept-dated (pos 0) c.args.iso.0.parts c.requires).valid
