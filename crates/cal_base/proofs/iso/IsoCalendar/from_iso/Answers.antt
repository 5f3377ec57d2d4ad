use Rattle.std.proofs.Common.{pos}
use Rattle.cal_base.specs.laws.OffsetSystemLaws.{kept-on}
use Rattle.cal_base.proofs.iso.IsoCalendar.from_iso.Goals as goal

pub returns-clause-on : goal.returns-clause-on
returns-clause-on c = kept-on (pos 0) (pos 0) c.args.iso.0.parts c.requires
