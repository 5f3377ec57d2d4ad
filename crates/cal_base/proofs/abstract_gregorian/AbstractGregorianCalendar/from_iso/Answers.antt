use Rattle.std.proofs.Common.{pos}
use Rattle.cal_base.specs.laws.OffsetSystemLaws.{kept-on}
use Rattle.cal_base.proofs.abstract_gregorian.AbstractGregorianCalendar.from_iso.Goals as goal

pub returns-clause-on : goal.returns-clause-on
returns-clause-on g c = rw c.cast.ensures (kept-on (pos 0) (g.Y.GregorianYears.offset c.args.self.now.0) c.args.iso.0.parts c.requires)
