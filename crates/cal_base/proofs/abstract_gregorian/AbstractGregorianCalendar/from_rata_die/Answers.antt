use Rattle.cal_base.specs.laws.OffsetSystemLaws.{belongs-kept}
use Rattle.cal_base.proofs.abstract_gregorian.AbstractGregorianCalendar.from_rata_die.Goals as goal

pub returns-clause-belongs : goal.returns-clause-belongs
returns-clause-belongs g c = belongs-kept (g.Y.GregorianYears.offset c.args.self.now.0) c.from_rata_die.result.parts c.from_rata_die.ensures.belongs
