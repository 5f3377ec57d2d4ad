use Rattle.cal_base.specs.laws.OffsetSystemLaws.{kept-belongs}
use Rattle.cal_base.proofs.abstract_gregorian.AbstractGregorianCalendar.to_rata_die.Goals as goal

pub to_rata_die-requires : goal.to_rata_die-requires
to_rata_die-requires g c =
    let s = c.args.self.now.0 in
    kept-belongs (g.Y.GregorianYears.offset s) (g.met.Y.GregorianYears.offset_bound s) c.args.date.now.parts c.requires
