use Rattle.cal_base.specs.laws.OffsetSystemLaws.{kept-belongs}
use Rattle.cal_base.proofs.abstract_gregorian.AbstractGregorianCalendar.day_of_year.Goals as goal

pub day_of_year-requires : goal.day_of_year-requires
day_of_year-requires g c =
    let s = c.args.self.now.0 in
    kept-belongs (g.Y.GregorianYears.offset s) (g.met.Y.GregorianYears.offset_bound s) c.args.date.now.parts c.requires
