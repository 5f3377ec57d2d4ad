use Rattle.cal_base.specs.laws.OffsetSystemLaws.{kept-belongs}
use Rattle.cal_base.proofs.abstract_gregorian.AbstractGregorianCalendar.until_counted.Goals as goal

pub until_counted-requires-clause-from : goal.until_counted-requires-clause-from
until_counted-requires-clause-from g c =
    let s = c.args.self.now.0 in
    kept-belongs (g.Y.GregorianYears.offset s) (g.met.Y.GregorianYears.offset_bound s) c.args.date1.now.parts c.requires.first

pub until_counted-requires-clause-to : goal.until_counted-requires-clause-to
until_counted-requires-clause-to g c =
    let s = c.args.self.now.0 in
    kept-belongs (g.Y.GregorianYears.offset s) (g.met.Y.GregorianYears.offset_bound s) c.args.date2.now.parts c.requires.second
