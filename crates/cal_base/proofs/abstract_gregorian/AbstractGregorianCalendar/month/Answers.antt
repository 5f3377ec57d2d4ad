use Rattle.cal_base.specs.laws.OffsetSystemLaws.{kept-belongs}
use Rattle.cal_base.proofs.abstract_gregorian.AbstractGregorianCalendar.month.Goals as goal

pub month_in_calendar-month-requires : goal.month_in_calendar-month-requires
month_in_calendar-month-requires g c =
    let s = c.args.self.now.0 in
    kept-belongs (g.Y.GregorianYears.offset s) (g.met.Y.GregorianYears.offset_bound s) c.args.date.now.parts c.requires
