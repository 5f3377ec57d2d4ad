use Rattle.cal_base.specs.laws.OffsetSystemLaws.{kept-belongs}
use Rattle.cal_base.proofs.OffsetAnswers.{ok-belongs}
use Rattle.std.proofs.Common.{arith}
use Rattle.cal_days.proofs.Signed.{signed}
use Rattle.cal_base.proofs.OwnAnswers.{field_argument}
use Rattle.cal_base.proofs.abstract_gregorian.AbstractGregorianCalendar.add.Goals as goal

pub added_shifted-requires-clause-shift : goal.added_shifted-requires-clause-shift
added_shifted-requires-clause-shift g c =
    let small = g.met.Y.GregorianYears.offset_bound c.args.self.now.0 in
    field_argument c.year_offset.result (g.Y.GregorianYears.offset c.args.self.now.0) c.year_offset.ensures (omega (arith, signed, small), omega (arith, signed, small))

pub added_shifted-requires-clause-date : goal.added_shifted-requires-clause-date
added_shifted-requires-clause-date g c =
    let s = c.args.self.now.0 in
    kept-belongs (g.Y.GregorianYears.offset s) (g.met.Y.GregorianYears.offset_bound s) c.args.date.now.parts c.requires

pub returns-clause-belongs : goal.returns-clause-belongs
returns-clause-belongs g c = ok-belongs (g.Y.GregorianYears.offset c.args.self.now.0) c.added_shifted.result c.added_shifted.ensures.belongs
