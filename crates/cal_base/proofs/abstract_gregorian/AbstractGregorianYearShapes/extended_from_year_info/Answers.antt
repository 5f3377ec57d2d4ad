use Rattle.std.proofs.Common.{arith}
use Rattle.cal_days.proofs.Signed.{signed}
use Rattle.cal_base.proofs.abstract_gregorian.AbstractGregorianYearShapes.extended_from_year_info.Goals as goal

pub overflow_sub-result : goal.overflow_sub-result
overflow_sub-result g c =
    let small = g.met.Y.GregorianYears.offset_bound c.args.self.now.0 in
    omega (arith, signed, c.requires.range, c.year_offset.ensures, small)

pub returns : goal.returns
returns g c =
    let small = g.met.Y.GregorianYears.offset_bound c.args.self.now.0 in
    omega (arith, signed, c.requires.range, c.year_offset.ensures, small)
