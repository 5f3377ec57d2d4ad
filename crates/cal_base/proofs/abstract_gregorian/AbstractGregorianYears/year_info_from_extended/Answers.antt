use Rattle.std.proofs.Common.{ap, arith}
use Rattle.cal_days.proofs.Signed.{signed}
use Rattle.cal_base.proofs.OffsetAnswers.{kept_number}
use Rattle.cal_base.proofs.abstract_gregorian.AbstractGregorianYears.year_info_from_extended.Goals as goal

pub overflow_add-result : goal.overflow_add-result
overflow_add-result g c =
    let small = g.met.Y.GregorianYears.offset_bound c.args.self.now.0 in
    omega (arith, signed, c.requires, c.year_offset.ensures, small)

pub returns : goal.returns
returns g c =
    let small = g.met.Y.GregorianYears.offset_bound c.args.self.now.0 in
    ap kept_number (omega (arith, signed, c.requires, c.year_offset.ensures, small))
