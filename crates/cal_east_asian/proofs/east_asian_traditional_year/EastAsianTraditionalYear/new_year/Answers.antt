use Rattle.std.proofs.Common.{arith}
use Rattle.cal_days.proofs.GregorianLemmas.{gregorian_start-bounds}
use Rattle.cal_days.proofs.Signed.{signed}
use Rattle.cal_east_asian.proofs.east_asian_traditional_year.EastAsianTraditionalYear.new_year.Goals as goal

pub new-requires : goal.new-requires
new-requires c =
    let valid = c.args.self.valid in
    let rule = valid.0 in
    let near = valid.1.0 in
    let first = gregorian_start-bounds c.args.self.related_iso in
    (omega (arith, signed, rule, near, first), omega (arith, signed, rule, near, first))
