use Rattle.std.proofs.Common.{FitsSigned, w32, rules, arith}
use Rattle.cal_days.proofs.IslamicLemmas.{mean_start-bounds}
use Rattle.cal_days.proofs.Signed.{signed}
use Rattle.cal_hijri.proofs.hijri_year.HijriYear.new_year.Goals as goal

pub new-requires : goal.new-requires
new-requires c =
    let fits : FitsSigned w32 c.args.self.extended_year = search rules in
    let near = c.args.self.near in
    let mean = mean_start-bounds c.args.self.extended_year in
    (omega (arith, signed, fits, near, mean), omega (arith, signed, fits, near, mean))
