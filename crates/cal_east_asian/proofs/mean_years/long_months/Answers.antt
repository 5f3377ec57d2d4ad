use Rattle.std.proofs.Common.{◌-◌, arith}
use Rattle.cal_east_asian.specs.EastAsianYear.{months_of_year}
use Rattle.cal_east_asian.proofs.PlaceLemmas.{months-least, before-is, one_more}
use Rattle.cal_east_asian.proofs.mean_years.long_months.Goals as goal

pub months-preserved : goal.months-preserved
months-preserved c =
    let k = c.months.month in
    let time = c.args.time in
    let n = months_of_year c.args.place - k in
    let within = c.months.invariant.within in
    let some = c.months-test.true in
    let call = c.month_before-before in
    let start = before-is time (k - 1) k call.result.0 c.months.start (omega (arith, some)) c.months.invariant.start call.ensures.time call.ensures.next in
    let bits = one_more time (k - 1) k n (months_of_year c.args.place - (k - 1)) c.months.bits call.result.1 call.result.0 (omega (arith, some)) (omega (arith, some, within, months-least c.args.place)) within c.months.invariant.fits c.months.invariant.exact start call.ensures.bit call.ensures.small in
    record {
      within = omega (arith, within);
      start = start;
      fits = bits.0;
      exact = bits.1;
    }
