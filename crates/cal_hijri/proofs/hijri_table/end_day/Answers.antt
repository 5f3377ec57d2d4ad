use Rattle.std.proofs.Common.{◌≡◌, FitsSigned, w32, rules, arith}
use Rattle.cal_days.proofs.IslamicLemmas.{mean_start-bounds}
use Rattle.cal_days.proofs.Signed.{signed}
use Rattle.cal_hijri.specs.HijriList.{hijri_days}
use Rattle.cal_hijri.proofs.hijri_table.end_day.Goals as goal

pub overflow_add-result : goal.overflow_add-result
overflow_add-result c =
    let fits : FitsSigned w32 c.args.year.extended_year = search rules in
    omega (arith, signed, fits, c.args.year.near, mean_start-bounds c.args.year.extended_year, c.from.ensures, c.days_before_month.ensures.most)

pub returns : goal.returns
returns c =
    let fits : FitsSigned w32 c.args.year.extended_year = search rules in
    let days : c.days_before_month.result ≡ hijri_days c.args.year = c.days_before_month.ensures.value in
    omega (arith, signed, fits, c.args.year.near, mean_start-bounds c.args.year.extended_year, c.from.ensures, c.days_before_month.ensures.most, days)
