use Rattle.std.proofs.Common.{◌≡◌, ◌∙◌, sym, refl, arith}
use Rattle.cal_hijri.specs.HijriMonths.{month_days}
use Rattle.cal_hijri.specs.laws.HijriMonthLaws.{prior_days-next}
use Rattle.cal_hijri.proofs.hijri_year.days_before_month.Goals as goal

pub months-init : goal.months-init
months-init c = record { first = omega arith; last = c.requires.0; days = refl; most = omega arith }

pub months-preserved : goal.months-preserved
months-preserved c =
    let long = c.args.long_months in
    let place = c.months.place in
    let next = prior_days-next long place c.months.invariant.first (omega (arith, c.months-test.true, c.requires.1)) in
    let added : c.from-days.result ≡ month_days long place = c.from-days.ensures ∙ c.days_in_month.ensures.value in
    let few = c.days_in_month.ensures.most in
    record {
      first = omega arith;
      last = omega (arith, c.months-test.true);
      days = rw (c.months.invariant.days, added) (sym next);
      most = omega (arith, c.months.invariant.most, c.months.invariant.first, c.from-days.ensures, few);
    }
