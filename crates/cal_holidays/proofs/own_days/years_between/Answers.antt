use Rattle.std.proofs.Common.{◌≡◌, rules, sym, subst, arith, FitsSigned, to_z, of_z, w32, w64}
use Rattle.cal_days.specs.Day.{IsFieldYear}
use Rattle.cal_days.proofs.Signed.{signed}
use Rattle.cal_types.specs.DayDates.{date_on}
use Rattle.cal_types.proofs.DayDateLemmas.{date_on-on}
use Rattle.cal_holidays.proofs.OwnDayLemmas.{years_order}
use Rattle.cal_holidays.proofs.own_days.years_between.Goals as goal

pub returns : goal.returns
returns g c =
    let s = c.args.calendar.now in
    let list = (g.C.Calendar.system s).list in
    let law = g.met.C.Calendar.lawful s in
    let fits_from : FitsSigned w64 c.args.from = search rules in
    let from : to_z w64 (of_z w64 c.args.from) ≡ c.args.from = omega (arith, signed) in
    let fits_to : FitsSigned w64 c.args.to = search rules in
    let to : to_z w64 (of_z w64 c.args.to) ≡ c.args.to = omega (arith, signed) in
    let first = c.first_valid.result in
    let last = c.last_valid.result in
    let low : to_z w32 (of_z w32 c.year_on.result) ≡ c.year_on.result = omega (arith, signed, c.year_on.ensures.range) in
    let high : to_z w32 (of_z w32 c.year_on-2.result) ≡ c.year_on-2.result = omega (arith, signed, c.year_on-2.ensures.range) in
    record {
      low = subst IsFieldYear (sym low) c.year_on.ensures.range;
      high = subst IsFieldYear (sym high) c.year_on-2.ensures.range;
      within = λ y n is valid between.
          let begin = c.first_valid.ensures.first n valid (omega (arith, signed, from, between.0)) in
          let end = c.last_valid.ensures.last n valid (omega (arith, signed, to, between.1)) in
          let on = date_on-on list law first in
          let there = date_on-on list law last in
          let a = years_order list law first n (date_on list first) is.0 on is.1 begin in
          let b = years_order list law n last is.0 (date_on list last) is.1 there end in
          let p = c.year_on.ensures.year (date_on list first) on in
          let q = c.year_on-2.ensures.year (date_on list last) there in
          (omega (arith, signed, low, a, p, is.2), omega (arith, signed, high, b, q, is.2));
    }
