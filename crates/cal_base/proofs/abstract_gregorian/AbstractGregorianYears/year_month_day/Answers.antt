use Rattle.std.proofs.Common.{◌≡◌, ℤ, subst, to_z, of_z, w32, arith}
use Rattle.cal_days.proofs.Signed.{signed}
use Rattle.cal_types.specs.CalendarList.{date, IsOn}
use Rattle.cal_base.specs.GregorianList.{gregorian_list}
use Rattle.cal_base.proofs.OffsetYears.{on-offset}
use Rattle.cal_base.proofs.OffsetAnswers.{given_kept}
use Rattle.cal_base.proofs.abstract_gregorian.AbstractGregorianYears.year_month_day.Goals as goal

pub returns-clause-year : goal.returns-clause-year
returns-clause-year g c =
    given_kept c.iso_date-number.result.0 (g.Y.GregorianYears.offset c.args.self.now.0) c.iso_date-number.ensures.year (g.met.Y.GregorianYears.offset_bound c.args.self.now.0)

pub returns-clause-on : goal.returns-clause-on
returns-clause-on g c =
    let found = c.iso_date-number.result in
    let same : found.0 ≡ to_z w32 (of_z w32 found.0) = omega (arith, signed, c.iso_date-number.ensures.year) in
    let on = subst (λ (y : ℤ). IsOn gregorian_list c.args.rd (date y found.1 found.2)) same c.iso_date-number.ensures.on in
    on-offset (g.Y.GregorianYears.offset c.args.self.now.0) (record { number = to_z w32 (of_z w32 found.0) }) c.args.rd found.1 found.2 on
