use Rattle.std.proofs.Common.{◌≡◌, ap, ℤ, to_z, of_z, w32, arith}
use Rattle.cal_days.proofs.Signed.{signed}
use Rattle.cal_types.specs.CalendarList.{date, day_number}
use Rattle.cal_base.specs.GregorianList.{gregorian_list}
use Rattle.cal_base.specs.laws.OffsetListLaws.{given-iso}
use Rattle.cal_base.proofs.OffsetYears.{offset-date, day_number-offset}
use Rattle.cal_base.proofs.OffsetAnswers.{shifted_argument}
use Rattle.cal_base.proofs.abstract_gregorian.AbstractGregorianYearShapes.to_rata_die_inner.Goals as goal

pub iso_day_number-requires-clause-year : goal.iso_day_number-requires-clause-year
iso_day_number-requires-clause-year g c =
    shifted_argument c.args.year.number (given-iso (g.Y.GregorianYears.offset c.args.self.now.0) (g.met.Y.GregorianYears.offset_bound c.args.self.now.0) c.args.year c.requires.year)

pub iso_day_number-requires-clause-date : goal.iso_day_number-requires-clause-date
iso_day_number-requires-clause-date g c =
    let offset = g.Y.GregorianYears.offset c.args.self.now.0 in
    let number = c.args.year.number in
    let small = given-iso offset (g.met.Y.GregorianYears.offset_bound c.args.self.now.0) c.args.year c.requires.year in
    let same : to_z w32 (of_z w32 number) ≡ number = omega (arith, signed) in
    rw same (offset-date offset c.args.year c.args.month c.args.day c.requires.date)

pub returns : goal.returns
returns g c =
    let offset = g.Y.GregorianYears.offset c.args.self.now.0 in
    let number = c.args.year.number in
    let small = given-iso offset (g.met.Y.GregorianYears.offset_bound c.args.self.now.0) c.args.year c.requires.year in
    let same : to_z w32 (of_z w32 number) ≡ number = omega (arith, signed) in
    let here = ap (λ (y : ℤ). day_number gregorian_list (date y c.args.month c.args.day)) same in
    omega (arith, signed, here, day_number-offset offset c.args.year c.args.month c.args.day)
