use Rattle.std.proofs.Common.{◌≡◌, pos, ◌*ℤ◌, to_z, of_z, w32, unsigned_abs, arith}
use Rattle.cal_days.proofs.Signed.{signed}
use Rattle.cal_types.proofs.PlainMonthLemmas.{total-plain}
use Rattle.cal_hijri.specs.HijriList.{hijri_list}
use Rattle.cal_hijri.specs.laws.HijriShapes.{hijri_list-plain}
use Rattle.cal_hijri.proofs.hijri.HijriYearShapes.min_months_from.Goals as goal

pub returns-clause-least : goal.returns-clause-least
returns-clause-least g c y first last =
    let twelve : to_z w32 (of_z w32 (pos 12 *ℤ to_z w32 (of_z w32 c.args.count))) ≡ pos 12 *ℤ c.args.count = omega (arith, signed, c.requires.count) in
    rw (twelve, total-plain 12 (hijri_list (g.R.Rules.year_of c.args.self.now.0)) (hijri_list-plain (g.R.Rules.year_of c.args.self.now.0)) y (unsigned_abs c.args.count)) (omega (arith, signed))
