use Rattle.std.proofs.Common.{◌≡◌, ◌&&◌, refl, sym}
use Rattle.cal_days.specs.Day.{is_field_year}
use Rattle.cal_base.specs.laws.OwnYearLaws.{not_own}
use Rattle.cal_base.proofs.arithmetic.ArithmeticCalendar.owns.Goals as goal

pub returns-else-owns_year : goal.returns-else-owns_year
returns-else-owns_year g c =
    let s = c.args.self.now.0 in let years = g.C.YearShapes.years s in
    let date = c.args.date.now.parts in
    let year : c.year.result ≡ date.year = rw (c.year.ensures, c.copy_of.ensures) refl in
    let test : c.owns_year.result ≡ (g.C.NamedYears.has_year s date.year && is_field_year (years.extended date.year)) = rw (sym year) c.owns_year.ensures in
    not_own years (g.met.C.YearShapes.ranged s) (g.C.NamedYears.has_year s) (g.met.C.NamedYears.tested s) date c.owns_year.result test c.if-owns_year.false
