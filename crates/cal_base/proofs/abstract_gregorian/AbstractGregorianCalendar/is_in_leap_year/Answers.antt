use Rattle.std.proofs.Common.{◌≡◌, ◌↔◌, ℤ, ◌+ℤ◌, ◌-ℤ◌, IsTrue, subst, ap, ◌∙◌, arith}
use Rattle.cal_days.specs.Gregorian.{gregorian_leap}
use Rattle.cal_days.proofs.Signed.{signed}
use Rattle.cal_base.specs.declared.numbered_year.NumberedYear.{NumberedYear}
use Rattle.cal_base.proofs.abstract_gregorian.AbstractGregorianCalendar.is_in_leap_year.Goals as goal

pub returns : goal.returns
returns g c =
    let offset = g.Y.GregorianYears.offset c.args.self.now.0 in
    let number = c.args.date.now.parts.year.number in
    let again : number ≡ number -ℤ offset +ℤ offset = omega (arith, signed) in
    let same = ap (λ (y : NumberedYear). y.number) c.year.ensures ∙ again in
    subst (λ (y : ℤ). IsTrue c.is_leap.result ↔ IsTrue (gregorian_leap y)) same c.is_leap.ensures
