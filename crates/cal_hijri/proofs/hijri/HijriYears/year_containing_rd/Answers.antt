use Rattle.std.proofs.Common.{◌≡◌, ◌+ℤ◌, ◌≤ℤ◌, ◌<ℤ◌, ℤ, ℕ, pos, sym, subst, arith}
use Rattle.cal_days.proofs.Signed.{signed}
use Rattle.cal_arith.specs.Given.{IsGiven}
use Rattle.cal_types.specs.CalendarList.{start_of_year}
use Rattle.cal_hijri.specs.HijriList.{hijri_list, hijri_years, hijri_days}
use Rattle.cal_hijri.specs.laws.GivenYears.{start-given, length-given}
use Rattle.cal_hijri.proofs.hijri.HijriYears.year_containing_rd.Given.{Over}
use Rattle.cal_hijri.proofs.hijri.HijriYears.year_containing_rd.Goals as goal

given : (g : Over) (c : goal.After-year_containing_rd g) → IsGiven (hijri_years (g.R.Rules.year_of c.args.self.now.0)) c.year_containing_rd.result
given g c =
    let range = c.year_containing_rd.ensures.range in
    record { same = sym c.year_containing_rd.ensures.given; range = (omega (arith, signed, range), omega (arith, signed, range)) }

start : (g : Over) (c : goal.After-year_containing_rd g) → start_of_year (hijri_list (g.R.Rules.year_of c.args.self.now.0)) c.year_containing_rd.result.extended_year ≡ c.year_containing_rd.result.first_day
start g c = start-given (g.R.Rules.year_of c.args.self.now.0) (g.met.R.Rules.joins c.args.self.now.0) c.year_containing_rd.result (given g c)

pub returns-clause-first : goal.returns-clause-first
returns-clause-first g c = subst (λ (x : ℤ). x ≤ℤ c.args.rd) (sym (start g c)) c.year_containing_rd.ensures.first

pub returns-clause-last : goal.returns-clause-last
returns-clause-last g c =
    let year_of = g.R.Rules.year_of c.args.self.now.0 in
    let year = c.year_containing_rd.result in
    let days = length-given year_of year (given g c) in
    let low : c.args.rd <ℤ (start_of_year (hijri_list year_of) year.extended_year +ℤ pos (hijri_days year)) = subst (λ (x : ℤ). c.args.rd <ℤ (x +ℤ pos (hijri_days year))) (sym (start g c)) c.year_containing_rd.ensures.last in
    subst (λ (n : ℕ). c.args.rd <ℤ (start_of_year (hijri_list year_of) year.extended_year +ℤ pos n)) (sym days) low
