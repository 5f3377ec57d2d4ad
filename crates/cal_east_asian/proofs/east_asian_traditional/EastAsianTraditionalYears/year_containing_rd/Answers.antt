use Rattle.std.proofs.Common.{◌≡◌, ◌∙◌, ◌+ℤ◌, ◌≤ℤ◌, ◌<ℤ◌, ℤ, ℕ, pos, ap, sym, subst, arith}
use Rattle.std.specs.Prelude.{sum_by}
use Rattle.cal_days.proofs.Signed.{signed}
use Rattle.cal_arith.specs.Given.{IsGiven}
use Rattle.cal_types.specs.CalendarList.{days_of, start_of_year, year_length}
use Rattle.cal_east_asian.specs.EastAsianList.{east_asian_list, east_asian_years, entries_of}
use Rattle.cal_east_asian.specs.laws.EastAsianStartLaws.{length-rule}
use Rattle.cal_east_asian.specs.laws.EastAsianGivenLaws.{start-given}
use Rattle.cal_east_asian.specs.declared.east_asian_traditional_year.EastAsianTraditionalYear.{EastAsianTraditionalYear}
use Rattle.cal_east_asian.proofs.east_asian_traditional.EastAsianTraditionalYears.year_containing_rd.Given.{Over}
use Rattle.cal_east_asian.proofs.east_asian_traditional.EastAsianTraditionalYears.year_containing_rd.Goals as goal

given : (g : Over) (c : goal.After-year_containing_rd g) → IsGiven (east_asian_years (g.R.Rules.year_of c.args.self.now.0)) c.year_containing_rd.result
given g c =
    let range = c.year_containing_rd.ensures.range in
    record { same = sym c.year_containing_rd.ensures.given; range = (omega (arith, signed, range), omega (arith, signed, range)) }

start : (g : Over) (c : goal.After-year_containing_rd g) → start_of_year (east_asian_list (g.R.Rules.year_of c.args.self.now.0)) c.year_containing_rd.result.related_iso ≡ c.year_containing_rd.result.new_year
start g c = start-given (g.R.Rules.year_of c.args.self.now.0) c.year_containing_rd.result (given g c) (g.met.R.Rules.lawful c.args.self.now.0)

pub returns-clause-first : goal.returns-clause-first
returns-clause-first g c = subst (λ (x : ℤ). x ≤ℤ c.args.rd) (sym (start g c)) c.year_containing_rd.ensures.first

pub returns-clause-last : goal.returns-clause-last
returns-clause-last g c =
    let year_of = g.R.Rules.year_of c.args.self.now.0 in
    let year = c.year_containing_rd.result in
    let days : year_length (east_asian_list year_of) year.related_iso ≡ sum_by days_of (entries_of year) =
    length-rule year_of (g.met.R.Rules.lawful c.args.self.now.0) year.related_iso (given g c).range ∙ ap (λ (y : EastAsianTraditionalYear). sum_by days_of (entries_of y)) (given g c).same in
    let low : c.args.rd <ℤ (start_of_year (east_asian_list year_of) year.related_iso +ℤ pos (sum_by days_of (entries_of year))) = subst (λ (x : ℤ). c.args.rd <ℤ (x +ℤ pos (sum_by days_of (entries_of year)))) (sym (start g c)) c.year_containing_rd.ensures.last in
    subst (λ (n : ℕ). c.args.rd <ℤ (start_of_year (east_asian_list year_of) year.related_iso +ℤ pos n)) (sym days) low
