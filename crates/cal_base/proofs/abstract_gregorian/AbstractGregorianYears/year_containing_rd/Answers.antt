use Rattle.std.proofs.Common.{◌≡◌, ap, to_z, of_z, w32, arith}
use Rattle.cal_days.specs.Gregorian.{gregorian_start, gregorian_year_length}
use Rattle.cal_days.proofs.Signed.{signed}
use Rattle.cal_days.proofs.GregorianLemmas.{gregorian_start-next}
use Rattle.cal_base.proofs.OffsetYears.{start_of_year-offset, year_days-offset}
use Rattle.cal_base.proofs.OffsetAnswers.{field_kept, given_kept}
use Rattle.cal_base.proofs.abstract_gregorian.AbstractGregorianYears.year_containing_rd.Goals as goal

pub returns-clause-range : goal.returns-clause-range
returns-clause-range g c =
    let range = c.year_from_fixed.ensures.range in
    field_kept c.year_from_fixed.result (g.Y.GregorianYears.offset c.args.self.now.0) (omega (arith, signed, range), omega (arith, signed, range)) (g.met.Y.GregorianYears.offset_bound c.args.self.now.0)

pub returns-clause-year : goal.returns-clause-year
returns-clause-year g c =
    let range = c.year_from_fixed.ensures.range in
    given_kept c.year_from_fixed.result (g.Y.GregorianYears.offset c.args.self.now.0) (omega (arith, signed, range), omega (arith, signed, range)) (g.met.Y.GregorianYears.offset_bound c.args.self.now.0)

pub returns-clause-first : goal.returns-clause-first
returns-clause-first g c =
    let offset = g.Y.GregorianYears.offset c.args.self.now.0 in
    let number = c.year_from_fixed.result in
    let same : to_z w32 (of_z w32 number) ≡ number = omega (arith, signed) in
    omega (arith, signed, start_of_year-offset offset (record { number = to_z w32 (of_z w32 number) }), ap gregorian_start same, c.year_from_fixed.ensures.first)

pub returns-clause-last : goal.returns-clause-last
returns-clause-last g c =
    let offset = g.Y.GregorianYears.offset c.args.self.now.0 in
    let number = c.year_from_fixed.result in
    let same : to_z w32 (of_z w32 number) ≡ number = omega (arith, signed) in
    omega (arith, signed, start_of_year-offset offset (record { number = to_z w32 (of_z w32 number) }), ap gregorian_start same, year_days-offset offset (record { number = to_z w32 (of_z w32 number) }), ap gregorian_year_length same, gregorian_start-next number, c.year_from_fixed.ensures.last)
