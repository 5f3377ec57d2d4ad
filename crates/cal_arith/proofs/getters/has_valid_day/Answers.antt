use Rattle.std.proofs.Common.{pos, neg_ℤ, to_z, of_z, w32, sym, ◌∙◌, arith}
use Rattle.cal_days.specs.Day.{IsBetween}
use Rattle.cal_days.proofs.Signed.{signed}
use Rattle.cal_days.proofs.RangeLemmas.{is_between-true, true-is_between}
use Rattle.cal_arith.specs.Dates.{date_of}
use Rattle.cal_arith.proofs.getters.has_valid_day.Goals as goal

pub returns-then-is_covered : goal.returns-then-is_covered
returns-then-is_covered g c =
    let s = c.args.cal.now in let years = g.C.YearShapes.years s in
    let tested = is_between-true (neg_ℤ (pos 980000)) (pos 980000) (to_z w32 (of_z w32 c.extended_from_year_info.result)) (sym c.is_covered.ensures ∙ c.if-is_covered.true) in
    let near : IsBetween (neg_ℤ (pos 980000)) (pos 980000) (years.extended c.args.date.year) = (omega (arith, signed, tested, c.requires.year.range), omega (arith, signed, tested, c.requires.year.range)) in
    sym (true-is_between (neg_ℤ (pos 365242499)) (pos 365242134) _ (g.met.C.YearShapes.covered s (date_of years c.args.date) near c.requires.date))
