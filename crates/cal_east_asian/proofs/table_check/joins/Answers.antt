use Rattle.std.proofs.Common.{◌∙◌, ap, arith}
use Rattle.cal_days.proofs.Signed.{signed}
use Rattle.cal_types.specs.laws.YearArguments.{IsAsked, year_before}
use Rattle.cal_east_asian.specs.laws.ComputedLaws.{computed_year}
use Rattle.cal_east_asian.specs.TableAccepted.{follows}
use Rattle.cal_east_asian.specs.declared.east_asian_traditional_year.EastAsianTraditionalYear.{EastAsianTraditionalYear}
use Rattle.cal_east_asian.proofs.table_check.joins.Goals as goal

pub returns-in-None : goal.returns-in-None
returns-in-None c =
    let near : IsAsked c.args.row.related_iso = (omega (arith, signed, c.requires), omega (arith, signed, c.requires)) in
    rw c.in-None.is (c.follows.ensures ∙ ap (λ (b : EastAsianTraditionalYear). follows b c.args.row) (c.computed_year.ensures.exact ∙ year_before (computed_year c.args.side) c.args.row.related_iso 1 near (omega arith)))
