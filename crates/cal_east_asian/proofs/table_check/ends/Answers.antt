use Rattle.std.proofs.Common.{◌∙◌, ap, arith}
use Rattle.cal_days.proofs.Signed.{signed}
use Rattle.cal_types.specs.laws.YearArguments.{IsAsked, year_after}
use Rattle.cal_east_asian.specs.laws.ComputedLaws.{computed_year}
use Rattle.cal_east_asian.specs.TableAccepted.{follows}
use Rattle.cal_east_asian.proofs.table_check.ends.Goals as goal

pub returns : goal.returns
returns c =
    let near : IsAsked c.args.row.related_iso = (omega (arith, signed, c.requires), omega (arith, signed, c.requires)) in
    c.follows.ensures ∙ ap (follows c.args.row) (c.computed_year.ensures.exact ∙ year_after (computed_year c.args.side) c.args.row.related_iso 1 near (omega arith))
