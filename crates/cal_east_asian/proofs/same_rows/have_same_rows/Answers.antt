use Rattle.std.proofs.Common.{◌∙◌}
use Rattle.cal_east_asian.specs.laws.EastAsianRowLaws.{pointwise-years}
use Rattle.cal_east_asian.proofs.same_rows.have_same_rows.Goals as goal

pub returns : goal.returns
returns c = c.are_same_rows.ensures ∙ pointwise-years c.args.one.now c.args.other.now
