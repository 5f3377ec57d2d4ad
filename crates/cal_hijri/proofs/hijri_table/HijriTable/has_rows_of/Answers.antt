use Rattle.std.proofs.Common.{◌∙◌}
use Rattle.cal_hijri.specs.laws.HijriRowLaws.{pointwise-years}
use Rattle.cal_hijri.proofs.hijri_table.HijriTable.has_rows_of.Goals as goal

pub returns : goal.returns
returns c = c.are_same_rows.ensures ∙ pointwise-years c.args.self.now.rows.now c.args.other.now.rows.now
