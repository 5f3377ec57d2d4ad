use Rattle.cal_hijri.specs.laws.RowNameLaws.{row-once}
use Rattle.cal_hijri.proofs.laws.a_year_has_one_row.Goals as goal

pub returns : goal.returns
returns c = row-once
