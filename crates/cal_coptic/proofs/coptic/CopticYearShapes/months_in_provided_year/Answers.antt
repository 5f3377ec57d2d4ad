use Rattle.std.proofs.Common.{sym}
use Rattle.cal_coptic.specs.laws.CopticLaws.{coptic_list-plain}
use Rattle.cal_coptic.proofs.coptic.CopticYearShapes.months_in_provided_year.Goals as goal

pub returns : goal.returns
returns c = sym (coptic_list-plain.count c.args._year.number)
