use Rattle.cal_types.proofs.PlainMonthLemmas.{plain-place}
use Rattle.cal_coptic.specs.CopticList.{coptic_list}
use Rattle.cal_coptic.specs.laws.CopticLaws.{coptic_list-plain}
use Rattle.cal_coptic.proofs.coptic.CopticYearShapes.days_in_provided_month.Goals as goal

pub days_in_month-requires : goal.days_in_month-requires
days_in_month-requires c = plain-place 13 coptic_list coptic_list-plain c.args.year.number c.args.month c.requires.place
