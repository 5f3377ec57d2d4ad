use Rattle.std.proofs.Common.{◌∙◌, sym}
use Rattle.cal_types.proofs.PlainMonthLemmas.{plain-place}
use Rattle.cal_julian.specs.IndianList.{indian_list}
use Rattle.cal_julian.specs.laws.IndianLaws.{indian_list-plain, month_length-indian}
use Rattle.cal_julian.proofs.indian.IndianYearShapes.days_in_provided_month.Goals as goal

pub days_in_month_of-requires-clause-month : goal.days_in_month_of-requires-clause-month
days_in_month_of-requires-clause-month c = plain-place 12 indian_list indian_list-plain c.args.year.number c.args.month c.requires.place

pub returns : goal.returns
returns c = c.days_in_month_of.ensures ∙ sym (month_length-indian c.args.year.number c.args.month)
