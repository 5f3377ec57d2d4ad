use Rattle.std.proofs.Common.{◌∙◌, sym}
use Rattle.cal_days.specs.Julian.{julian_leap}
use Rattle.cal_types.proofs.PlainMonthLemmas.{plain-place}
use Rattle.cal_base.specs.laws.GregorianMonths.{month_length-gregorian}
use Rattle.cal_julian.specs.JulianList.{julian_list}
use Rattle.cal_julian.specs.laws.JulianLaws.{julian_list-months, julian_list-plain}
use Rattle.cal_julian.proofs.julian.JulianYearShapes.days_in_provided_month.Goals as goal

pub days_in_month_of-requires-clause-month : goal.days_in_month_of-requires-clause-month
days_in_month_of-requires-clause-month c = plain-place 12 julian_list julian_list-plain c.args.year.number c.args.month c.requires.place

pub returns : goal.returns
returns c = c.days_in_month_of.ensures ∙ sym (month_length-gregorian julian_leap julian_list julian_list-months c.args.year.number c.args.month)
