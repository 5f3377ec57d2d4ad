use Rattle.std.proofs.Common.{◌∙◌, sym}
use Rattle.cal_types.specs.CalendarList.{date}
use Rattle.cal_coptic.specs.CopticList.{coptic_list}
use Rattle.cal_types.proofs.CountedDateLemmas.{date-counted, day_number-counted}
use Rattle.cal_coptic.specs.EthiopianList.{coptic_offset}
use Rattle.cal_coptic.specs.laws.EthiopianLaws.{given-coptic}
use Rattle.cal_coptic.proofs.ethiopian.EthiopianYearShapes.to_rata_die_inner.Goals as goal

pub day_number-requires-clause-year : goal.day_number-requires-clause-year
day_number-requires-clause-year c = given-coptic c.args.self.now.era_style c.args.year c.requires.year

pub day_number-requires-clause-date : goal.day_number-requires-clause-date
day_number-requires-clause-date c =
    date-counted (coptic_offset c.args.self.now.era_style) coptic_list (date c.args.year.number c.args.month c.args.day) c.requires.date

pub returns : goal.returns
returns c =
    c.day_number.ensures
    ∙ sym (day_number-counted (coptic_offset c.args.self.now.era_style) coptic_list (date c.args.year.number c.args.month c.args.day))
