use Rattle.cal_types.specs.CalendarList.{date}
use Rattle.cal_coptic.specs.CopticList.{coptic_list}
use Rattle.cal_types.proofs.CountedDateLemmas.{counted-on}
use Rattle.cal_coptic.specs.EthiopianList.{coptic_offset}
use Rattle.cal_coptic.proofs.ethiopian.EthiopianYears.year_month_day.Goals as goal

pub returns-clause-on : goal.returns-clause-on
returns-clause-on c =
    let found = c.coptic_date.result in
    counted-on (coptic_offset c.args.self.now.era_style) coptic_list c.args.rd (date found.0.number found.1 found.2) c.coptic_date.ensures.on
