use Rattle.cal_base.proofs.OffsetAnswers.{ok-belongs}
use Rattle.cal_base.proofs.abstract_gregorian.AbstractGregorianCalendar.new_date.Goals as goal

pub returns-clause-belongs : goal.returns-clause-belongs
returns-clause-belongs g c = ok-belongs (g.Y.GregorianYears.offset c.args.self.now.0) c.from_input_year_month_code_day.result c.from_input_year_month_code_day.ensures.belongs
