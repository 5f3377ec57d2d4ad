use Rattle.std.proofs.Common.{◌≡◌, ◌∙◌, arith}
use Rattle.cal_days.proofs.Signed.{signed}
use Rattle.cal_rrule.proofs.YearLookLemmas.{year-marks}
use Rattle.cal_rrule.proofs.year_months.weekdays_of_year.Goals as goal

pub returns-clause-days : goal.returns-clause-days
returns-clause-days c = λ list is counts.
    let look = c.args.look.now in
    let first : c.new.result ≡ look.first = omega (arith, signed) in
    year-marks list c.args.asked.now.rule look c.new-days.result c.add_weekdays_of_year.new.days is counts look.short
    (c.new-days.ensures.first ∙ first) c.new-days.ensures.none c.add_weekdays_of_year.ensures

pub returns-clause-first : goal.returns-clause-first
returns-clause-first c =
    let first : c.new.result ≡ c.args.look.now.first = omega (arith, signed) in
    c.add_weekdays_of_year.ensures.first ∙ c.new-days.ensures.first ∙ first
