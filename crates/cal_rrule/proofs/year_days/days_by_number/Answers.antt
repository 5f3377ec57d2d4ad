use Rattle.std.proofs.Common.{◌≡◌, ◌∙◌, arith}
use Rattle.cal_days.proofs.Signed.{signed}
use Rattle.cal_rrule.proofs.YearDayLemmas.{number-marks}
use Rattle.cal_rrule.proofs.year_days.days_by_number.Goals as goal

pub returns-clause-days : goal.returns-clause-days
returns-clause-days c = λ list is.
    let a = c.args.asked.now in
    let span = c.args.span.now in
    let look = c.args.year.now in
    let from : c.new.result ≡ span.from = omega (arith, signed) in
    let first : c.new-2.result ≡ look.first = omega (arith, signed) in
    let adds = rw (c.year_days.ensures, c.skip.ensures, first) at c.add_year_days.ensures in
    number-marks list a.rule look c.new-days.result c.add_year_days.new.days span.from span.to is
    (c.new-days.ensures.first ∙ from) c.new-days.ensures.none adds span.few

pub returns-clause-first : goal.returns-clause-first
returns-clause-first c =
    let from : c.new.result ≡ c.args.span.now.from = omega (arith, signed) in
    c.add_year_days.ensures.first ∙ c.new-days.ensures.first ∙ from
