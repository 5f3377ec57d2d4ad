use Rattle.std.proofs.Common.{arith}
use Rattle.cal_rrule.proofs.YearWeekLemmas.{until, until-few}
use Rattle.cal_rrule.proofs.year_weeks.weeks_until.Goals as goal

pub returns-clause-exact : goal.returns-clause-exact
returns-clause-exact c = λ i. until c.args.first c.args.end c.days_ahead.result i c.days_ahead.ensures.behind c.days_ahead.ensures.before

pub returns-clause-few : goal.returns-clause-few
returns-clause-few c =
    let few = until-few c.args.first c.args.end c.days_ahead.result c.days_ahead.ensures.behind c.days_ahead.ensures.before c.requires.few in
    omega (arith, few)
