use Rattle.cal_rrule.proofs.IntervalLemmas.{steps-few, steps-least, steps-reach}
use Rattle.cal_rrule.proofs.intervals.steps_to.Goals as goal

pub returns-clause-reached : goal.returns-clause-reached
returns-clause-reached c =
    rw c.rounded_up.ensures
    (steps-reach c.args.from c.args.start c.days_ahead.result c.args.every c.requires.every c.days_ahead.ensures.behind)

pub returns-clause-least : goal.returns-clause-least
returns-clause-least c =
    rw c.rounded_up.ensures (λ j low.
    steps-least c.args.from c.args.start c.days_ahead.result c.args.every j c.requires.every c.days_ahead.ensures.behind c.days_ahead.ensures.before low)

pub returns-clause-few : goal.returns-clause-few
returns-clause-few c =
    rw c.rounded_up.ensures (steps-few c.days_ahead.result c.args.every c.requires.every c.days_ahead.ensures.few c.ranges.every.fits)
