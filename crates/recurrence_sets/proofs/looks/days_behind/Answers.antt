use Rattle.std.proofs.Common.{◌+◌, subst}
use Rattle.recurrence_sets.specs.Listing.{IsLook}
use Rattle.recurrence_sets.proofs.LookLemmas.{look-none, look-of}
use Rattle.recurrence_sets.proofs.looks.days_behind.Goals as goal

pub returns-in-None-clause-look : goal.returns-in-None-clause-look
returns-in-None-clause-look g c =
    let Has = g.S.Periods.has c.args.periods.now in
    look-none Has c.args.period c.args.last (subst (IsLook Has c.args.last c.args.period) c.in-None.is c.requires.seen)

pub returns-in-Some-clause-look : goal.returns-in-Some-clause-look
returns-in-Some-clause-look g c =
    look-of (g.S.Periods.has c.args.periods.now) (c.args.period + 1) c.args.last c.days_counted.result c.days_counted.ensures.days c.days_counted.ensures.few
