use Rattle.cal_rrule.specs.NamedDays.{stretch}
use Rattle.cal_rrule.specs.Stretches.{NamesDay}
use Rattle.cal_rrule.proofs.MaskLemmas.{adds-none, adds-only}
use Rattle.cal_rrule.proofs.named_masks.add_named.Goals as goal

pub returns-in-Some : goal.returns-in-Some
returns-in-Some c =
    let s = stretch c.args.first c.args.length in
    adds-only c.args.days.now c.insert_day.new.self c.in-Some.day (NamesDay c.args.skip s c.args.place)
    c.in-Some.ensures c.insert_day.ensures.first c.insert_day.ensures.days

pub returns-in-None : goal.returns-in-None
returns-in-None c =
    let s = stretch c.args.first c.args.length in
    adds-none c.args.days.now (NamesDay c.args.skip s c.args.place) c.in-None.ensures
