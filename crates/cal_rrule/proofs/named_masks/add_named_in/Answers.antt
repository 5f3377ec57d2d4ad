use Rattle.std.proofs.Common.{sym, ◌∙◌}
use Rattle.cal_rule.specs.Sets.{has_place}
use Rattle.cal_rrule.specs.NamedDays.{stretch}
use Rattle.cal_rrule.specs.Stretches.{NamesDay}
use Rattle.cal_rrule.proofs.MaskLemmas.{adds-if, adds-if_not}
use Rattle.cal_rrule.proofs.named_masks.add_named_in.Goals as goal

pub returns-then-contains : goal.returns-then-contains
returns-then-contains g c =
    let s = stretch c.args.first c.args.length in
    adds-if c.args.days.now c.add_named.new.days (has_place c.args.set.now c.args.place) (NamesDay c.args.skip s c.args.place)
    (sym c.contains.ensures ∙ c.if-contains.true) c.add_named.ensures

pub returns-else-contains : goal.returns-else-contains
returns-else-contains g c =
    let s = stretch c.args.first c.args.length in
    adds-if_not c.args.days.now (has_place c.args.set.now c.args.place) (NamesDay c.args.skip s c.args.place)
    (sym c.contains.ensures ∙ c.if-contains.false)
