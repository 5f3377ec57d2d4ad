use Rattle.std.proofs.Common.{◌∙◌, ap}
use Rattle.cal_rule.specs.Sets.{has_place}
use Rattle.cal_rule.specs.declared.place_set.Place.TheVariants.{FromFront, FromBack}
use Rattle.cal_rrule.proofs.DayBlockLemmas.{single}
use Rattle.cal_rrule.proofs.day_blocks.keeps_single.Goals as goal

pub returns : goal.returns
returns c =
    single c.args.asked.now.rule c.args.asked.now.missing.positions c.contains-front.result c.contains-back.result
    c.requires.no_positions
    (c.contains-front.ensures ∙ ap (λ set. has_place set (FromFront 1)) c.positions-positions.ensures)
    (c.contains-back.ensures ∙ ap (λ set. has_place set (FromBack 1)) c.positions-positions.ensures)
