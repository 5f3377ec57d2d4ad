use Rattle.std.proofs.Common.{arith}
use Rattle.cal_rrule.proofs.named_masks.add_month_days.Goals as goal

pub add_named_below-requires : goal.add_named_below-requires
add_named_below-requires c =
    (omega arith, (c.requires, λ d has. omega (arith, c.words-words.ensures.bound d has, c.words-words.ensures.value)))
