use Rattle.std.proofs.Common.{sym, ap, ◌∙◌}
use Rattle.cal_rule.specs.Sets.{has_bit}
use Rattle.recurrence_sets.specs.Numbers.{count_below}
use Rattle.recurrence_sets.proofs.NumberLemmas.{count-zero}
use Rattle.recurrence_sets.proofs.WordLemmas.{ones-masked}
use Rattle.recurrence_sets.proofs.day_bits.bits_below.Goals as goal

pub returns-then-to-eq0-clause-count : goal.returns-then-to-eq0-clause-count
returns-then-to-eq0-clause-count c = sym (ap (count_below (has_bit c.args.word)) c.if-to-eq0.true ∙ count-zero (has_bit c.args.word))

pub returns-clause-count : goal.returns-clause-count
returns-clause-count c = ones-masked c.args.word c.args.to c.requires
