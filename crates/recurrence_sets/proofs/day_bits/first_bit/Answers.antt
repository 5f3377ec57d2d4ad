use Rattle.std.proofs.Common.{refl, arith}
use Rattle.recurrence_sets.proofs.WordLemmas.{first-none, first-some}
use Rattle.recurrence_sets.proofs.day_bits.first_bit.Goals as goal

pub returns-then-rest-eq0 : goal.returns-then-rest-eq0
returns-then-rest-eq0 c = first-none c.args.word c.args.from c.requires _ refl c.if-rest-eq0.true

pub returns : goal.returns
returns c = first-some c.args.word c.args.from c.requires _ refl (omega (arith, c.if-rest-eq0.false)) c.ranges.word.fits
