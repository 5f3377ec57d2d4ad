use Rattle.std.proofs.Common.{arith}
use Rattle.std.proofs.lemmas.Grind.{common_steps}
use Rattle.byte_io.proofs.WholeLemmas.{too_long, no_memory}
use Rattle.byte_io.proofs.whole.read_all.Goals as goal

pub returns-then-count-limit-clause-early : goal.returns-then-count-limit-clause-early
returns-then-count-limit-clause-early g c =
    too_long _ _ _ c.chunks.bytes.items c.read.new.buf c.in-Ok.count c.args.limit 0 0 c.in-Ok.ensures.bound.0 c.chunks.invariant.within
    c.chunks.invariant.took c.in-Ok.ensures.bytes.0 (omega (arith, c.len.ensures, c.if-count-limit.true))

pub returns-then-is_err-clause-early : goal.returns-then-is_err-clause-early
returns-then-is_err-clause-early g c =
    no_memory _ _ _ c.chunks.bytes.items c.read.new.buf c.in-Ok.count c.args.limit 0 0 c.in-Ok.ensures.bound.0 c.chunks.invariant.within
    c.chunks.invariant.took c.in-Ok.ensures.bytes.0 (omega (arith, c.if-count-eq0.false)) (omega (arith, c.len.ensures, c.if-count-limit.false))

pub chunks-preserved : goal.chunks-preserved
chunks-preserved g c = grind (arith, common_steps)
