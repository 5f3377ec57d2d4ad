use Rattle.std.proofs.Common.{rules, arith}
use Rattle.calspan_run.proofs.KnownLemmas.{sent_more, sent_prefix, wrote_err}
use Rattle.calspan_run.proofs.writer.write_all.Goals as goal

pub loop-at-preserved : goal.loop-at-preserved
loop-at-preserved g c = record {
  within = search rules;
  wrote = sent_more _ _ _ c.args.text.now c.loop-at.at c.in_ok-at.field-0 c.loop-at.invariant.wrote c.in_ok-at.ensures.bytes;
  later = omega (arith, c.loop-at.invariant.later, c.in_ok-at.ensures.cause.later);
}

pub returns-in_err-at-clause-wrote : goal.returns-in_err-at-clause-wrote
returns-in_err-at-clause-wrote g c =
    wrote_err c.from_residual.result _ _ c.args.text.now c.from_residual.ensures.0
    (sent_prefix _ _ _ c.args.text.now c.loop-at.at c.loop-at.invariant.wrote c.in_err-at.ensures.bytes)
