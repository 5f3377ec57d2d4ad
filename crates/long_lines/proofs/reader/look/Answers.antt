use Rattle.std.proofs.Common.{sym}
use Rattle.long_lines.proofs.LookLemmas.{ends_line, goes_on, HasNoLf-position}
use Rattle.long_lines.proofs.reader.look.Goals as goal

pub returns-in-Some-clause-looks : goal.returns-in-Some-clause-looks
returns-in-Some-clause-looks c before h = ends_line _ _ c.args.bytes.now before c.in-Some.count (sym c.in-Some.ensures.value) h c.extend.ensures

pub returns-in-None-clause-looks : goal.returns-in-None-clause-looks
returns-in-None-clause-looks c before h = goes_on _ _ c.args.bytes.now before (HasNoLf-position c.args.bytes.now (sym c.in-None.ensures.value)) h c.extend-in-None.ensures
