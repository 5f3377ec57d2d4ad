use Rattle.std.proofs.Common.{ap, ◌∙◌}
use Rattle.request_lines.specs.Lines.{is_silent}
use Rattle.request_lines.proofs.LineLemmas.{silent_prefix}
use Rattle.request_lines.proofs.line.is_silent.Goals as goal

pub returns : goal.returns
returns c whole hold = c.gives_nothing.ensures ∙ (ap is_silent (c.deref.ensures.0 ∙ hold.prefix) ∙ silent_prefix whole)
