use Rattle.std.proofs.Common.{ap, sym, ◌∙◌}
use Rattle.command_line.specs.PlaceSaid.{place_said}
use Rattle.command_line.specs.Places.{step}
use Rattle.command_line.proofs.place.step.Goals as goal

pub returns-in-BehindField : goal.returns-in-BehindField
returns-in-BehindField c = c.after_last.ensures ∙ ap (λ p. step (place_said p) c.args.word.now) (sym c.in-BehindField.is)
