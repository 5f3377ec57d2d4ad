use Rattle.std.proofs.Common.{ap, ◌∙◌}
use Rattle.std.specs.Option.{is_some}
use Rattle.word_values.specs.Numbers.{int_of}
use Rattle.command_line.specs.Places.{behind_start}
use Rattle.command_line.proofs.place.after_start.Goals as goal

pub returns-in-Some : goal.returns-in-Some
returns-in-Some c = ap (λ o. behind_start o (is_some (int_of c.args.start.now)) c.args.word.now) c.in-Some.ensures

pub returns-in-None : goal.returns-in-None
returns-in-None c = c.after_day.ensures ∙ ap (λ o. behind_start o (is_some (int_of c.args.start.now)) c.args.word.now) c.in-None.ensures
