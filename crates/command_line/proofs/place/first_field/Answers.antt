use Rattle.std.proofs.Common.{ap, ◌∙◌}
use Rattle.request_lines.specs.Bags.{with_whole_word}
use Rattle.command_line.proofs.place.first_field.Goals as goal

pub returns : goal.returns
returns c = c.with_field.ensures ∙ ap (λ b. with_whole_word b c.args.word.now) c.none_yet.ensures
