use Rattle.std.proofs.Common.{Some, refl, sym, ap, ◌∙◌}
use Rattle.std.specs.Option.{option_map}
use Rattle.command_line.specs.Command.{Generate}
use Rattle.command_line.specs.CommandSaid.{command_said}
use Rattle.calspan_run.proofs.CommandLemmas.{command_ends, same_command, some_words, words_told}
use Rattle.calspan_run.proofs.command_run.run_read.Goals as goal

pub returns-in-Some-clause-ends : goal.returns-in-Some-clause-ends
returns-in-Some-clause-ends g c asked is =
    command_ends (command_said c.in-Some.command) asked (ap (option_map command_said) (sym c.in-Some.is) ∙ is) c.run_command.result _ _ _ _ _ _ _ _ c.run_command.ensures.ends

pub returns-in-Some-clause-words : goal.returns-in-Some-clause-words
returns-in-Some-clause-words g c asked is = words_told asked c.run_command.result _ _ (returns-in-Some-clause-ends g c asked is)

pub returns-in-Some-clause-untouched : goal.returns-in-Some-clause-untouched
returns-in-Some-clause-untouched g c =
    some_words (command_said c.in-Some.command) _ refl c.run_command.result _ _
    (returns-in-Some-clause-ends g c (Some (command_said c.in-Some.command)) (ap (option_map command_said) c.in-Some.is))

pub returns-in-Some-clause-unread : goal.returns-in-Some-clause-unread
returns-in-Some-clause-unread g c count asks =
    c.run_command.ensures.unread count (same_command (command_said c.in-Some.command) (Generate count) _ (ap (option_map command_said) (sym c.in-Some.is)) asks)
