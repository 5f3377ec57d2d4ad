use Rattle.std.proofs.Common.{sym, ap, ◌∙◌}
use Rattle.std.specs.Option.{option_map}
use Rattle.command_line.specs.CommandWordsLeft.{words_behind}
use Rattle.command_line.proofs.WordLemmas.{words-some}
use Rattle.command_line.proofs.command_words.is_behind.Goals as goal

pub returns-in-Some : goal.returns-in-Some
returns-in-Some c = (λ f. cc, λ e. absurd (words-some c.in-Some.field-0.now (sym (ap (λ t. words_behind (option_map (λ rest. rest.now) t)) c.in-Some.is) ∙ e)))
