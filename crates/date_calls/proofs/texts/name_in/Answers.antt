use Rattle.std.specs.Option.{option_map}
use Rattle.date_calls.proofs.TextLemmas.{name-in}
use Rattle.date_calls.proofs.texts.name_in.Goals as goal

pub returns : goal.returns
returns c = name-in c.args.text.now (option_map (λ name. name.now) c.name_behind.result) c.name_behind.ensures
