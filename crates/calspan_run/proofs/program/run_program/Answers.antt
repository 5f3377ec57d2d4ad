use Rattle.std.proofs.Common.{ℕ, List, drop, map, string_bytes, inl, inr, refl, ap, subst, ◌∙◌}
use Rattle.command_line.specs.Command.{command_of}
use Rattle.calspan_run.specs.CommandRuns.{Ends}
use Rattle.calspan_run.specs.Run.{outside}
use Rattle.calspan_run.specs.declared.status.Status.TheVariants.{NoMemory}
use Rattle.calspan_run.proofs.ProgramLemmas.{all_collected, map_behind}
use Rattle.calspan_run.proofs.program.run_program.Goals as goal

pub returns-in-Ok-words-clause-ends : goal.returns-in-Ok-words-clause-ends
returns-in-Ok-words-clause-ends g c w all is yields =
    let old = outside (g.S.Source.left c.args.source.now) (g.K.Sink.taken c.args.sink.now) (g.S.Source.faults c.args.source.now) (g.K.Sink.faults c.args.sink.now) in
    let new = outside (g.S.Source.left c.run.new.source) (g.K.Sink.taken c.run.new.sink) (g.S.Source.faults c.run.new.source) (g.K.Sink.faults c.run.new.sink) in
    let given = all_collected g.W.Iterator.next_gives string_bytes c.in-Ok.words w all c.collect-words.result c.in-Ok-words.words c.in-Ok.is is yields c.collect-words.ensures.ran c.in-Ok-words.is in
    let asked = ap (map string_bytes) (c.behind_name.ensures ∙ ap (drop 1) c.deref.ensures.value) ∙ (map_behind string_bytes _ ∙ ap (drop 1) given) in
    record {
      status = c.run.result;
      has_code = c.code-in-Ok-words.ensures;
      ends = inl (subst (λ (words : List (List ℕ)). Ends (command_of words) c.run.result old new) asked c.run.ensures.ends);
    }

pub returns-in-Err-words-clause-ends : goal.returns-in-Err-words-clause-ends
returns-in-Err-words-clause-ends g c w all is yields = record { status = NoMemory; has_code = c.code-in-Err-words.ensures; ends = inr (refl, refl) }
