use Rattle.std.proofs.Common.{◌++◌, ◌∷◌, [], codes}
use Rattle.std.specs.Fmt.{decimal}
use Rattle.calspan_run.proofs.ExplainAnswerLemmas.{two_pieces}
use Rattle.calspan_run.proofs.explain.lines.push_long.Goals as goal

pub returns : goal.returns
returns c =
    two_pieces c.args.text.now.items c.push_line_number.new.text.items _ (codes "line " ++ decimal c.args.number) (codes ": at most 512 bytes" ++ 10 ∷ [])
    c.push_line_number.ensures.items c.push_all.ensures
