use Rattle.std.proofs.Common.{arith}
use Rattle.request_lines.proofs.RowLemmas.{code-fits, code-text}
use Rattle.request_lines.proofs.era_row.EraRow.code.Goals as goal

pub of_text-requires : goal.of_text-requires
of_text-requires c =
    let era = c.args.self.now in
    (omega arith, (code-fits era.letters.now era.coded, code-text era.letters.now era.coded))
