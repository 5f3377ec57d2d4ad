use Rattle.std.proofs.Common.{refl, subst, sym, List, ℕ}
use Rattle.long_lines.specs.Buffer.{Holds}
use Rattle.long_lines.proofs.ReaderLemmas.{gives_line, gives_all}
use Rattle.long_lines.proofs.reader.LineReader.next_line.Goals as goal

pub returns-in-Some-clause-gives : goal.returns-in-Some-clause-gives
returns-in-Some-clause-gives c bytes lines rest m held =
    let holds = subst (λ (y : List ℕ). Holds c.args.line.now y) (sym m.behind) held in
    gives_line c.args.self.now _ c.args.line.now c.look.new.line bytes lines rest c.in-Some.count refl refl refl c.in-Some.ensures.some.1 m (c.in-Some.ensures.looks m.looked holds)

pub returns-clause-gives : goal.returns-clause-gives
returns-clause-gives c bytes lines rest m held =
    let holds = subst (λ (y : List ℕ). Holds c.args.line.now y) (sym m.behind) held in
    gives_all c.args.self.now _ c.look.new.line bytes lines rest refl m (c.in_default.ensures.looks m.looked holds)
