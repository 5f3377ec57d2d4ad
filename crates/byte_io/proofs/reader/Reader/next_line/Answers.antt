use Rattle.std.proofs.Common.{refl, subst, sym, List, ℕ}
use Rattle.byte_io.specs.Buffer.{Holds}
use Rattle.byte_io.proofs.ReaderLemmas.{gives_line, ended, gives_too_long, gives_all}
use Rattle.byte_io.proofs.reader.Reader.next_line.Goals as goal

pub returns-in-Some-clause-gives : goal.returns-in-Some-clause-gives
returns-in-Some-clause-gives c bytes lines rest m held =
    let holds = subst (λ (y : List ℕ). Holds c.args.line.now y) (sym m.behind) held in
    gives_line c.args.self.now _ c.args.line.now c.look.new.line bytes lines rest c.in-Some.count refl refl refl refl refl c.in-Some.ensures.some.1 m (c.in-Some.ensures.looks m.looked holds)

pub returns-then-self-clause-gives : goal.returns-then-self-clause-gives
returns-then-self-clause-gives c bytes lines rest m held =
    let holds = subst (λ (y : List ℕ). Holds c.args.line.now y) (sym m.behind) held in
    gives_too_long c.args.self.now.total c.args.self.now.beyond c.look.new.line bytes lines c.if-self.true (ended c.args.self.now c.look.new.line bytes lines rest m (c.in_default.ensures.looks m.looked holds))

pub returns-else-self-clause-gives : goal.returns-else-self-clause-gives
returns-else-self-clause-gives c bytes lines rest m held =
    let holds = subst (λ (y : List ℕ). Holds c.args.line.now y) (sym m.behind) held in
    gives_all _ c.args.self.now.beyond c.look.new.line bytes lines refl refl c.if-self.false (ended c.args.self.now c.look.new.line bytes lines rest m (c.in_default.ensures.looks m.looked holds))
