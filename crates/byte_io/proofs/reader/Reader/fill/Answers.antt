use Rattle.std.proofs.Common.{take, refl, arith}
use Rattle.byte_io.proofs.ReaderLemmas.{filled}
use Rattle.byte_io.proofs.reader.Reader.fill.Goals as goal

pub returns-clause-some : goal.returns-clause-some
returns-clause-some g c _ = (
  take c.in-Ok.count c.read.new.buf,
  c.in-Ok.ensures.bytes.0,
  λ bytes lines rest m. filled c.args.self.now _ c.in-Ok.count c.min-within.result bytes lines rest c.requires refl refl refl refl
      c.min-within.ensures (omega arith) c.in-Ok.ensures.bound.0 (omega arith) m,
)
