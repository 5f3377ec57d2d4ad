use Rattle.std.proofs.Common.{take, refl, arith}
use Rattle.std.proofs.Math.Seq.{length-take-le}
use Rattle.long_lines.proofs.ReaderLemmas.{filled}
use Rattle.long_lines.proofs.reader.LineReader.fill.Goals as goal

pub returns-clause-some : goal.returns-clause-some
returns-clause-some g c _ = (
  take c.in-Ok.count c.read.new.buf,
  c.in-Ok.ensures.bytes.0,
  omega (arith, length-take-le c.in-Ok.count c.read.new.buf c.in-Ok.ensures.bound.0),
  λ bytes lines rest m. filled c.args.self.now _ c.in-Ok.count bytes lines rest c.requires refl refl m,
)
