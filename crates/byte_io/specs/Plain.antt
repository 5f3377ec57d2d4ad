-- What the source and the sink that never fail hold.
use Rattle.std.specs.Prelude.{ℕ, List}
use Rattle.byte_io.specs.declared.plain.PlainSource.{PlainSource}
use Rattle.byte_io.specs.declared.plain.PlainSink.{PlainSink}

-- the bytes that are still to come
abbrev pub plain_rest : PlainSource → List ℕ
plain_rest s = s.rest.now

-- how many bytes were taken, up to the greatest u64
abbrev pub plain_count : PlainSink → ℕ
plain_count s = s.count
