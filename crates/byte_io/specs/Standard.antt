-- What the source and the sink over std count.
use Rattle.std.specs.Prelude.{ℕ}
use Rattle.byte_io.specs.declared.standard.StdSource.{StdSource}
use Rattle.byte_io.specs.declared.standard.StdSink.{StdSink}

-- how many faults the source has counted
abbrev pub std_source_faults : {R : Type 0} → StdSource R → ℕ
std_source_faults s = s.faults

-- the reader that it is over
abbrev pub std_source_inner : {R : Type 0} → StdSource R → R
std_source_inner s = s.inner

-- how many faults the sink has counted
abbrev pub std_sink_faults : {W : Type 0} → StdSink W → ℕ
std_sink_faults s = s.faults

-- the writer that it is over
abbrev pub std_sink_inner : {W : Type 0} → StdSink W → W
std_sink_inner s = s.inner
