-- What the source and the sink in memory hold.
use Rattle.std.specs.Prelude.{◌≡◌, ℕ, ◌-◌, ◌<◌, ◌⊎◌, List, take, length, Contains}
use Rattle.byte_io.specs.Faults.{counted_on}
use Rattle.byte_io.specs.declared.memory.MemorySource.{MemorySource}
use Rattle.byte_io.specs.declared.memory.MemorySink.{MemorySink}

-- the bytes that are still to come
abbrev pub source_rest : MemorySource → List ℕ
source_rest s = s.rest.now

-- how many bytes a call gives at most
abbrev pub source_cut : MemorySource → ℕ
source_cut s = s.cut

-- the numbers of the calls that fail
abbrev pub source_failing : MemorySource → List ℕ
source_failing s = s.failing.now

-- how many calls there were
abbrev pub source_calls : MemorySource → ℕ
source_calls s = s.calls

-- how many faults were counted
abbrev pub source_faults : MemorySource → ℕ
source_faults s = s.faults

-- the next call fails, by its number
abbrev pub SourceFails : MemorySource → Type 0
SourceFails s = Contains (source_failing s) (counted_on (source_calls s))

-- a call is counted, and cuts and fails as before
pub record SourceGoesOn (old new : MemorySource) : Type 0 where
  pub calls : source_calls new ≡ counted_on (source_calls old)
  pub cut : source_cut new ≡ source_cut old
  pub failing : source_failing new ≡ source_failing old

-- the bytes that were taken so far
abbrev pub sink_taken : MemorySink → List ℕ
sink_taken s = take s.len s.room.now

-- how many bytes there is room for in all
abbrev pub sink_room : MemorySink → ℕ
sink_room s = length s.room.now

-- how many bytes there is still room for
abbrev pub sink_left : MemorySink → ℕ
sink_left s = sink_room s - length (sink_taken s)

-- how many bytes a call takes at most
abbrev pub sink_cut : MemorySink → ℕ
sink_cut s = s.cut

-- the numbers of the calls that fail
abbrev pub sink_failing : MemorySink → List ℕ
sink_failing s = s.failing.now

-- how many calls there were
abbrev pub sink_calls : MemorySink → ℕ
sink_calls s = s.calls

-- how many faults were counted
abbrev pub sink_faults : MemorySink → ℕ
sink_faults s = s.faults

-- the call with this number fails, because it was listed or because the room is full
abbrev pub RefusesCall : MemorySink → ℕ → List ℕ → Type 0
RefusesCall s call piece = Contains (sink_failing s) call ⊎ ((0 < length piece) × (sink_left s ≡ 0))

-- the next call fails
abbrev pub SinkFails : MemorySink → List ℕ → Type 0
SinkFails s piece = RefusesCall s (counted_on (sink_calls s)) piece

-- a call is counted, and the room, the cuts and the failing calls are as before
pub record SinkGoesOn (old new : MemorySink) : Type 0 where
  pub calls : sink_calls new ≡ counted_on (sink_calls old)
  pub room : sink_room new ≡ sink_room old
  pub cut : sink_cut new ≡ sink_cut old
  pub failing : sink_failing new ≡ sink_failing old
