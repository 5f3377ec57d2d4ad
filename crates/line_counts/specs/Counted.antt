-- What the counting source is over, and its count.
use Rattle.line_counts.specs.declared.count.LineCount.{LineCount}
use Rattle.line_counts.specs.declared.source.CountedSource.{CountedSource}

-- the source that it is over
abbrev pub counted_inner : {S : Type 0} → CountedSource S → S
counted_inner s = s.inner

-- its count
abbrev pub counted_count : {S : Type 0} → CountedSource S → LineCount
counted_count s = s.count
