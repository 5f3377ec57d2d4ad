-- What a count holds: the line feeds so far, and how many bytes more are looked at.
use Rattle.std.specs.Prelude.{ℕ}
use Rattle.line_counts.specs.declared.count.LineCount.{LineCount}

abbrev pub lines_seen : LineCount → ℕ
lines_seen c = c.lines

abbrev pub bytes_left : LineCount → ℕ
bytes_left c = c.left
