-- The number of line feeds (10).
use Rattle.std.specs.Prelude.{ℕ, ◌==◌, List, count_by}

abbrev pub line_feeds : List ℕ → ℕ
line_feeds bytes = count_by (λ b. b == 10) bytes
