use Rattle.std.proofs.Common.{◌≡◌, ◌≤◌, ◌+◌, length}
use Rattle.line_counts.specs.LineFeeds.{line_feeds}
use Rattle.line_counts.proofs.counting.line_feeds.Given as goal

-- the line feeds so far, and those of the rest, are all
abbrev pub invariant-loop-rest : goal.invariant-loop-rest
invariant-loop-rest l = (l.count + line_feeds l.rest ≡ line_feeds l.fn.bytes) × (l.count + length l.rest ≤ length l.fn.bytes)

abbrev pub decreases-loop-rest : goal.decreases-loop-rest
decreases-loop-rest l = length l.rest
