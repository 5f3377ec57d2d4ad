use Rattle.std.proofs.Common.{◌≡◌, ◌≤◌, take}
use Rattle.line_counts.specs.LineFeeds.{line_feeds}
use Rattle.line_counts.proofs.counting.feeds_in_block.Given as goal

abbrev pub invariant-loop-byte : goal.invariant-loop-byte
invariant-loop-byte l = (l.count ≡ line_feeds (take l.byte-index l.block)) × (l.count ≤ l.byte-index)
