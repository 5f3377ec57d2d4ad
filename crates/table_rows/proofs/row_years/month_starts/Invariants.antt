use Rattle.std.proofs.Common.{◌≡◌, ◌-◌, ◌≤◌, ◌*◌, ◌+◌, ◌++◌, length, take, drop, pos, neg_ℤ, ◌≤ℤ◌}
use Rattle.table_rows.specs.RowYears.{starts_of}
use Rattle.table_rows.proofs.row_years.month_starts.Given as goal

abbrev pub invariant-months : goal.invariant-months
invariant-months g l = record {
  index : l.index ≤ g.row.N;
  size : length l.starts ≡ g.row.N;
  low : neg_ℤ (pos 3000000000) ≤ℤ l.day;
  high : l.day ≤ℤ pos (3000000000 + 30 * l.index);
  filled : starts_of g.row.N l.fn.start l.fn.letters ≡ take l.index l.starts ++ starts_of (g.row.N - l.index) l.day (drop l.index l.fn.letters);
}

abbrev pub decreases-months : goal.decreases-months
decreases-months g l = g.row.N - l.index
