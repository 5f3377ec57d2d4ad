-- A row that takes memory among the first lines takes it among all.
use Rattle.std.proofs.Common.{ℕ, true, false, List, ◌++◌, sym, subst}
use Rattle.byte_io.specs.Lines.{lines_in}
use Rattle.table_rows.specs.RowLines.{RowTakesMemory}
use Rattle.table_rows.proofs.InputLemmas.{lines_in-prefix}
use Rattle.table_rows.proofs.RowLineLemmas.{end_before}

pub memory_more : (lines more : List (List ℕ)) → RowTakesMemory lines → RowTakesMemory (lines ++ more)
memory_more lines more h = record {
  rows = h.rows;
  number = h.number;
  line = h.line;
  more = h.more ++ more;
  before = end_before lines more h.rows h.number h.line h.more h.before;
  takes = h.takes;
}

pub row_lacks : (bytes more : List ℕ) → RowTakesMemory (lines_in bytes false) → RowTakesMemory (lines_in (bytes ++ more) true)
row_lacks bytes more h =
    let (others, lines) = lines_in-prefix bytes more true in
    subst RowTakesMemory (sym lines) (memory_more (lines_in bytes false) others h)
