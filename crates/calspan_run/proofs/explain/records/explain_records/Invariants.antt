use Rattle.std.proofs.Common.{◌≡◌, ◌<◌, ℕ, List, Some, length, true}
use Rattle.csv.specs.Reading.{Reached, Ready, default_config, is_flexible, source_of, strip_bom}
use Rattle.csv.specs.declared.parser.State.TheVariants as st
use Rattle.csv.specs.declared.reader.Trim.TheVariants as trim
use Rattle.calspan_run.specs.RecordsExplained.{any_invalid, record_lines}
use Rattle.calspan_run.proofs.explain.records.explain_records.Given as goal

abbrev pub invariant-loop-row : goal.invariant-loop-row
invariant-loop-row l =
    (l.row-iterator.rdr.trim ≡ trim.None) × Ready l.row-iterator.rdr × (0 < l.row-iterator.left)
    × (l.row-iterator.rdr.config ≡ default_config)
    × (y : List ℕ) × (source_of (λ s. Some s.now) l.row-iterator.rdr ≡ Some y)
    × (rows : List (List (List ℕ))) × Reached default_config st.StartRecord (strip_bom l.fn.book) rows l.row-iterator.rdr.state y
    × (l.number ≡ length rows) × (l.text.items ≡ record_lines 1 rows) × (l.is_invalid ≡ any_invalid 1 rows)
    × (is_flexible l.row-iterator.rdr ≡ true)
