-- Rows of a caller's own: what the lines of a text say, the rows that they give, and which tables are accepted.
pub use Rattle.byte_io.specs.Lines.{lines_in}
pub use Rattle.byte_io.specs.Reader.{limit}
pub use Rattle.request_lines.specs.Lines.{Line, Nothing, GivesRow, Requests, RequestLine, IsLine}
pub use Rattle.request_lines.specs.Rows.{Row, YearRow, EraRow, row_read}
pub use Rattle.table_rows.specs.RowLines.{RowOutcome, TakesRow, TakesMemory, LineTakesMemory, RowTakesMemory, KeepsLine, AreRows, RowsEnd, EndRows}
pub use Rattle.table_rows.specs.RowYears.{IsHijriYear, IsEastAsianYear}
pub use Rattle.table_rows.specs.RowsSaid.{rows_said}
pub use Rattle.table_rows.specs.TableRows.{TableRows, no_rows, contents_of, IsTableAccepted, AreAccepted, IsFirstRefused}
pub use Rattle.table_rows.specs.Reading.{IsLineTaken, IsRowText, IsTextRead, lines_read}
