-- What comes before a book, as it was read.
use Rattle.std.specs.Prelude.{ℕ, ◌<◌, List, length}
use Rattle.table_rows.specs.RowsSaid.{rows_said}
use Rattle.calspan_run.specs.BookRows.{HasBook, HasFaultyRow}
use Rattle.calspan_run.specs.declared.holidays.book_rows.RowsBefore.{RowsBefore}
use Rattle.calspan_run.specs.declared.holidays.book_rows.RowsBefore.TheVariants.{Read, Refused, NoMemory}

-- the rows and the book behind them, the invalid row line, or no memory for a row
abbrev pub AreRowsBefore : RowsBefore → List ℕ → Type 0
AreRowsBefore (Read rows book) bytes = HasBook bytes (rows_said rows) book.now
AreRowsBefore (Refused n why) bytes = HasFaultyRow bytes n why
AreRowsBefore NoMemory bytes = 0 < length bytes
