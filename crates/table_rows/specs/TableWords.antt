-- The words of tables, and the texts of errors of lines.
use Rattle.std.specs.Prelude.{ℕ, List, ◌++◌, codes}
use Rattle.table_rows.specs.declared.errors.RowError.{RowError}
use Rattle.table_rows.specs.declared.errors.RowError.TheVariants.{Row, NoRow, LongLine, NoMemory}
use Rattle.table_rows.specs.declared.table.RowFault.{RowFault}
use Rattle.table_rows.specs.declared.table.RowFault.TheVariants.{Syntax, Range, Late}
use Rattle.table_rows.specs.declared.table.Table.{Table}
use Rattle.table_rows.specs.declared.table.Table.TheVariants.{China, Korea, Hijri, Persian}

-- the word that the row lines of a table have
abbrev pub table_word : Table → List ℕ
table_word China = codes "china"
table_word Korea = codes "korea"
table_word Hijri = codes "hijri"
table_word Persian = codes "persian"

-- the word of the fault of a row line
abbrev pub fault_word : RowFault → List ℕ
fault_word Syntax = codes "syntax"
fault_word Range = codes "range"
fault_word Late = codes "late"

-- what the program writes for a line, without its number
abbrev pub row_error_text : RowError → List ℕ
row_error_text (Row why) = codes "table line " ++ fault_word why
row_error_text NoRow = codes "err line syntax"
row_error_text LongLine = codes "err line long"
row_error_text NoMemory = codes "no memory for rows"
