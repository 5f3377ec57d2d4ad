-- The lines that refuse rows and tables.
use Rattle.std.specs.Prelude.{ℕ, List, codes}
use Rattle.cal_errors.specs.declared.errors.TableFault.{TableFault}
use Rattle.cal_errors.specs.declared.errors.TablePart.{TablePart}
use Rattle.cal_errors.specs.declared.errors.TablePart.TheVariants as parts
use Rattle.reply_texts.specs.Texts.{about_line}
use Rattle.table_rows.specs.declared.table.RowFault.{RowFault}
use Rattle.table_rows.specs.declared.table.RowFault.TheVariants.{Syntax, Range, Late}
use Rattle.table_rows.specs.declared.table.Table.{Table}
use Rattle.table_rows.specs.declared.table.Table.TheVariants.{China, Korea, Hijri, Persian}

abbrev pub row_fault_text : RowFault → List ℕ
row_fault_text Syntax = codes "syntax"
row_fault_text Range = codes "range"
row_fault_text Late = codes "late"

-- the line that refuses the row line of number n, as `table line 3 syntax`
abbrev pub row_refusal : ℕ → RowFault → List ℕ
row_refusal n why = about_line (codes "table line ") n (row_fault_text why)

abbrev pub part_text : TablePart → List ℕ
part_text parts.Range = codes "range"
part_text parts.Year = codes "year"
part_text parts.Join = codes "join"
part_text parts.End = codes "end"
part_text parts.Leap = codes "leap"
part_text parts.Rule = codes "rule"

abbrev pub table_text : Table → List ℕ
table_text China = codes "table china "
table_text Korea = codes "table korea "
table_text Hijri = codes "table hijri "
table_text Persian = codes "table persian "

-- the line that refuses a table, as `table hijri 1 end`
abbrev pub table_refusal : Table → TableFault → List ℕ
table_refusal table fault = about_line (table_text table) fault.row (part_text fault.part)
