-- What the program reads a row line as.
use Rattle.request_lines.specs.Rows as rows
use Rattle.request_lines.specs.declared.row.YearRow.{YearRow}
use Rattle.request_lines.specs.declared.era_row.EraRow.{EraRow}
use Rattle.request_lines.specs.declared.row.Row.{Row}
use Rattle.request_lines.specs.declared.row.Row.TheVariants.{China, Korea, Hijri, Persian, Era}

-- the year that the program's value stands for
abbrev pub year_row_said : YearRow → rows.YearRow
year_row_said r = record { year = r.year; start = r.start; lengths = r.lengths.now; leap = r.leap }

-- the era that the program's value stands for
abbrev pub era_row_said : EraRow → rows.EraRow
era_row_said r = record { start = r.start; code = r.letters.now; index = r.index }

-- the row that the program's value stands for
abbrev pub row_said : Row → rows.Row
row_said (China r) = rows.China (year_row_said r)
row_said (Korea r) = rows.Korea (year_row_said r)
row_said (Hijri r) = rows.Hijri (year_row_said r)
row_said (Persian y) = rows.Persian y
row_said (Era r) = rows.Era (era_row_said r)
