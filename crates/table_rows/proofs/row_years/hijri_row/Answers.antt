use Rattle.request_lines.specs.RowSaid.{year_row_said}
use Rattle.table_rows.proofs.RowYearLemmas.{hijri_row-made}
use Rattle.table_rows.proofs.row_years.hijri_row.Goals as goal

pub returns-in-Some-clause-year : goal.returns-in-Some-clause-year
returns-in-Some-clause-year c =
    hijri_row-made (year_row_said c.args.row.now) c.in-Some.year c.row.result c.in-Some.ensures c.row.ensures.some.1 c.row.ensures.year
