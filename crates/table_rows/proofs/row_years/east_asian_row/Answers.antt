use Rattle.std.proofs.Common.{sym, subst}
use Rattle.request_lines.specs.RowSaid.{year_row_said}
use Rattle.table_rows.specs.RowYears.{IsEastAsianYear}
use Rattle.table_rows.proofs.row_years.east_asian_row.Goals as goal

pub returns-in-Some-clause-year : goal.returns-in-Some-clause-year
returns-in-Some-clause-year c = subst (IsEastAsianYear (year_row_said c.args.row.now)) (sym c.row.ensures.year) c.in-Some.ensures
