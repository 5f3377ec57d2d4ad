use Rattle.std.proofs.Common.{◌≡◌, ℕ, List, Option, Some, None, subst, rules}
use Rattle.std.specs.Prelude.{IsTrue, MatchOption}
use Rattle.cal_errors.specs.declared.errors.TablePart.{TablePart}
use Rattle.cal_east_asian.specs.EastAsianRows.{names_year, row_year, years_of}
use Rattle.cal_east_asian.specs.RowsAccepted as named
use Rattle.cal_east_asian.specs.TableAccepted as years
use Rattle.cal_east_asian.specs.laws.ComputedLaws.{computed_year}
use Rattle.cal_east_asian.specs.laws.RowNameLaws.{row-broken, row-meets}
use Rattle.cal_east_asian.specs.declared.east_asian_row.EastAsianRow.{EastAsianRow}
use Rattle.cal_east_asian.specs.declared.east_asian_traditional_year.EastAsianTraditionalYear.{EastAsianTraditionalYear}
use Rattle.cal_east_asian.specs.declared.sides.Side.{Side}
use Rattle.cal_east_asian.proofs.table_check.first_broken.Goals as goal

-- what holds of the year of a row that names one holds of the row
matched : (side : Side) (rows : List EastAsianRow) (i : ℕ) (row : EastAsianRow) (y : EastAsianTraditionalYear) (r : Option TablePart) → IsTrue (names_year row) → y ≡ row_year row → MatchOption r (years.MeetsAll (computed_year side) (years_of rows) i y) (years.IsFirstBroken (computed_year side) (years_of rows) i y) → MatchOption r (named.MeetsAll (computed_year side) rows i row) (named.IsFirstBroken (computed_year side) rows i row)
matched side rows i row y None n e h = row-meets (computed_year side) rows i row n (subst (λ (x : EastAsianTraditionalYear). years.MeetsAll (computed_year side) (years_of rows) i x) e h)
matched side rows i row y (Some part) n e h = row-broken (computed_year side) rows i row part n (subst (λ (x : EastAsianTraditionalYear). years.IsFirstBroken (computed_year side) (years_of rows) i x part) e h)

pub returns-clause-first : goal.returns-clause-first
returns-clause-first c =
    let known : IsTrue (names_year c.args.row) = search rules in
    matched c.args.side c.args.rows.now c.args.index c.args.row c.year.result c.first_broken_of_year.result known c.year.ensures c.first_broken_of_year.ensures.first
