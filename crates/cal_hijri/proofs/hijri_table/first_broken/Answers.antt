use Rattle.std.proofs.Common.{◌≡◌, ℕ, List, Option, Some, None, subst, rules}
use Rattle.std.specs.Prelude.{IsTrue, MatchOption}
use Rattle.cal_errors.specs.declared.errors.TablePart.{TablePart}
use Rattle.cal_hijri.specs.HijriRows.{names_year, row_year, years_of}
use Rattle.cal_hijri.specs.RowsAccepted as named
use Rattle.cal_hijri.specs.TableAccepted as years
use Rattle.cal_hijri.specs.TableFriday.{friday_year}
use Rattle.cal_hijri.specs.laws.RowNameLaws.{row-broken, row-meets}
use Rattle.cal_hijri.specs.declared.hijri_row.HijriRow.{HijriRow}
use Rattle.cal_hijri.specs.declared.hijri_year.HijriYear.{HijriYear}
use Rattle.cal_hijri.proofs.hijri_table.first_broken.Goals as goal

-- what holds of the year of a row that names one holds of the row
matched : (rows : List HijriRow) (i : ℕ) (row : HijriRow) (y : HijriYear) (r : Option TablePart) → IsTrue (names_year row) → y ≡ row_year row → MatchOption r (years.MeetsAll friday_year (years_of rows) i y) (years.IsFirstBroken friday_year (years_of rows) i y) → MatchOption r (named.MeetsAll friday_year rows i row) (named.IsFirstBroken friday_year rows i row)
matched rows i row y None n e h = row-meets friday_year rows i row n (subst (λ (x : HijriYear). years.MeetsAll friday_year (years_of rows) i x) e h)
matched rows i row y (Some part) n e h = row-broken friday_year rows i row part n (subst (λ (x : HijriYear). years.IsFirstBroken friday_year (years_of rows) i x part) e h)

pub returns-clause-first : goal.returns-clause-first
returns-clause-first c =
    let known : IsTrue (names_year c.args.row) = search rules in
    matched c.args.rows.now c.args.index c.args.row c.year.result c.first_broken_of_year.result known c.year.ensures c.first_broken_of_year.ensures.first
