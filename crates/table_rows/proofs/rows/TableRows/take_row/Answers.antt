use Rattle.std.proofs.Common.{Some, sym, subst}
use Rattle.std.specs.Option.{option_map}
use Rattle.cal_east_asian.specs.EastAsianRows as lunisolar
use Rattle.cal_gregory.specs.JapaneseEras.{listed_eras}
use Rattle.cal_hijri.specs.HijriRows as hijri
use Rattle.request_lines.specs.RowSaid.{era_row_said, row_said, year_row_said}
use Rattle.table_rows.specs.RowsSaid.{IsTaken, rows_said}
use Rattle.request_lines.specs.declared.row.Row.{Row}
use Rattle.table_rows.proofs.RowTakingLemmas.{as_year, year_kept, china_taken, korea_taken, hijri_taken, era_taken, set_china, set_korea, set_hijri, set_eras}
use Rattle.table_rows.proofs.NamedRowLemmas.{kept-named}
use Rattle.table_rows.proofs.rows.TableRows.take_row.Goals as goal

pub returns-in-China : goal.returns-in-China
returns-in-China c =
    let before = rows_said c.args.self.now in
    let after = lunisolar.years_of c.keep_year.new.rows.items in
    let year = option_map lunisolar.row_year c.east_asian_row.result in
    let given = as_year lunisolar.row_year c.east_asian_row.result _ _ c.east_asian_row.ensures.year in
    let kept = year_kept lunisolar.row_year c.keep_year.result c.east_asian_row.result _ c.keep_year.new.rows.items c.keep_year.ensures in
    subst (λ (r : Row). IsTaken c.keep_year.result before (Some (row_said r)) (set_china before after)) (sym c.in-China.is)
    (china_taken before (year_row_said c.in-China.year) c.keep_year.result year after given kept)

pub returns-in-Korea : goal.returns-in-Korea
returns-in-Korea c =
    let before = rows_said c.args.self.now in
    let after = lunisolar.years_of c.keep_year-in-Korea.new.rows.items in
    let year = option_map lunisolar.row_year c.east_asian_row-in-Korea.result in
    let given = as_year lunisolar.row_year c.east_asian_row-in-Korea.result _ _ c.east_asian_row-in-Korea.ensures.year in
    let kept = year_kept lunisolar.row_year c.keep_year-in-Korea.result c.east_asian_row-in-Korea.result _ c.keep_year-in-Korea.new.rows.items c.keep_year-in-Korea.ensures in
    subst (λ (r : Row). IsTaken c.keep_year-in-Korea.result before (Some (row_said r)) (set_korea before after)) (sym c.in-Korea.is)
    (korea_taken before (year_row_said c.in-Korea.year) c.keep_year-in-Korea.result year after given kept)

pub returns-in-Hijri : goal.returns-in-Hijri
returns-in-Hijri c =
    let before = rows_said c.args.self.now in
    let after = hijri.years_of c.keep_year-in-Hijri.new.rows.items in
    let year = option_map hijri.row_year c.hijri_row.result in
    let given = as_year hijri.row_year c.hijri_row.result _ _ c.hijri_row.ensures.year in
    let kept = year_kept hijri.row_year c.keep_year-in-Hijri.result c.hijri_row.result _ c.keep_year-in-Hijri.new.rows.items c.keep_year-in-Hijri.ensures in
    subst (λ (r : Row). IsTaken c.keep_year-in-Hijri.result before (Some (row_said r)) (set_hijri before after)) (sym c.in-Hijri.is)
    (hijri_taken before (year_row_said c.in-Hijri.year) c.keep_year-in-Hijri.result year after given kept)

pub returns-in-Era : goal.returns-in-Era
returns-in-Era c =
    subst (λ (r : Row). IsTaken c.keep_eras.result (rows_said c.args.self.now) (Some (row_said r)) (set_eras (rows_said c.args.self.now) (option_map listed_eras c.keep_eras.new.eras))) (sym c.in-Era.is)
    (era_taken (rows_said c.args.self.now) (era_row_said c.in-Era.era) c.keep_eras.result (option_map listed_eras c.keep_eras.new.eras) c.keep_eras.ensures)

pub invariant_of-self-clause-china_named : goal.invariant_of-self-clause-china_named
invariant_of-self-clause-china_named c =
    kept-named lunisolar.names_year c.keep_year.result c.east_asian_row.result _ _ c.east_asian_row.ensures.named c.keep_year.ensures
    c.args.self.now.china_named

pub invariant_of-self-in-Korea-clause-korea_named : goal.invariant_of-self-in-Korea-clause-korea_named
invariant_of-self-in-Korea-clause-korea_named c =
    kept-named lunisolar.names_year c.keep_year-in-Korea.result c.east_asian_row-in-Korea.result _ _ c.east_asian_row-in-Korea.ensures.named
    c.keep_year-in-Korea.ensures c.args.self.now.korea_named

pub invariant_of-self-in-Hijri-clause-hijri_named : goal.invariant_of-self-in-Hijri-clause-hijri_named
invariant_of-self-in-Hijri-clause-hijri_named c =
    kept-named hijri.names_year c.keep_year-in-Hijri.result c.hijri_row.result _ _ c.hijri_row.ensures.named c.keep_year-in-Hijri.ensures
    c.args.self.now.hijri_named
