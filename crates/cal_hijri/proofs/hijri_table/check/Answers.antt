use Rattle.std.proofs.Common.{◌≡◌, ◌∙◌, ℕ, ◌<◌, ◌≤◌, ⊎_elim, refl, sym, arith, length, List, slice_get, Some, None}
use Rattle.std.proofs.lemmas.Option.{slice_get_within, slice_get_cases}
use Rattle.cal_types.specs.laws.RowLaws.{rows_before_next}
use Rattle.cal_hijri.specs.HijriRows.{row_year, years_of}
use Rattle.cal_hijri.specs.RowsAccepted.{MeetsAll}
use Rattle.cal_hijri.specs.TableAccepted.{IsTableYear}
use Rattle.cal_hijri.specs.TableFriday.{friday_year}
use Rattle.cal_hijri.specs.laws.RowNameLaws.{year-there}
use Rattle.cal_hijri.specs.declared.hijri_row.HijriRow.{HijriRow}
use Rattle.cal_hijri.specs.declared.hijri_year.HijriYear.{HijriYear}
use Rattle.cal_hijri.proofs.hijri_table.check.Goals as goal

-- where no row stands, the rows are over
over : (rows : List HijriRow) (k : ℕ) → slice_get rows k ≡ None → length rows ≤ k
over rows k none = ⊎_elim {C = length rows ≤ k} (λ there. absurd cc) (λ past. past.0) ((slice_get_cases rows k).1)

pub returns-in-Some-first_broken-clause-first : goal.returns-in-Some-first_broken-clause-first
returns-in-Some-first_broken-clause-first c =
    (c.rows.index, refl, (c.in-Some.row, sym c.row_in.ensures ∙ c.in-Some.is, c.in-Some-first_broken.ensures.first), c.rows.invariant.met)

pub overflow_add-index : goal.overflow_add-index
overflow_add-index c =
    let rows = c.args.rows.now in
    let within : c.rows.index < length rows = slice_get_within rows c.rows.index c.in-Some.row (sym c.row_in.ensures ∙ c.in-Some.is) in
    omega (arith, within)

pub rows-smaller : goal.rows-smaller
rows-smaller c =
    let rows = c.args.rows.now in
    let within : c.rows.index < length rows = slice_get_within rows c.rows.index c.in-Some.row (sym c.row_in.ensures ∙ c.in-Some.is) in
    omega (arith, within)

pub rows-preserved : goal.rows-preserved
rows-preserved c =
    let rows = c.args.rows.now in
    let row = c.in-Some.row in
    let here : slice_get rows c.rows.index ≡ Some row = sym c.row_in.ensures ∙ c.in-Some.is in
    record {
      met = rows_before_next (MeetsAll friday_year rows) rows c.rows.index row here c.in_default-first_broken.ensures.first c.rows.invariant.met;
      late = rows_before_next (λ (i : ℕ) (r : HijriYear). IsTableYear r.extended_year) (years_of rows) c.rows.index (row_year row) (year-there friday_year rows c.rows.index row here) (c.in_default-first_broken.ensures.year refl) c.rows.invariant.late;
    }

pub returns-clause-first : goal.returns-clause-first
returns-clause-first c i row h =
    let rows = c.args.rows.now in
    let within : i < length rows = slice_get_within rows i row h in
    let past : length rows ≤ c.rows.index = over rows c.rows.index (sym c.row_in.ensures ∙ c.in_default.is) in
    c.rows.invariant.met i row (omega (arith, within, past)) h

pub returns-clause-exact : goal.returns-clause-exact
returns-clause-exact c = (λ ok. returns-clause-first c, λ accepted. refl)
