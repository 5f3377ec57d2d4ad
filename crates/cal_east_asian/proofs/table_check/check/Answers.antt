use Rattle.std.proofs.Common.{◌≡◌, ◌∙◌, true, false, ℕ, ◌<◌, ◌≤◌, ⊎_elim, refl, sym, arith, length, List, slice_get, Some, None}
use Rattle.std.proofs.lemmas.Option.{slice_get_within, slice_get_cases}
use Rattle.cal_types.specs.laws.FaultLaws.{fault_refuses}
use Rattle.cal_types.specs.laws.RowLaws.{rows_before_next}
use Rattle.cal_east_asian.specs.EastAsianRows.{row_year, years_of}
use Rattle.cal_east_asian.specs.RowsAccepted.{meets, MeetsAll}
use Rattle.cal_east_asian.specs.TableAccepted.{IsTableYear}
use Rattle.cal_east_asian.specs.laws.ComputedLaws.{computed_year}
use Rattle.cal_east_asian.specs.laws.RowNameLaws.{year-there}
use Rattle.cal_east_asian.specs.declared.east_asian_row.EastAsianRow.{EastAsianRow}
use Rattle.cal_east_asian.specs.declared.east_asian_traditional_year.EastAsianTraditionalYear.{EastAsianTraditionalYear}
use Rattle.cal_east_asian.proofs.table_check.check.Goals as goal

never : {A : Type 0} → false ≡ true → A
never e = absurd cc

-- where no row stands, the rows are over
over : (rows : List EastAsianRow) (k : ℕ) → slice_get rows k ≡ None → length rows ≤ k
over rows k none = ⊎_elim {C = length rows ≤ k} (λ there. absurd cc) (λ past. past.0) ((slice_get_cases rows k).1)

pub returns-in-Some-first_broken-clause-first : goal.returns-in-Some-first_broken-clause-first
returns-in-Some-first_broken-clause-first c =
    (c.rows.index, refl, (c.in-Some.row, sym c.row_in.ensures ∙ c.in-Some.is, c.in-Some-first_broken.ensures.first), c.rows.invariant.met)

pub returns-in-Some-first_broken-clause-exact : goal.returns-in-Some-first_broken-clause-exact
returns-in-Some-first_broken-clause-exact c =
    (λ ok. never ok, λ accepted. absurd (fault_refuses (meets (computed_year c.args.side) c.args.rows.now) c.args.rows.now _ (returns-in-Some-first_broken-clause-first c) accepted))

pub overflow_add-index : goal.overflow_add-index
overflow_add-index c =
    let rows = c.args.rows.now in
    let within : c.rows.index < length rows = slice_get_within rows c.rows.index c.in-Some.row (sym c.row_in.ensures ∙ c.in-Some.is) in
    omega (arith, within)

pub rows-smaller : goal.rows-smaller
rows-smaller c =
    let rows = c.args.rows.now in
    let within : c.rows.index < length rows = slice_get_within rows c.rows.index c.in-Some.row (sym c.row_in.ensures ∙ c.in-Some.is) in
    omega (arith, within)

pub rows-preserved : goal.rows-preserved
rows-preserved c =
    let rows = c.args.rows.now in
    let row = c.in-Some.row in
    let year_of = computed_year c.args.side in
    let here : slice_get rows c.rows.index ≡ Some row = sym c.row_in.ensures ∙ c.in-Some.is in
    record {
      met = rows_before_next (MeetsAll year_of rows) rows c.rows.index row here c.in_default-first_broken.ensures.first c.rows.invariant.met;
      late = rows_before_next (λ (i : ℕ) (r : EastAsianTraditionalYear). IsTableYear r.related_iso) (years_of rows) c.rows.index (row_year row) (year-there year_of rows c.rows.index row here) (c.in_default-first_broken.ensures.year refl) c.rows.invariant.late;
    }

pub returns-clause-first : goal.returns-clause-first
returns-clause-first c i row h =
    let rows = c.args.rows.now in
    let within : i < length rows = slice_get_within rows i row h in
    let past : length rows ≤ c.rows.index = over rows c.rows.index (sym c.row_in.ensures ∙ c.in_default.is) in
    c.rows.invariant.met i row (omega (arith, within, past)) h

pub returns-clause-exact : goal.returns-clause-exact
returns-clause-exact c = (λ ok. returns-clause-first c, λ accepted. refl)
