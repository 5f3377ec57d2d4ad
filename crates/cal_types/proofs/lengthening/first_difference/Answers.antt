use Rattle.std.proofs.Common.{ℕ, ◌<◌, refl, arith, length, ◌∙◌, sym}
use Rattle.std.specs.Prelude.{IsTrue}
use Rattle.std.proofs.lemmas.Option.{slice_get_read, slice_get_within}
use Rattle.cal_types.specs.laws.RowLaws.{rows_before_next}
use Rattle.cal_types.specs.Rows.{IsRow}
use Rattle.cal_types.specs.Lengthening.{stands_in}
use Rattle.cal_types.proofs.lengthening.first_difference.Goals as goal

pub returns-then-not-has_row : goal.returns-then-not-has_row
returns-then-not-has_row g c =
    let old = c.args.old.now in
    let index = c.loop-index.index in
    let row = c.index-old-index.result in
    let here : IsRow old index row = slice_get_read old (length old) index row refl c.loop-index-test.true c.index-old-index.is in (
      index,
      refl,
      (row, here, sym c.has_row.ensures ∙ c.if-not-has_row.true),
      c.loop-index.invariant.there,
    )

pub loop-index-preserved : goal.loop-index-preserved
loop-index-preserved g c =
    let old = c.args.old.now in
    let rows = c.args.rows.now in
    let index = c.loop-index.index in
    let row = c.index-old-index.result in
    let here : IsRow old index row = slice_get_read old (length old) index row refl c.loop-index-test.true c.index-old-index.is in
    record { there = rows_before_next (λ (i : ℕ) (r : g.row.Y.Denot). IsTrue (stands_in g.Y.Row.equal rows i r)) old index row here (sym c.has_row.ensures ∙ c.if-not-has_row.false) c.loop-index.invariant.there }

pub returns : goal.returns
returns g c i row h =
    let within : i < length c.args.old.now = slice_get_within c.args.old.now i row h in
    c.loop-index.invariant.there i row (omega (arith, within, c.loop-index-test.false)) h
