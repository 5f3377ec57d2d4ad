use Rattle.std.proofs.Common.{◌≡◌, ◌∙◌, ap, sym, refl, true, false, arith, ℤ, pos, to_z, of_z, w32, w64, ◌≤ℤ◌, ◌<ℤ◌}
use Rattle.cal_days.specs.Day.{IsRuleYear}
use Rattle.cal_days.proofs.Signed.{signed}
use Rattle.cal_east_asian.specs.MeanYears.{IsOffset}
use Rattle.cal_east_asian.specs.QingYears.{IsQingNumber, qing_parts}
use Rattle.cal_east_asian.specs.ComputedYears.{standard_offset, beijing_offset, computed_parts}
use Rattle.cal_east_asian.specs.laws.ComputedLaws.{computed-valid, computed-late, computed-qing, computed-early, by_times}
use Rattle.cal_east_asian.proofs.PartLemmas.{year-from, mean-parts-by}
use Rattle.cal_east_asian.proofs.computed_years.computed_year.Goals as goal

year_back : (y : ℤ) → IsRuleYear y → to_z w32 (of_z w32 y) ≡ y
year_back y h = omega (arith, signed, h)

offset_back : (o : ℤ) → IsOffset o → to_z w64 (of_z w64 o) ≡ o
offset_back o h = omega (arith, signed, h)

pub returns-then-related_iso-ge1912-clause-parts : goal.returns-then-related_iso-ge1912-clause-parts
returns-then-related_iso-ge1912-clause-parts c =
    let y = c.args.related_iso in
    let late : pos 1912 ≤ℤ y = omega (arith, signed, c.if-related_iso-ge1912.true) in
    mean-parts-by (standard_offset c.args.side) y _ _ c.mean_year.result (offset_back c.standard_offset.result c.standard_offset.ensures.offset ∙ c.standard_offset.ensures.exact) (year_back y c.requires) c.mean_year.ensures.parts
    ∙ sym (computed-late c.args.side y late)

pub returns-then-related_iso-ge1912-clause-exact : goal.returns-then-related_iso-ge1912-clause-exact
returns-then-related_iso-ge1912-clause-exact c =
    let y = c.args.related_iso in
    year-from c.mean_year.result (computed_parts c.args.side) (computed-valid c.args.side) y c.requires (c.mean_year.ensures.year.number ∙ year_back y c.requires) (returns-then-related_iso-ge1912-clause-parts c)

pub returns-in-Some-clause-parts : goal.returns-in-Some-clause-parts
returns-in-Some-clause-parts c =
    let y = c.args.related_iso in
    let same = year_back y c.requires in
    let row = c.in-Some.ensures.exact.0 refl in
    let h : IsQingNumber y = (omega (arith, signed, same, row), omega (arith, signed, same, row)) in
    c.in-Some.ensures.parts ∙ ap (λ (z : ℤ). qing_parts z) same ∙ sym (computed-qing c.args.side y h)

pub returns-in-Some-clause-exact : goal.returns-in-Some-clause-exact
returns-in-Some-clause-exact c =
    let y = c.args.related_iso in
    year-from c.in-Some.year (computed_parts c.args.side) (computed-valid c.args.side) y c.requires (c.in-Some.ensures.row.number ∙ year_back y c.requires) (returns-in-Some-clause-parts c)

-- a year without a row that isn't from 1912 on is before 1900
before_rows : (y z : ℤ) → z ≡ y → ((pos 1900 ≤ℤ z) × (z ≤ℤ pos 1911) → false ≡ true) → y <ℤ pos 1912 → y <ℤ pos 1900
before_rows y z same none before =
    by_times {P = y <ℤ pos 1900} y
    (λ late. absurd (omega (arith, signed)))
    (λ qing. let not = none (omega (arith, signed, same, qing), omega (arith, signed, same, qing)) in absurd cc)
    (λ early. early)

pub returns-in-None-clause-parts : goal.returns-in-None-clause-parts
returns-in-None-clause-parts c =
    let y = c.args.related_iso in
    let same = year_back y c.requires in
    let early : y <ℤ pos 1900 = before_rows y _ same c.in-None.ensures.exact.1 (omega (arith, signed, c.if-related_iso-ge1912.false)) in
    mean-parts-by beijing_offset y _ _ c.mean_year-in-None.result (omega (arith, signed)) same c.mean_year-in-None.ensures.parts
    ∙ sym (computed-early c.args.side y early)

pub returns-in-None-clause-exact : goal.returns-in-None-clause-exact
returns-in-None-clause-exact c =
    let y = c.args.related_iso in
    year-from c.mean_year-in-None.result (computed_parts c.args.side) (computed-valid c.args.side) y c.requires (c.mean_year-in-None.ensures.year.number ∙ year_back y c.requires) (returns-in-None-clause-parts c)
