use Rattle.std.proofs.Common.{◌≡◌, ℤ, pos, ◌+ℤ◌, ◌-ℤ◌, Option, Some, sym, ap, ◌∙◌, to_z, of_z, w32, arith}
use Rattle.cal_days.specs.Day.{IsFieldYear}
use Rattle.cal_days.proofs.Signed.{signed}
use Rattle.cal_arith.specs.FieldNames.{era_read}
use Rattle.cal_types.specs.Eras.{common_era_reads}
use Rattle.cal_gregory.specs.JapaneseEraList.{IsStartYear, ListedEra, year_of_era}
use Rattle.cal_gregory.proofs.JapaneseEraLemmas.{read_second}
use Rattle.cal_gregory.proofs.japanese.JapaneseErasGregorianYears.extended_from_era_year.Goals as goal

-- the year as it is computed
year_computed : (year start : ℤ) → IsFieldYear year → IsStartYear start → to_z w32 (of_z w32 (to_z w32 (of_z w32 (to_z w32 (of_z w32 year) -ℤ pos 1)) +ℤ to_z w32 (of_z w32 start))) ≡ year -ℤ pos 1 +ℤ start
year_computed year start h k = omega (arith, signed, h, k)

pub returns-in-Some : goal.returns-in-Some
returns-in-Some c =
    let year = c.args.year_of_era in
    let start = c.in-Some.start.year in
    let kept : to_z w32 (of_z w32 year) ≡ year = omega (arith, signed, c.requires) in
    let fails = c.in-Err.ensures ∙ ap (λ (y : ℤ). era_read (common_era_reads c.args.era.now y)) kept in
    let reads = ap (λ (o : Option ListedEra). year_of_era o year) (sym c.in-Some.ensures.last) in
    read_second (common_era_reads c.args.era.now year) _ c.in-Err.field-0 _ (year -ℤ pos 1 +ℤ start) fails reads (year_computed year start c.requires c.in-Some.ensures.start)
