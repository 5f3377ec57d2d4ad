use Rattle.std.proofs.Common.{◌≡◌, ◌∙◌, ◌+◌, ap, sym, subst, arith, ℤ, to_z, of_z, w32, w64, pos, ◌-ℤ◌}
use Rattle.std.specs.Prelude.{unsigned_abs, Some}
use Rattle.cal_days.proofs.Signed.{signed}
use Rattle.cal_days.proofs.GregorianLemmas.{gregorian_start-bounds}
use Rattle.cal_east_asian.specs.EastAsianYear.{IsNewYear}
use Rattle.cal_east_asian.specs.EastAsianYears.{YearParts, parts_of, end_of}
use Rattle.cal_east_asian.specs.QingYears.{IsQingNumber, qing_parts, row_by_parts}
use Rattle.cal_east_asian.specs.laws.QingLaws.{qing-valid, qing-joins, qing-end, qing-row}
use Rattle.cal_east_asian.specs.laws.ComputedLaws.{new_year-1912, new_year-1900}
use Rattle.cal_east_asian.proofs.PartLemmas.{parts-same}
use Rattle.cal_east_asian.proofs.qing_years.qing_year.Goals as goal

year_back : (y : ℤ) → IsQingNumber y → to_z w32 (of_z w32 y) ≡ y
year_back y h = omega (arith, signed, h)

index_back : (y : ℤ) → IsQingNumber y → pos (1900 + unsigned_abs (to_z w32 (of_z w32 (to_z w32 (of_z w32 y) -ℤ pos 1900)))) ≡ y
index_back y h = let place : to_z w32 (of_z w32 (to_z w32 (of_z w32 y) -ℤ pos 1900)) ≡ y -ℤ pos 1900 = omega (arith, signed, h) in omega (arith, signed, h, place)

start-near : (y d : ℤ) → IsQingNumber y → IsNewYear y d → to_z w64 (of_z w64 d) ≡ d
start-near y d h start = omega (arith, signed, h, start, gregorian_start-bounds y)

start-back : (y d : ℤ) → IsQingNumber y → d ≡ (qing_parts y).new_year → IsNewYear (to_z w32 (of_z w32 y)) (to_z w64 (of_z w64 d))
start-back y d h e =
    let valid : IsNewYear y d = subst (λ (x : ℤ). IsNewYear y x) (sym e) (qing-valid y h).0.1.0 in
    subst (λ (x : ℤ). IsNewYear x (to_z w64 (of_z w64 d))) (sym (year_back y h)) (subst (λ (x : ℤ). IsNewYear y x) (sym (start-near y d h valid)) valid)

pub from_parts-requires-clause-start : goal.from_parts-requires-clause-start
from_parts-requires-clause-start c =
    let y = c.args.related_iso in
    let h : IsQingNumber y = (omega (arith, signed, c.if-related_iso-lt1900.false), omega (arith, signed, c.if-related_iso-gt1911.false)) in
    start-back y c.qing_row-row.result.new_year h (c.qing_row-row.ensures.new_year ∙ ap (λ (z : ℤ). (qing_parts z).new_year) (index_back y h))

pub from_parts-requires-clause-few : goal.from_parts-requires-clause-few
from_parts-requires-clause-few c =
    let y = c.args.related_iso in
    let row = c.qing_row-row in
    let h : IsQingNumber y = (omega (arith, signed, c.if-related_iso-lt1900.false), omega (arith, signed, c.if-related_iso-gt1911.false)) in
    let long = row.ensures.long_months ∙ ap (λ (z : ℤ). (qing_parts z).long_months) (index_back y h) in
    let leap = row.ensures.leap_month ∙ ap (λ (z : ℤ). (qing_parts z).leap_month) (index_back y h) in
    rw (long, leap) (qing-valid y h).1

pub returns-clause-parts : goal.returns-clause-parts
returns-clause-parts c =
    let y = c.args.related_iso in
    let h : IsQingNumber y = (omega (arith, signed, c.if-related_iso-lt1900.false), omega (arith, signed, c.if-related_iso-gt1911.false)) in
    let first = c.qing_row-row.ensures.new_year ∙ ap (λ (z : ℤ). (qing_parts z).new_year) (index_back y h) in
    let valid : IsNewYear y c.qing_row-row.result.new_year = subst (λ (x : ℤ). IsNewYear y x) (sym first) (qing-valid y h).0.1.0 in
    parts-same (parts_of c.from_parts.result) (qing_parts y)
    (c.from_parts.ensures.start ∙ start-near y c.qing_row-row.result.new_year h valid ∙ first)
    (c.from_parts.ensures.lengths ∙ c.qing_row-row.ensures.long_months ∙ ap (λ (z : ℤ). (qing_parts z).long_months) (index_back y h))
    (c.from_parts.ensures.place ∙ c.qing_row-row.ensures.leap_month ∙ ap (λ (z : ℤ). (qing_parts z).leap_month) (index_back y h))

pub returns-clause-row : goal.returns-clause-row
returns-clause-row c =
    let y = c.args.related_iso in
    let h : IsQingNumber y = (omega (arith, signed, c.if-related_iso-lt1900.false), omega (arith, signed, c.if-related_iso-gt1911.false)) in
    record {
      number = c.from_parts.ensures.number ∙ year_back y h;
      row = qing-row y h ∙ ap (λ (x : YearParts). Some (row_by_parts x)) (sym (returns-clause-parts c));
    }

pub returns-clause-joins : goal.returns-clause-joins
returns-clause-joins c =
    let y = c.args.related_iso in
    let h : IsQingNumber y = (omega (arith, signed, c.if-related_iso-lt1900.false), omega (arith, signed, c.if-related_iso-gt1911.false)) in
    let is = returns-clause-parts c in
    record {
      next = λ next. qing-joins y h next ∙ ap (λ (x : YearParts). end_of x) (sym is);
      first = λ e. ap (λ (x : YearParts). x.new_year) is ∙ ap (λ (z : ℤ). (qing_parts z).new_year) e ∙ sym new_year-1900;
      last = λ e side. ap (λ (x : YearParts). end_of x) is ∙ ap (λ (z : ℤ). end_of (qing_parts z)) e ∙ qing-end ∙ sym (new_year-1912 side);
    }
