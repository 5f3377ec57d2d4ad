use Rattle.std.proofs.Common.{◌≡◌, ◌∙◌, ◌<◌, ℕ, ℤ, ap, subst, sym, to_z, of_z, w32, w64, arith}
use Rattle.cal_days.specs.Day.{IsRuleYear}
use Rattle.cal_days.proofs.IslamicLemmas.{mean_start-bounds}
use Rattle.cal_days.proofs.Signed.{signed}
use Rattle.cal_hijri.specs.laws.SameYears.{same_parts}
use Rattle.cal_hijri.specs.TabularYears.{is_leap, long_by, tabular_start}
use Rattle.cal_hijri.specs.laws.TabularYearLaws.{long_by-few, tabular-near}
use Rattle.cal_hijri.specs.declared.tabular_algorithm.TabularAlgorithm.{TabularAlgorithm}
use Rattle.cal_hijri.proofs.tabular_algorithm.tabular_year.Goals as goal

number : (y : ℤ) → IsRuleYear y → to_z w32 (of_z w32 y) ≡ y
number y rule = omega (arith, signed, rule)

-- what the call says of the year's first day
first : (s : TabularAlgorithm) (y day : ℤ) → IsRuleYear y → day ≡ tabular_start s (to_z w32 (of_z w32 y)) → to_z w64 (of_z w64 day) ≡ tabular_start s y
first s y day rule said =
    let is : day ≡ tabular_start s y = said ∙ ap (tabular_start s) (number y rule) in
    omega (arith, signed, is, tabular-near s y, mean_start-bounds y, rule)

pub invariant_of-result : goal.invariant_of-result
invariant_of-result c =
    let y = c.args.extended_year in
    let s = c.args.rules in
    record {
      near = rw (number y c.requires, first s y c.year_start.result c.requires c.year_start.ensures) (tabular-near s y);
      twelve = subst (λ (n : ℕ). n < 4096) (sym c.long_months.ensures) (long_by-few (is_leap s.leap_years (to_z w32 (of_z w32 y))));
    }

pub returns : goal.returns
returns c =
    let y = c.args.extended_year in
    let s = c.args.rules in
    same_parts _ _ (number y c.requires) (first s y c.year_start.result c.requires c.year_start.ensures)
    (c.long_months.ensures ∙ ap (λ (z : ℤ). long_by (is_leap s.leap_years z)) (number y c.requires))
