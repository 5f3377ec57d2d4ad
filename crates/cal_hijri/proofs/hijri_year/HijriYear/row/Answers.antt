use Rattle.std.proofs.Common.{◌≡◌, ◌∙◌, ◌%◌, ◌≤◌, ap, refl, arith, ℤ, pos, nat_abs, to_z, of_z, w32, w64, FitsSigned, rules, ◌+ℤ◌, ◌-ℤ◌, min}
use Rattle.std.specs.Prelude.{unsigned_abs}
use Rattle.cal_days.proofs.Signed.{signed, signed_casts}
use Rattle.cal_days.proofs.IslamicLemmas.{mean_start-bounds}
use Rattle.cal_days.specs.Day.{IsRuleYear}
use Rattle.cal_days.specs.Islamic.{islamic_mean_start}
use Rattle.cal_hijri.specs.HijriRows.{row_of_year}
use Rattle.cal_hijri.specs.RowStarts.{nearest_rule_year, start_after}
use Rattle.cal_hijri.specs.laws.RowNameLaws.{same-row, year-named}
use Rattle.cal_hijri.specs.laws.RowStartLaws.{nearest_rule_year-same}
use Rattle.cal_hijri.specs.laws.SameYears.{same_parts}
use Rattle.cal_hijri.proofs.hijri_year.HijriYear.row.Goals as goal

-- the mean year of the number starts there
mean-is : (y d e : ℤ) → FitsSigned w32 y → d ≡ e → e ≡ islamic_mean_start (to_z w32 (of_z w32 y)) → d ≡ islamic_mean_start y
mean-is y d e fits value formula =
    let same : to_z w32 (of_z w32 y) ≡ y = omega (arith, signed, fits) in
    value ∙ (formula ∙ ap islamic_mean_start same)

pub overflow_cast-result : goal.overflow_cast-result
overflow_cast-result c =
    let y = c.args.self.extended_year in
    let fits : FitsSigned w32 y = search rules in
    let bounds = mean_start-bounds y in
    let mean = mean-is y _ _ fits c.to_i64_date-mean.ensures.value c.mean_start.ensures.formula in
    let rule : IsRuleYear y = (omega (arith, signed, fits), omega (arith, signed, fits)) in
    (omega (arith, signed_casts, mean, bounds, c.args.self.near, rule), omega (arith, signed_casts, mean, bounds, c.args.self.near, rule))

pub returns-clause-year : goal.returns-clause-year
returns-clause-year c =
    let y = c.args.self.extended_year in
    let fits : FitsSigned w32 y = search rules in
    let rule : IsRuleYear y = (omega (arith, signed, fits), omega (arith, signed, fits)) in
    let bounds = mean_start-bounds y in
    let mean = mean-is y _ _ fits c.to_i64_date-mean.ensures.value c.mean_start.ensures.formula in
    let kept : to_z w32 (of_z w32 y) ≡ y = omega (arith, signed, fits) in
    let number : nearest_rule_year (to_z w32 (of_z w32 y)) ≡ y = ap nearest_rule_year kept ∙ nearest_rule_year-same y rule in
    let n = nat_abs (to_z w64 (of_z w64 (to_z w64 (of_z w64 (to_z w64 (of_z w64 c.args.self.first_day) +ℤ pos 5)) -ℤ to_z w64 (of_z w64 c.to_i64_date-mean.result)))) in
    let offset : pos n ≡ c.args.self.first_day +ℤ pos 5 -ℤ islamic_mean_start y = omega (arith, signed_casts, mean, bounds, c.args.self.near, rule) in
    let few : min n 10 ≡ n = omega (arith, signed, offset, c.args.self.near) in
    let start : start_after (nearest_rule_year (to_z w32 (of_z w32 y))) n ≡ c.args.self.first_day = omega (arith, signed, ap islamic_mean_start number, few, offset) in
    let bits : c.args.self.long_months % 4096 ≡ c.args.self.long_months = omega (arith, c.args.self.twelve) in
    same_parts _ c.args.self number start bits

pub returns-clause-exact : goal.returns-clause-exact
returns-clause-exact c =
    let y = c.args.self.extended_year in
    let fits : FitsSigned w32 y = search rules in
    let rule : IsRuleYear y = (omega (arith, signed, fits), omega (arith, signed, fits)) in
    let bounds = mean_start-bounds y in
    let mean = mean-is y _ _ fits c.to_i64_date-mean.ensures.value c.mean_start.ensures.formula in
    let kept : to_z w32 (of_z w32 y) ≡ y = omega (arith, signed, fits) in
    let n = nat_abs (to_z w64 (of_z w64 (to_z w64 (of_z w64 (to_z w64 (of_z w64 c.args.self.first_day) +ℤ pos 5)) -ℤ to_z w64 (of_z w64 c.to_i64_date-mean.result)))) in
    let offset : pos n ≡ c.args.self.first_day -ℤ (islamic_mean_start y -ℤ pos 5) = omega (arith, signed_casts, mean, bounds, c.args.self.near, rule) in
    same-row _ (row_of_year c.args.self) kept refl (ap unsigned_abs offset)

pub returns-clause-named : goal.returns-clause-named
returns-clause-named c =
    let y = c.args.self.extended_year in
    let fits : FitsSigned w32 y = search rules in
    let rule : IsRuleYear y = (omega (arith, signed, fits), omega (arith, signed, fits)) in
    let bounds = mean_start-bounds y in
    let mean = mean-is y _ _ fits c.to_i64_date-mean.ensures.value c.mean_start.ensures.formula in
    let kept : to_z w32 (of_z w32 y) ≡ y = omega (arith, signed, fits) in
    let n = nat_abs (to_z w64 (of_z w64 (to_z w64 (of_z w64 (to_z w64 (of_z w64 c.args.self.first_day) +ℤ pos 5)) -ℤ to_z w64 (of_z w64 c.to_i64_date-mean.result)))) in
    let offset : pos n ≡ c.args.self.first_day +ℤ pos 5 -ℤ islamic_mean_start y = omega (arith, signed_casts, mean, bounds, c.args.self.near, rule) in
    let few : n ≤ 10 = omega (arith, signed, offset, c.args.self.near) in
    let year : IsRuleYear (to_z w32 (of_z w32 y)) = (omega (arith, signed, kept, rule), omega (arith, signed, kept, rule)) in
    year-named (to_z w32 (of_z w32 y)) c.args.self.long_months n year c.args.self.twelve few

pub overflow_add-result : goal.overflow_add-result
overflow_add-result c =
    let y = c.args.self.extended_year in
    let fits : FitsSigned w32 y = search rules in
    let rule : IsRuleYear y = (omega (arith, signed, fits), omega (arith, signed, fits)) in
    omega (arith, signed, mean_start-bounds y, c.args.self.near, rule)

pub overflow_sub-result : goal.overflow_sub-result
overflow_sub-result c =
    let y = c.args.self.extended_year in
    let fits : FitsSigned w32 y = search rules in
    let mean = mean-is y _ _ fits c.to_i64_date-mean.ensures.value c.mean_start.ensures.formula in
    let rule : IsRuleYear y = (omega (arith, signed, fits), omega (arith, signed, fits)) in
    omega (arith, signed, mean, mean_start-bounds y, c.args.self.near, rule)
