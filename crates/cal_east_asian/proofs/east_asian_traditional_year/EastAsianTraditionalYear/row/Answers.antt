use Rattle.std.proofs.Common.{◌≡◌, ◌∙◌, ◌≤◌, ℕ, refl, ap, arith, ℤ, pos, nat_abs, to_z, of_z, w32, w64, ◌+ℤ◌, ◌-ℤ◌, min}
use Rattle.std.specs.Prelude.{unsigned_abs}
use Rattle.std.proofs.lemmas.Grind.{common_steps}
use Rattle.cal_days.proofs.GregorianLemmas.{gregorian_start-bounds}
use Rattle.cal_days.proofs.Signed.{signed, signed_casts}
use Rattle.cal_days.specs.Day.{IsRuleYear}
use Rattle.cal_days.specs.Gregorian.{gregorian_start}
use Rattle.cal_east_asian.specs.EastAsianRows.{row_of_year}
use Rattle.cal_east_asian.specs.EastAsianYear.{january_19}
use Rattle.cal_east_asian.specs.RuleYears.{rule_year}
use Rattle.cal_east_asian.specs.laws.RowNameLaws.{bits-same, place-same, same-row, year-named}
use Rattle.cal_east_asian.specs.laws.RuleYearLaws.{rule_year-same}
use Rattle.cal_east_asian.specs.laws.SameParts.{same_parts}
use Rattle.cal_east_asian.proofs.east_asian_traditional_year.EastAsianTraditionalYear.row.Goals as goal

-- January 1 of the number
january_1-is : (y d e : ℤ) → IsRuleYear y → d ≡ e → e ≡ gregorian_start (to_z w32 (of_z w32 y)) → d ≡ gregorian_start y
january_1-is y d e rule value formula =
    let same : to_z w32 (of_z w32 y) ≡ y = omega (arith, signed, rule) in
    value ∙ (formula ∙ ap gregorian_start same)

pub overflow_cast-result : goal.overflow_cast-result
overflow_cast-result c =
    let y = c.args.self.related_iso in
    let rule = c.args.self.valid.0 in
    let near = c.args.self.valid.1.0 in
    let first = january_1-is y _ _ rule c.to_i64_date-january_1.ensures.value c.year_start.ensures.formula in
    (omega (arith, signed_casts, first, gregorian_start-bounds y, near, rule), omega (arith, signed_casts, first, gregorian_start-bounds y, near, rule))

pub returns-clause-year : goal.returns-clause-year
returns-clause-year c =
    let y = c.args.self.related_iso in
    let rule = c.args.self.valid.0 in
    let near = c.args.self.valid.1.0 in
    let bounds = gregorian_start-bounds y in
    let first = january_1-is y _ _ rule c.to_i64_date-january_1.ensures.value c.year_start.ensures.formula in
    let kept : to_z w32 (of_z w32 y) ≡ y = omega (arith, signed, rule) in
    let number : rule_year (to_z w32 (of_z w32 y)) ≡ y = ap rule_year kept ∙ rule_year-same y rule in
    let n = nat_abs (to_z w64 (of_z w64 (to_z w64 (of_z w64 (to_z w64 (of_z w64 c.args.self.new_year) -ℤ to_z w64 (of_z w64 c.to_i64_date-january_1.result))) -ℤ pos 18))) in
    let offset : pos n ≡ c.args.self.new_year -ℤ gregorian_start y -ℤ pos 18 = omega (arith, signed_casts, first, bounds, near, rule) in
    let few : min n 34 ≡ n = omega (arith, signed, offset, near) in
    let start : january_19 (rule_year (to_z w32 (of_z w32 y))) +ℤ pos (min n 34) ≡ c.args.self.new_year = omega (arith, signed, ap january_19 number, few, offset) in
    same_parts _ c.args.self number start (bits-same c.args.self.long_months c.args.self.leap_month c.args.self.valid.1.1 c.args.self.few) (place-same c.args.self.leap_month c.args.self.valid.1.1)

pub returns-clause-exact : goal.returns-clause-exact
returns-clause-exact c =
    let y = c.args.self.related_iso in
    let rule = c.args.self.valid.0 in
    let near = c.args.self.valid.1.0 in
    let bounds = gregorian_start-bounds y in
    let first = january_1-is y _ _ rule c.to_i64_date-january_1.ensures.value c.year_start.ensures.formula in
    let kept : to_z w32 (of_z w32 y) ≡ y = omega (arith, signed, rule) in
    let n = nat_abs (to_z w64 (of_z w64 (to_z w64 (of_z w64 (to_z w64 (of_z w64 c.args.self.new_year) -ℤ to_z w64 (of_z w64 c.to_i64_date-january_1.result))) -ℤ pos 18))) in
    let offset : pos n ≡ c.args.self.new_year -ℤ january_19 y = omega (arith, signed_casts, first, bounds, near, rule) in
    same-row _ (row_of_year c.args.self) kept refl refl (ap unsigned_abs offset)

pub returns-clause-named : goal.returns-clause-named
returns-clause-named c =
    let y = c.args.self.related_iso in
    let rule = c.args.self.valid.0 in
    let near = c.args.self.valid.1.0 in
    let bounds = gregorian_start-bounds y in
    let first = january_1-is y _ _ rule c.to_i64_date-january_1.ensures.value c.year_start.ensures.formula in
    let kept : to_z w32 (of_z w32 y) ≡ y = omega (arith, signed, rule) in
    let n = nat_abs (to_z w64 (of_z w64 (to_z w64 (of_z w64 (to_z w64 (of_z w64 c.args.self.new_year) -ℤ to_z w64 (of_z w64 c.to_i64_date-january_1.result))) -ℤ pos 18))) in
    let offset : pos n ≡ c.args.self.new_year -ℤ january_19 y = omega (arith, signed_casts, first, bounds, near, rule) in
    let few : n ≤ 34 = omega (arith, signed, offset, near) in
    let year : IsRuleYear (to_z w32 (of_z w32 y)) = (omega (arith, signed, kept, rule), omega (arith, signed, kept, rule)) in
    year-named (to_z w32 (of_z w32 y)) c.args.self.long_months c.args.self.leap_month n year c.args.self.valid.1.1 c.args.self.few few

pub overflow_sub-result-2 : goal.overflow_sub-result-2
overflow_sub-result-2 c = grind (arith, common_steps)

pub overflow_sub-result : goal.overflow_sub-result
overflow_sub-result c = grind (arith, common_steps)
