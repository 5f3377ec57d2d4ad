use Rattle.std.proofs.Common.{◌≡◌, ◌∙◌, ◌%◌, ◌^◌, ℕ, ap, arith, pos, ◌+ℤ◌, min, to_z, of_z, w32, FitsSigned, rules}
use Rattle.cal_days.proofs.GregorianLemmas.{gregorian_start-bounds}
use Rattle.cal_days.proofs.Signed.{signed}
use Rattle.cal_days.specs.Gregorian.{gregorian_start}
use Rattle.cal_east_asian.specs.EastAsianRows.{row_year}
use Rattle.cal_east_asian.specs.EastAsianYear.{january_19, months_of_year}
use Rattle.cal_east_asian.specs.RuleYears.{rule_year}
use Rattle.cal_east_asian.specs.laws.SameParts.{same_parts}
use Rattle.cal_east_asian.proofs.east_asian_row.EastAsianRow.year.Goals as goal

pub returns : goal.returns
returns c =
    let y = c.nearest_rule_year-related_iso.result in
    let rule = c.nearest_rule_year-related_iso.ensures.range in
    let fits : FitsSigned w32 c.args.self.related_iso = search rules in
    let kept : to_z w32 (of_z w32 y) ≡ y = omega (arith, signed, rule) in
    let asked : to_z w32 (of_z w32 c.args.self.related_iso) ≡ c.args.self.related_iso = omega (arith, signed, fits) in
    let number : y ≡ rule_year c.args.self.related_iso = c.nearest_rule_year-related_iso.ensures.value ∙ ap rule_year asked in
    let first : c.to_i64_date-january_19.result ≡ gregorian_start y = c.to_i64_date-january_19.ensures.value ∙ (c.year_start.ensures.formula ∙ ap gregorian_start kept) in
    let start : c.from_parts.result.new_year ≡ january_19 (rule_year c.args.self.related_iso) +ℤ pos (min c.args.self.start_offset 34) = omega (arith, signed, c.from_parts.ensures.start, first, gregorian_start-bounds y, rule, ap january_19 number, c.from.ensures, c.min.ensures) in
    same_parts c.from_parts.result (row_year c.args.self) (c.from_parts.ensures.number ∙ (kept ∙ number)) start (c.from_parts.ensures.lengths ∙ (c.bits_of_months.ensures.value ∙ ap (λ (p : ℕ). c.args.self.long_months % 2 ^ months_of_year p) c.place_or_none-leap_month.ensures.value)) (c.from_parts.ensures.place ∙ c.place_or_none-leap_month.ensures.value)
