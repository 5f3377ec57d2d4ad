-- Years that are given by their parts.
use Rattle.std.proofs.Common.{◌≡◌, arith, ℤ, pos, ◌+ℤ◌, ◌-ℤ◌}
use Rattle.std.specs.Prelude.{IsTrue}
use Rattle.cal_days.specs.Day.{IsRuleYear}
use Rattle.cal_days.proofs.Signed.{signed}
use Rattle.cal_east_asian.specs.EastAsianYears.{YearParts, end_of, leap_in_three, AreYears, AreValid, year_from}
use Rattle.cal_east_asian.specs.laws.RuleYearLaws.{rule_year-same}

-- where parts join and have leap months, so do the years
pub years-from : (parts : ℤ → YearParts) (valid : AreValid parts) → ((y : ℤ) → (parts (y +ℤ pos 1)).new_year ≡ end_of (parts y)) → ((y : ℤ) → IsTrue (leap_in_three parts y)) → AreYears (year_from parts valid)
years-from parts valid joined leaps = record {
  numbered = rule_year-same;
  joins = λ y rule next. rw (rule_year-same (y +ℤ pos 1) next, rule_year-same y rule) (joined y);
  leaps = λ y first rule.
      let between : IsRuleYear (y -ℤ pos 1) = (omega (arith, signed, first, rule), omega (arith, signed, first, rule)) in
      rw (rule_year-same y rule, rule_year-same (y -ℤ pos 1) between, rule_year-same (y -ℤ pos 2) first) (leaps y);
}
