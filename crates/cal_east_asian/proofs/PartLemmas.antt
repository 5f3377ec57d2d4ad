-- Years by their parts.
use Rattle.std.proofs.Common.{◌≡◌, ◌∙◌, ℕ, ap, sym, subst, ℤ}
use Rattle.cal_days.specs.Day.{IsRuleYear}
use Rattle.cal_east_asian.specs.EastAsianYears.{YearParts, parts_of, AreValid, year_from}
use Rattle.cal_east_asian.specs.laws.RuleYearLaws.{rule_year-same}
use Rattle.cal_east_asian.specs.laws.SameParts.{same_parts}
use Rattle.cal_east_asian.specs.MeanYears.{IsOffset}
use Rattle.cal_east_asian.specs.MeanTraditionalYears.{IsMeanYear, mean_traditional_year}
use Rattle.cal_east_asian.specs.MeanParts.{mean_parts}
use Rattle.cal_east_asian.specs.declared.east_asian_traditional_year.EastAsianTraditionalYear.{EastAsianTraditionalYear}

abbrev parts : ℤ → ℕ → ℕ → YearParts
parts d m p = record { new_year = d; long_months = m; leap_month = p }

pub parts-same : (a b : YearParts) → a.new_year ≡ b.new_year → a.long_months ≡ b.long_months → a.leap_month ≡ b.leap_month → a ≡ b
parts-same a b e f g = ap (λ d. parts d a.long_months a.leap_month) e ∙ ap (λ m. parts b.new_year m a.leap_month) f ∙ ap (λ p. parts b.new_year b.long_months p) g

-- a year of these parts, made of the number, is the year of the number
pub year-from : (year : EastAsianTraditionalYear) (f : ℤ → YearParts) (valid : AreValid f) (y : ℤ) → IsRuleYear y → year.related_iso ≡ y → parts_of year ≡ f y → year ≡ year_from f valid y
year-from year f valid y rule number is =
    let back = sym (rule_year-same y rule) in
    let all = is ∙ ap f back in
    same_parts year (year_from f valid y) (number ∙ back) (ap (λ (x : YearParts). x.new_year) all) (ap (λ (x : YearParts). x.long_months) all) (ap (λ (x : YearParts). x.leap_month) all)

-- the mean year of a number, where offset and number come back from their bits
pub mean-parts-by : (o y p z : ℤ) (year : EastAsianTraditionalYear) → p ≡ o → z ≡ y → parts_of year ≡ mean_parts p z → parts_of year ≡ mean_parts o y
mean-parts-by o y p z year e f is = is ∙ ap (λ x. mean_parts x z) e ∙ ap (mean_parts o) f

pub mean-own : (o p z : ℤ) (year : EastAsianTraditionalYear) → p ≡ o → IsMeanYear p z year → IsMeanYear o year.related_iso year
mean-own o p z year e is = subst (λ (x : ℤ). IsMeanYear x year.related_iso year) e (subst (λ (x : ℤ). IsMeanYear p x year) (sym is.number) is)

pub mean-by : (o p z : ℤ) (year : EastAsianTraditionalYear) (h : IsOffset o) → p ≡ o → ((k : IsOffset p) → year ≡ mean_traditional_year p k z) → year ≡ mean_traditional_year o h z
mean-by o p z year h e is = subst (λ (x : ℤ). (k : IsOffset x) → year ≡ mean_traditional_year x k z) e is h
