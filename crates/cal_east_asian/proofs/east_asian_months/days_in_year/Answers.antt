use Rattle.std.proofs.Common.{◌≡◌, ◌∙◌, ℕ, suc, ◌+◌, ◌-◌, ◌≤◌, ap, sym, arith}
use Rattle.cal_east_asian.specs.EastAsianPlaces.{month_days, days_of_months}
use Rattle.cal_east_asian.specs.laws.MonthDayLaws.{year-days}
use Rattle.cal_east_asian.proofs.east_asian_months.days_in_year.Goals as goal

-- the days before the last month, and those of that month
whole : (long last before days : ℕ) → 1 ≤ last → before ≡ days_of_months long (last - 1) → days ≡ month_days long last → before + days ≡ days_of_months long last
whole long last before days some e f =
    let same : suc (last - 1) ≡ last = omega arith in
    let next : last - 1 + 1 ≡ last = omega arith in
    let known : days_of_months long last ≡ days_of_months long (last - 1) + month_days long last = ap (days_of_months long) (sym same) ∙ ap (λ (j : ℕ). days_of_months long (last - 1) + month_days long j) next in
    omega (arith, known, e, f)

pub returns-clause-value : goal.returns-clause-value
returns-clause-value c =
    let long = c.args.long_months in
    let last = c.months_in_year-last.result in
    let some : 1 ≤ last = omega (arith, c.months_in_year-last.ensures.value) in
    whole long last _ _ some c.days_before_month.ensures.value (c.from.ensures ∙ c.days_in_month.ensures.value)
    ∙ ap (days_of_months long) c.months_in_year-last.ensures.value ∙ sym (year-days c.args.leap_month long)
