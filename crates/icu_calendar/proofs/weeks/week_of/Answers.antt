use Rattle.std.proofs.Common.{◌≡◌, ◌+◌, ◌/◌, ℤ, pos, ◌-ℤ◌, nat_abs, to_z, of_z, w32, w64, sym, subst, arith}
use Rattle.cal_days.specs.Gregorian.{gregorian_start}
use Rattle.cal_days.proofs.Signed.{signed, signed_casts}
use Rattle.icu_calendar.specs.Weeks.{IsInWeek}
use Rattle.icu_calendar.proofs.WeekLemmas.{days_before_thursday, week_counted}
use Rattle.icu_calendar.proofs.weeks.week_of.Goals as goal

-- the days of the year before its Thursday
days_before : (c : goal.After-since-day_of_year) → c.since-day_of_year.result ≡ c.thursday_of-thursday.result -ℤ gregorian_start c.year_from_fixed-iso_year.result
days_before c =
    let same : to_z w32 (of_z w32 c.year_from_fixed-iso_year.result) ≡ c.year_from_fixed-iso_year.result = omega (arith, signed, c.year_from_fixed-iso_year.ensures.range) in
    let start : c.year_start.result ≡ gregorian_start c.year_from_fixed-iso_year.result = rw same at c.year_start.ensures.formula in
    omega (arith, signed, c.since-day_of_year.ensures, start)

pub overflow_cast-day_of_year : goal.overflow_cast-day_of_year
overflow_cast-day_of_year c =
    let e = c.year_from_fixed-iso_year.ensures in
    let within = days_before_thursday c.thursday_of-thursday.result c.year_from_fixed-iso_year.result e.first e.last in
    (omega (arith, signed_casts, days_before c, within), omega (arith, signed_casts, days_before c, within))

pub returns : goal.returns
returns c =
    let e = c.year_from_fixed-iso_year.ensures in
    let within = days_before_thursday c.thursday_of-thursday.result c.year_from_fixed-iso_year.result e.first e.last in
    let days = nat_abs (to_z w64 (of_z w64 c.since-day_of_year.result)) in
    let count : pos days ≡ c.thursday_of-thursday.result -ℤ gregorian_start c.year_from_fixed-iso_year.result = omega (arith, signed_casts, days_before c, within) in
    let same : to_z w32 (of_z w32 c.year_from_fixed-iso_year.result) ≡ c.year_from_fixed-iso_year.result = omega (arith, signed, e.range) in
    subst (λ (y : ℤ). IsInWeek c.args.rd y (days / 7 + 1)) (sym same) (week_counted c.args.rd c.thursday_of-thursday.result c.year_from_fixed-iso_year.result days c.thursday_of-thursday.ensures.of e.first e.last count)
