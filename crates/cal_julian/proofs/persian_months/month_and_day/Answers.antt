use Rattle.std.proofs.Common.{◌+◌, ◌-◌, ◌/◌, ◌≤◌, arith}
use Rattle.cal_julian.specs.laws.PersianMonthLaws.{days_before-long, days_before-short}
use Rattle.cal_julian.proofs.persian_months.month_and_day.Goals as goal

pub returns-then-day_of_year-lt-DAYS_IN_LONG_MONTHS-clause-day : goal.returns-then-day_of_year-lt-DAYS_IN_LONG_MONTHS-clause-day
returns-then-day_of_year-lt-DAYS_IN_LONG_MONTHS-clause-day c leap =
    let found = c.months_and_day-months in
    let month = found.result.0 + 1 in
    let place : (1 ≤ month) × (month ≤ 7) = (omega arith, omega (arith, found.ensures, c.if-day_of_year-lt-DAYS_IN_LONG_MONTHS.true)) in
    omega (arith, found.ensures, days_before-long leap month place.0 place.1)

pub returns-else-day_of_year-lt-DAYS_IN_LONG_MONTHS-clause-day : goal.returns-else-day_of_year-lt-DAYS_IN_LONG_MONTHS-clause-day
returns-else-day_of_year-lt-DAYS_IN_LONG_MONTHS-clause-day c leap =
    let month = (c.args.day_of_year - 186) / 30 + 7 in
    let place : (7 ≤ month) × (month ≤ 12) = (omega arith, omega (arith, c.requires)) in
    let late : 186 ≤ c.args.day_of_year = omega (arith, c.if-day_of_year-lt-DAYS_IN_LONG_MONTHS.false) in
    omega (arith, late, days_before-short leap month place.0 place.1)
