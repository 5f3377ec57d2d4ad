use Rattle.std.proofs.Common.{sym, subst}
use Rattle.cal_days.specs.Day.{IsValidDay}
use Rattle.cal_arith.proofs.dates.from_rata_die.Goals as goal

pub returns-clause-belongs : goal.returns-clause-belongs
returns-clause-belongs g c =
    let on = c.year_month_day-year.ensures.on in
    record { year = c.year_month_day-year.ensures.year; date = on.date; valid = subst IsValidDay (sym on.day) c.requires }
