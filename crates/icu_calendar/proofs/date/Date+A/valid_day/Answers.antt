use Rattle.std.proofs.Common.{subst, sym, ℤ}
use Rattle.cal_days.specs.Day.{IsValidDay}
use Rattle.icu_calendar.proofs.date.Date+A.valid_day.Goals as goal

pub returns-clause-valid : goal.returns-clause-valid
returns-clause-valid g c =
    let self = c.args.self.now in
    let dated = g.met.A.Calendar.Calendar.dated (g.A.AsCalendar.cal_of self.calendar) self.inner self.belongs in
    subst (λ (n : ℤ). IsValidDay n) (sym c.to_rata_die.ensures) dated.valid
