use Rattle.std.proofs.Common.{pos, sym, subst}
use Rattle.cal_days.specs.Day.{IsValidDay}
use Rattle.cal_base.specs.laws.OffsetSystemLaws.{kept-dated}
use Rattle.icu_calendar.proofs.weeks.Date+Iso.week_of_year.Goals as goal

pub week_of-requires : goal.week_of-requires
week_of-requires c =
    let dated = kept-dated (pos 0) c.args.self.now.inner.0.parts c.args.self.now.belongs in
    subst IsValidDay (sym c.to_rata_die.ensures) dated.valid
