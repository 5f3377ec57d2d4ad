use Rattle.cal_hijri.proofs.LengtheningLemmas.{keeps-years}
use Rattle.cal_hijri.specs.HijriSystem.{kept_date}
use Rattle.icu_calendar.proofs.laws.hijri_date_kept.Goals as goal

pub returns-clause-stays : goal.returns-clause-stays
returns-clause-stays g c lengthens free =
    let old = c.args.date.now.calendar.0.table in
    c.rebased_in_hijri.ensures.stays (keeps-years old.rows.now c.args.calendar.0.table.rows.now old.accepted lengthens (kept_date c.args.date.now.inner.0.parts).year free)
