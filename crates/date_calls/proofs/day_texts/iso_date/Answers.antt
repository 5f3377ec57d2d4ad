use Rattle.std.proofs.Common.{sym, subst, pos, neg_ℤ}
use Rattle.cal_days.specs.Day.{IsBetween}
use Rattle.date_calls.proofs.DayTextLemmas.{iso_year}
use Rattle.date_calls.proofs.day_texts.iso_date.Goals as goal

pub returns-clause-year : goal.returns-clause-year
returns-clause-year c =
    let shown = c.ask.ensures in
    subst (IsBetween (neg_ℤ (pos 999999)) (pos 999999)) (sym shown.says.extended_year) (iso_year c.args.day.day shown.date shown.on c.args.day.valid)
