use Rattle.std.proofs.Common.{◌≡◌, pos, ◌+ℤ◌, ◌-ℤ◌, ◌∙◌, sym}
use Rattle.cal_rrule.specs.Looks.{look_stretch}
use Rattle.cal_rrule.specs.Periods.{IsNamedInMonth}
use Rattle.cal_rrule.specs.Stretches.{end_of}
use Rattle.cal_rrule.proofs.DailyBlockLemmas.{kept-marks}
use Rattle.cal_rrule.proofs.MonthBlockLemmas.{month-set}
use Rattle.cal_rrule.proofs.MonthDayLemmas.{monthly-months}
use Rattle.cal_rrule.proofs.WordLemmas.{before-word, end-next-word, held-before, held-behind, month-short}
use Rattle.cal_rrule.proofs.monthly.days_of_period.Goals as goal

pub named_in_month-days-requires-clause-counts : goal.named_in_month-days-requires-clause-counts
named_in_month-days-requires-clause-counts g c = monthly-months c.args.asked.now.rule c.requires.monthly

pub returns : goal.returns
returns g c = λ t k same after.
    let list = (g.C.Calendar.system c.args.calendar.now).list in
    let a = c.args.asked.now in
    let look = c.args.look.now in
    let first : c.new.result ≡ look.first -ℤ pos 1 = c.new.ensures ∙ before-word look.first look.near in
    let to : c.new-2.result ≡ end_of (look_stretch look) +ℤ pos 1 =
    c.new-2.ensures ∙ end-next-word c.end.result look.first look.days c.end.ensures look.near (month-short look.days look.short) in
    let kept = rw (first, to) at c.keep_days.ensures.days in
    let marks = kept-marks c.named_in_month-days.result c.keep_days.new.self (look.first -ℤ pos 1) (end_of (look_stretch look) +ℤ pos 1)
    (IsNamedInMonth list a.rule t (look.year, look.place)) (c.named_in_month-days.ensures t same) c.keep_days.ensures.first kept in
    month-set list a.rule t k look a.missing c.keep_days.new.self c.requires.look c.requires.missing c.requires.monthly look.short after marks
    (λ n has. rw (sym c.keep_days.ensures.first) at (c.keep_days.ensures.row n has))

pub new-requires : goal.new-requires
new-requires g c = held-before c.args.look.now.first c.args.look.now.near

pub new-requires-2 : goal.new-requires-2
new-requires-2 g c =
    let look = c.args.look.now in
    held-behind c.end.result look.first look.days c.end.ensures look.near (month-short look.days look.short)
