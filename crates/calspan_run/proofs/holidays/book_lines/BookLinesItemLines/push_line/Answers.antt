use Rattle.std.proofs.Common.{ℤ, subst}
use Rattle.cal_base.specs.IsoSystem.{iso_list, iso_system}
use Rattle.cal_holidays.specs.Books.{named_rules}
use Rattle.cal_types.specs.CalendarList.{IsOn}
use Rattle.calspan_run.proofs.HolidayLineLemmas.{pushed_holiday}
use Rattle.calspan_run.proofs.holidays.book_lines.BookLinesItemLines.push_line.Goals as goal

pub returns : goal.returns
returns c =
    let shown = c.show_in.ensures in
    pushed_holiday (named_rules c.args.self.now.book.now) c.args.item.day c.args.item.rule shown.date _ _ _ _ _
    (subst (λ (n : ℤ). IsOn iso_list n shown.date) c.unnamed-parts.ensures shown.on)
    (c.push_date.ensures.items iso_system shown.date shown.parts) c.push.ensures.items c.push_name.ensures.items c.push-2.ensures.items
