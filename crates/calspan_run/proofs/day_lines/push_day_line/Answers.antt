use Rattle.std.proofs.Common.{ℤ, subst}
use Rattle.cal_types.specs.CalendarList.{IsOn}
use Rattle.cal_tables.specs.Kinds.{kind_system, table_contents}
use Rattle.cal_tables.proofs.KindLemmas.{kind_lawful}
use Rattle.calspan_run.proofs.DayLineLemmas.{pushed_line}
use Rattle.calspan_run.proofs.day_lines.push_day_line.Goals as goal

pub returns : goal.returns
returns g c =
    let form = c.args.form.now in
    let s = g.C.Calendar.system form.calendar in
    let shown = kind_system (table_contents form.tables) form.shown in
    let a = c.show_in.ensures in
    let b = c.show_day.ensures in
    pushed_line s shown (g.met.C.Calendar.lawful form.calendar) (kind_lawful (table_contents form.tables) form.shown) c.args.day a.date b.date _ _ _
    (subst (λ (n : ℤ). IsOn s.list n a.date) c.unnamed-parts.ensures a.on)
    (subst (λ (n : ℤ). IsOn shown.list n b.date) c.unnamed-shown.ensures b.on)
    (c.push_day.ensures.items s shown a.date b.date a.parts b.parts)
    c.push.ensures.items
