use Rattle.std.proofs.Common.{ℤ, subst}
use Rattle.cal_types.specs.CalendarList.{IsOn}
use Rattle.cal_tables.specs.Kinds.{kind_system, table_contents}
use Rattle.cal_tables.proofs.KindLemmas.{kind_lawful}
use Rattle.calspan_run.proofs.ConvertAnswerLemmas.{shown_pushed}
use Rattle.calspan_run.proofs.convert.answers.push_day_answer.Goals as goal

pub returns-in-Ok : goal.returns-in-Ok
returns-in-Ok c =
    let tables = table_contents c.args.tables.now in
    let s = kind_system tables c.args.shown in
    let b = c.show_day.ensures in
    shown_pushed s (kind_lawful tables c.args.shown) c.args.day c.in-Ok.day b.date _ _ c.in-Ok.is (subst (λ (n : ℤ). IsOn s.list n b.date) c.unnamed-parts.ensures b.on) (c.push_shown.ensures s b.date b.parts)
