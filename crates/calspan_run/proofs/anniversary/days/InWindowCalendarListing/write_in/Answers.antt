use Rattle.std.proofs.Common.{ℤ, false, refl, ap, ◌∙◌}
use Rattle.cal_anniversary.specs.Listing.{GoesOn, days_left}
use Rattle.cal_types.specs.Anniversary.{anniversaries_between}
use Rattle.cal_recur.proofs.IteratorLemmas.{YieldsList-from_more}
use Rattle.cal_tables.specs.Kinds.{kind_system, table_contents}
use Rattle.calspan_run.specs.Anniversaries.{anniversaries_in}
use Rattle.command_line.specs.CommandSaid.{anniversary_said}
use Rattle.calspan_run.specs.DayLines.{IsListEnd, day_line}
use Rattle.calspan_run.specs.TextSoFar.{lines_text}
use Rattle.calspan_run.specs.declared.status.Status.TheVariants.{Done}
use Rattle.calspan_run.proofs.ListYieldLemmas.{day_left-valid}
use Rattle.calspan_run.proofs.WriterLemmas.{ended_err}
use Rattle.calspan_run.proofs.WritingLemmas.{lines_listed}
use Rattle.calspan_run.proofs.anniversary.days.InWindowCalendarListing.write_in.Goals as goal

pub write_lines-requires-clause-shown : goal.write_lines-requires-clause-shown
write_lines-requires-clause-shown g c s t x step =
    day_left-valid (g.C.Calendar.system s.calendar).list s.asked s.rest x (days_left (g.C.Calendar.system t.calendar).list t.asked t.rest) step.0

pub returns-in_err-write_lines-clause-listed : goal.returns-in_err-write_lines-clause-listed
returns-in_err-write_lines-clause-listed g c =
    let self = c.args.self.now in
    let s = g.C.Calendar.system c.args.calendar in
    let shown = kind_system (table_contents c.args.tables.now) self.words.shown in
    let a = anniversary_said self.words in
    let all = anniversaries_between s.list a.leaping a.month a.day a.first a.last in
    let list = c.in-Ok.ensures.list
    ∙ (ap (λ (n : ℤ). anniversaries_between s.list a.leaping a.month a.day n self.window.last) self.first ∙ ap (λ (n : ℤ). anniversaries_between s.list a.leaping a.month a.day a.first n) self.last) in
    let yields = (YieldsList-from_more (λ i. days_left (g.C.Calendar.system i.calendar).list i.asked i.rest) (λ i r t. GoesOn i.calendar t.calendar i.asked t.asked i.rest r t.rest) all list).runs in
    ended_err c.from_residual.result _ _ (IsListEnd (anniversaries_in s shown a)) (lines_text (day_line s shown) all) Done c.from_residual.ensures.0
    (false, lines_listed _ (lines_text (day_line s shown) all) c.in-Ok.ensures.fault, refl) (c.in_err-write_lines.ensures.wrote all yields)

pub returns-clause-listed : goal.returns-clause-listed
returns-clause-listed g c =
    let self = c.args.self.now in
    let s = g.C.Calendar.system c.args.calendar in
    let shown = kind_system (table_contents c.args.tables.now) self.words.shown in
    let a = anniversary_said self.words in
    let all = anniversaries_between s.list a.leaping a.month a.day a.first a.last in
    let list = c.in-Ok.ensures.list
    ∙ (ap (λ (n : ℤ). anniversaries_between s.list a.leaping a.month a.day n self.window.last) self.first ∙ ap (λ (n : ℤ). anniversaries_between s.list a.leaping a.month a.day a.first n) self.last) in
    let yields = (YieldsList-from_more (λ i. days_left (g.C.Calendar.system i.calendar).list i.asked i.rest) (λ i r t. GoesOn i.calendar t.calendar i.asked t.asked i.rest r t.rest) all list).runs in
    (lines_text (day_line s shown) all, (false, lines_listed _ (lines_text (day_line s shown) all) c.in-Ok.ensures.fault, refl), c.in_ok-write_lines.ensures.wrote all yields)
