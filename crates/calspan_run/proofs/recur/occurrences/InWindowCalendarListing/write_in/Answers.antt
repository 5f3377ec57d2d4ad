use Rattle.std.proofs.Common.{ℤ, false, refl, ap, ◌∙◌}
use Rattle.cal_types.specs.CalendarSystem.{resolve_fields}
use Rattle.cal_recur.specs.Listing.{GoesOn, occurrences, occurrences_left}
use Rattle.cal_recur.proofs.IteratorLemmas.{YieldsList-from_more}
use Rattle.cal_tables.specs.Kinds.{kind_system, table_contents}
use Rattle.command_line.specs.CommandSaid.{recur_said}
use Rattle.calspan_run.specs.DayLines.{IsListEnd, occurrence_line}
use Rattle.calspan_run.specs.Recurrences.{no_options, occurrence_lines}
use Rattle.calspan_run.specs.TextSoFar.{lines_text}
use Rattle.calspan_run.specs.declared.status.Status.TheVariants.{Done}
use Rattle.calspan_run.proofs.ListYieldLemmas.{occurrence_left-valid}
use Rattle.calspan_run.proofs.WriterLemmas.{ended_err}
use Rattle.calspan_run.proofs.WritingLemmas.{occurrences_listed}
use Rattle.calspan_run.proofs.recur.occurrences.InWindowCalendarListing.write_in.Goals as goal

pub write_lines-requires-clause-shown : goal.write_lines-requires-clause-shown
write_lines-requires-clause-shown g c s t x step =
    occurrence_left-valid (g.C.Calendar.system s.calendar) (g.C.Calendar.date_of s.calendar s.start) s.rule s.rest x
    (occurrences_left (g.C.Calendar.system t.calendar) (g.C.Calendar.date_of t.calendar t.start) t.rule t.rest) step.0

pub returns-in_err-write_lines-clause-listed : goal.returns-in_err-write_lines-clause-listed
returns-in_err-write_lines-clause-listed g c =
    let self = c.args.self.now in
    let s = g.C.Calendar.system c.args.calendar in
    let shown = kind_system (table_contents c.args.tables.now) self.words.header.shown in
    let a = recur_said self.words in
    let start = g.C.Calendar.date_of c.args.calendar c.in-Ok.start in
    let all = occurrences s start self.rule a.header.first a.header.last in
    let list = c.recur-items.ensures.items
    ∙ (ap (λ (n : ℤ). occurrences s start self.rule n self.window.last) self.first ∙ ap (λ (n : ℤ). occurrences s start self.rule a.header.first n) self.last) in
    let yields = (YieldsList-from_more (λ i. occurrences_left (g.C.Calendar.system i.calendar) (g.C.Calendar.date_of i.calendar i.start) i.rule i.rest)
    (λ i r t. GoesOn i.calendar t.calendar i.start t.start i.rule t.rule i.rest r t.rest) all list).runs in
    ended_err c.from_residual.result _ _ (IsListEnd (occurrence_lines s shown a self.rule (resolve_fields s a.start no_options))) (lines_text (occurrence_line s shown) all) Done c.from_residual.ensures.0
    (false, occurrences_listed s shown a self.rule (resolve_fields s a.start no_options) start c.in-Ok.ensures.resolved, refl) (c.in_err-write_lines.ensures.wrote all yields)

pub returns-clause-listed : goal.returns-clause-listed
returns-clause-listed g c =
    let self = c.args.self.now in
    let s = g.C.Calendar.system c.args.calendar in
    let shown = kind_system (table_contents c.args.tables.now) self.words.header.shown in
    let a = recur_said self.words in
    let start = g.C.Calendar.date_of c.args.calendar c.in-Ok.start in
    let all = occurrences s start self.rule a.header.first a.header.last in
    let list = c.recur-items.ensures.items
    ∙ (ap (λ (n : ℤ). occurrences s start self.rule n self.window.last) self.first ∙ ap (λ (n : ℤ). occurrences s start self.rule a.header.first n) self.last) in
    let yields = (YieldsList-from_more (λ i. occurrences_left (g.C.Calendar.system i.calendar) (g.C.Calendar.date_of i.calendar i.start) i.rule i.rest)
    (λ i r t. GoesOn i.calendar t.calendar i.start t.start i.rule t.rule i.rest r t.rest) all list).runs in
    (lines_text (occurrence_line s shown) all, (false, occurrences_listed s shown a self.rule (resolve_fields s a.start no_options) start c.in-Ok.ensures.resolved, refl), c.in_ok-write_lines.ensures.wrote all yields)
