use Rattle.std.proofs.Common.{◌≡◌, ◌++◌, ◌∙◌, ℕ, List, [], Err, refl, sym, ap, subst}
use Rattle.cal_rrule.specs.Blocks.{IsOfBlock, start_of}
use Rattle.cal_rrule.specs.Occurrences.{IsKept}
use Rattle.recurrence_sets.specs.Listing.{GoesOn}
use Rattle.recurrence_sets.specs.Occurrences as sets
use Rattle.recurrence_sets.specs.Occurrences.{IsOfSome}
use Rattle.cal_tables.specs.Kinds.{kind_system, table_contents}
use Rattle.reply_texts.specs.DateTexts.{cause_text}
use Rattle.calspan_run.specs.DayLines.{IsListEnd}
use Rattle.calspan_run.specs.Endings.{EndsList}
use Rattle.command_line.specs.RruleSaid.{rrule_said}
use Rattle.calspan_run.specs.RuleLists.{EndsFrom, rule_line}
use Rattle.calspan_run.specs.TextSoFar.{lines_text}
use Rattle.calspan_run.specs.declared.status.Status.TheVariants.{WriteFault}
use Rattle.calspan_run.proofs.RuleListLemmas.{all_listed, none_listed, some_listed}
use Rattle.calspan_run.proofs.RuleYieldLemmas.{given-all, given-none, listing-goes, next-valid, whole-all}
use Rattle.calspan_run.proofs.SameDayLemmas.{occurrences-like, turned}
use Rattle.calspan_run.proofs.WriterLemmas.{ended_err}
use Rattle.calspan_run.proofs.rrule.listing.InWindowCalendarListing.write_in.Goals as goal

pub write_lines-requires-clause-shown : goal.write_lines-requires-clause-shown
write_lines-requires-clause-shown g c s t x step =
    let p = s.periods in
    next-valid (IsOfSome (IsOfBlock (g.C.Calendar.system p.calendar).list p.asked.rule (start_of p.asked))) s.bounds s.rest x t.rest step.0

pub returns-in-Err-clause-listed : goal.returns-in-Err-clause-listed
returns-in-Err-clause-listed g c =
    let self = c.args.self.now in
    let shown = kind_system (table_contents c.args.tables.now) self.words.header.shown in
    let cause = c.in-Err.cause in
    let same : c.deref.result.now ≡ cause_text cause = c.deref.ensures.0 ∙ (c.push_cause.ensures.items ∙ ap (λ t. t ++ cause_text cause) c.new-why.ensures) in
    none_listed (g.C.Calendar.system c.args.calendar) shown (rrule_said self.words) self.rule cause c.in-Err.ensures.fault c.refuse_list.result _ _
    (subst (λ (t : List ℕ). EndsList c.refuse_list.result (g.K.Sink.taken c.args.sink.now) (g.K.Sink.taken c.refuse_list.new.sink) (IsListEnd (Err t))) same c.refuse_list.ensures.listed)

pub returns-in_err-write_lines-clause-listed : goal.returns-in_err-write_lines-clause-listed
returns-in_err-write_lines-clause-listed g c =
    let self = c.args.self.now in
    let s = g.C.Calendar.system c.args.calendar in
    let shown = kind_system (table_contents c.args.tables.now) self.words.header.shown in
    let start = g.C.Calendar.date_of c.args.calendar c.in-Ok.start in
    let items = c.rule_occurrences-items in
    let p = items.result.periods in
    let b = items.result.bounds in
    let Is = IsOfSome (IsOfBlock (g.C.Calendar.system p.calendar).list p.asked.rule (start_of p.asked)) in
    let (xs, drains, wrote) = c.in_err-write_lines.ensures.given in
    let none = given-none Is b self.window items.result.rest items.ensures.rest
    (λ left. occurrences-like (IsOfSome (IsKept s.list self.rule start)) Is b (turned Is (IsOfSome (IsKept s.list self.rule start)) items.ensures.days) self.window.first self.window.last []
    (subst (λ x. sets.AreOccurrences (IsOfSome (IsKept s.list self.rule start)) x self.window.first self.window.last []) (sym items.ensures.bounds) ((items.ensures.items []).0 left))) in
    let given = given-all Is b (λ i. i.rest) (λ i r t. GoesOn (IsOfSome (IsOfBlock (g.C.Calendar.system i.periods.calendar).list i.periods.asked.rule (start_of i.periods.asked))) i.bounds i.rest r t.rest × (t.periods ≡ i.periods) × (t.bounds ≡ i.bounds))
    (λ i. (i.periods ≡ p) × (i.bounds ≡ b)) (listing-goes (λ i. i.periods) (λ i. i.bounds) (λ i. i.rest) (λ p. IsOfSome (IsOfBlock (g.C.Calendar.system p.calendar).list p.asked.rule (start_of p.asked))) p b)
    self.window.first self.window.last items.result drains.0 [] xs (refl, refl) none drains.1 in
    let are = subst (λ x. sets.AreOccurrences (IsOfSome (IsKept s.list self.rule start)) x self.window.first given.day xs) items.ensures.bounds
    (occurrences-like Is (IsOfSome (IsKept s.list self.rule start)) b items.ensures.days self.window.first given.day xs given.are) in
    ended_err c.from_residual.result _ _ (EndsFrom s shown (rrule_said self.words) self.rule) (lines_text (rule_line s shown) xs) WriteFault c.from_residual.ensures.0
    (some_listed s shown (rrule_said self.words) self.rule start c.in-Ok.ensures.date self.window.first self.window.last given.day self.first self.last given.within xs are) wrote

pub returns-clause-listed : goal.returns-clause-listed
returns-clause-listed g c =
    let self = c.args.self.now in
    let s = g.C.Calendar.system c.args.calendar in
    let shown = kind_system (table_contents c.args.tables.now) self.words.header.shown in
    let start = g.C.Calendar.date_of c.args.calendar c.in-Ok.start in
    let items = c.rule_occurrences-items in
    let p = items.result.periods in
    let b = items.result.bounds in
    let Is = IsOfSome (IsOfBlock (g.C.Calendar.system p.calendar).list p.asked.rule (start_of p.asked)) in
    let (xs, drains, wrote) = c.in_ok-write_lines.ensures.given in
    let ended = drains.2 refl in
    let whole = whole-all Is b (λ i. i.rest) (λ i r t. GoesOn (IsOfSome (IsOfBlock (g.C.Calendar.system i.periods.calendar).list i.periods.asked.rule (start_of i.periods.asked))) i.bounds i.rest r t.rest × (t.periods ≡ i.periods) × (t.bounds ≡ i.bounds))
    (λ i. (i.periods ≡ p) × (i.bounds ≡ b)) (listing-goes (λ i. i.periods) (λ i. i.bounds) (λ i. i.rest) (λ p. IsOfSome (IsOfBlock (g.C.Calendar.system p.calendar).list p.asked.rule (start_of p.asked))) p b)
    items.result drains.0 ended.0 xs (refl, refl) drains.1 ended.1 in
    (lines_text (rule_line s shown) xs, all_listed s shown (rrule_said self.words) self.rule start c.in-Ok.ensures.date self.window.first self.window.last self.first self.last xs ((items.ensures.items xs).0 whole), wrote)
