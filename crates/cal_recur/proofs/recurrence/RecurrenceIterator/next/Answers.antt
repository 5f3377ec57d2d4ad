use Rattle.std.proofs.Common.{refl, Option, Some, sym, subst, ap, ◌∙◌}
use Rattle.cal_types.specs.declared.window.Window.{Window}
use Rattle.cal_recur.specs.Listing.{IsRestAfter, occurrences_left}
use Rattle.cal_recur.proofs.ListingLemmas.{first-before-left, occurrences-left, occurrences-none, progress}
use Rattle.cal_recur.proofs.recurrence.RecurrenceIterator.next.Goals as goal

pub returns-in-None-clause-steps : goal.returns-in-None-clause-steps
returns-in-None-clause-steps g c =
    let self = c.args.self.now in
    let s = g.C.Calendar.system self.calendar in
    let t = g.C.Calendar.date_of self.calendar self.start in
    let w = c.in_ok-window.window in
    ((ap (occurrences_left s t self.rule) c.in_ok-window.was ∙ occurrences-none s t self.rule w.first w.last c.in-None.ensures.first, refl), record { calendar = refl; start = refl; rule = refl; left_is = refl })

pub returns-in-Some-clause-steps : goal.returns-in-Some-clause-steps
returns-in-Some-clause-steps g c =
    let self = c.args.self.now in
    let s = g.C.Calendar.system self.calendar in
    let t = g.C.Calendar.date_of self.calendar self.start in
    let law = g.met.C.Calendar.lawful self.calendar in
    let dated = g.met.C.Calendar.dated self.calendar self.start self.belongs in
    let w = c.in_ok-window.window in (
      ap (occurrences_left s t self.rule) c.in_ok-window.was
          ∙ occurrences-left s law t dated (g.met.C.Calendar.shifted self.calendar t dated) self.rule w.first w.last c.in-Some.item c.in-Some.ensures.first c.after-self.result c.after-self.ensures,
      record {
        calendar = refl;
        start = refl;
        rule = refl;
        left_is = subst (λ (o : Option Window). IsRestAfter o (Some c.in-Some.item) c.after-self.result) (sym c.in_ok-window.was) c.after-self.ensures;
      },
    )

pub returns-in-Some-clause-goes : goal.returns-in-Some-clause-goes
returns-in-Some-clause-goes g c =
    let self = c.args.self.now in
    let s = g.C.Calendar.system self.calendar in
    let t = g.C.Calendar.date_of self.calendar self.start in
    let law = g.met.C.Calendar.lawful self.calendar in
    let dated = g.met.C.Calendar.dated self.calendar self.start self.belongs in
    let w = c.in_ok-window.window in
    progress _ _ _ c.in-Some.item (ap (occurrences_left s t self.rule) c.in_ok-window.was
    ∙ occurrences-left s law t dated (g.met.C.Calendar.shifted self.calendar t dated) self.rule w.first w.last c.in-Some.item c.in-Some.ensures.first c.after-self.result c.after-self.ensures)

pub invariant_of-self-in-Some : goal.invariant_of-self-in-Some
invariant_of-self-in-Some g c =
    let self = c.args.self.now in
    let s = g.C.Calendar.system self.calendar in
    let t = g.C.Calendar.date_of self.calendar self.start in
    let law = g.met.C.Calendar.lawful self.calendar in
    let dated = g.met.C.Calendar.dated self.calendar self.start self.belongs in
    let w = c.in_ok-window.window in
    record {
      belongs = self.belongs;
      before = first-before-left s law t dated (g.met.C.Calendar.shifted self.calendar t dated) self.rule w.first w.last c.in-Some.item c.in-Some.ensures.first c.after-self.result c.after-self.ensures;
    }
