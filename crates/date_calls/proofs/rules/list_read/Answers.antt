use Rattle.std.proofs.Common.{refl, sym, subst₂}
use Rattle.cal_rrule.specs.Occurrences.{AreOccurrences}
use Rattle.cal_tables.specs.Kinds.{kind_system, table_contents}
use Rattle.date_calls.specs.Rules.{IsRuleListed}
use Rattle.date_calls.proofs.rules.list_read.Goals as goal

pub returns-in-Ok : goal.returns-in-Ok
returns-in-Ok c =
    let list = (kind_system (table_contents c.args.tables) c.args.kind).list in
    let w = c.args.window in
    let read = c.in-Ok.ensures.read in
    let listed = c.list_chosen-listed.ensures in
    let told = c.tell_list.ensures in
    rw read.faultless (record {
      rule = c.in-Ok.rule;
      read = read;
      date = listed.date;
      on = listed.on;
      done = told.0;
      are = subst₂ (λ written next. IsRuleListed (AreOccurrences list c.in-Ok.rule listed.date) w.first w.last c.args.items.now c.list_chosen-listed.new.items written next) (sym told.1) (sym told.2) listed.are;
      fault_stands = refl;
    })
