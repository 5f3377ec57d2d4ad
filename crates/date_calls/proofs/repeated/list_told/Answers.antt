use Rattle.std.proofs.Common.{refl, sym, subst₂}
use Rattle.date_calls.specs.Calendars.{choice_system}
use Rattle.date_calls.specs.Lists.{IsListed}
use Rattle.date_calls.specs.Recurrences.{occurrences_told}
use Rattle.date_calls.proofs.repeated.list_told.Goals as goal

pub returns : goal.returns
returns c =
    let asked = c.args.asked.now in
    let listed = c.list_chosen-listed.ensures in
    let told = c.tell_list.ensures in
    let items = occurrences_told (choice_system c.args.chosen.now) listed.date asked.rule in
    record {
      date = listed.date;
      on = listed.on;
      rule = asked.rule;
      is = refl;
      told = record {
        done = told.0;
        listed = subst₂ (λ written next. IsListed items asked.window.first asked.window.last c.args.items.now c.list_chosen-listed.new.items written next) (sym told.1) (sym told.2) listed.are;
      };
    }
