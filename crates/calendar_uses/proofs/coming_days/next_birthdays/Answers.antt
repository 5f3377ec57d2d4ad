use Rattle.std.proofs.Common.{◌∙◌, ap}
use Rattle.std.proofs.lemmas.Iterator.{YieldsList-from_take, items_from_collect}
use Rattle.std.proofs.lemmas.Iterator.Consumers.{YieldsList-at}
use Rattle.icu_calendar.specs.Anniversary.{anniversaries_between}
use Rattle.icu_calendar.specs.HebrewList.{hebrew_list}
use Rattle.icu_calendar.specs.Listing.{GoesOn, days_left}
use Rattle.icu_calendar.specs.Month.{MonthParts}
use Rattle.icu_calendar.specs.declared.Leaping.TheVariants.{Constrain}
use Rattle.calendar_uses.specs.ComingDays.{birthdays_in_adar}
use Rattle.calendar_uses.proofs.ComingLemmas.{gives_left, no_fault}
use Rattle.calendar_uses.proofs.coming_days.next_birthdays.Goals as goal

pub returns : goal.returns
returns c =
    let all = birthdays_in_adar c.args.day c.args.window.first c.args.window.last in
    let month = ap (λ (m : MonthParts). anniversaries_between hebrew_list Constrain m c.args.day c.args.window.first c.args.window.last) c.leap.ensures in
    items_from_collect _ c.collect.ensures.ran (YieldsList-from_take 3
    (YieldsList-at c.take.ensures.source (gives_left (λ a. days_left hebrew_list a.asked a.rest)
    (λ s r t. GoesOn s.calendar t.calendar s.asked t.asked s.rest r t.rest) all (c.in-Ok.ensures.list ∙ month))) c.take.ensures.count)

pub unreachable-requires : goal.unreachable-requires
unreachable-requires c = no_fault _ _ c.args.day c.leap.ensures c.requires.from_1 c.requires.to_31 c.in-Err.ensures.fault
