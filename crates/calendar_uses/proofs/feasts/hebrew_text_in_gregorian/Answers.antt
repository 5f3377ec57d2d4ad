use Rattle.std.proofs.Common.{◌≡◌, Some, ◌∙◌}
use Rattle.icu_calendar.specs.HebrewSystem.{hebrew_date, hebrew_system}
use Rattle.icu_calendar.specs.declared.CalendarAlgorithm.TheVariants.{Hebrew}
use Rattle.calendar_uses.proofs.FeastLemmas.{shown-day}
use Rattle.calendar_uses.proofs.feasts.hebrew_text_in_gregorian.Goals as goal

pub returns-in-Ok : goal.returns-in-Ok
returns-in-Ok c iso name text =
    let read = c.in-Ok.ensures.read.read iso name text in
    c.to_calendar.ensures.on.day ∙ shown-day hebrew_system.list (Some Hebrew) iso name (hebrew_date c.in-Ok.date.inner) read
