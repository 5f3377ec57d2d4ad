use Rattle.cal_any.proofs.any_calendar.AnyCalendarCalendar.until.Given as goal

-- the counter's own name and share
abbrev pub ghosts-until_with_blank : goal.ghosts-until_with_blank
ghosts-until_with_blank a = record { name = a.blank.name; parts = a.blank.parts }
