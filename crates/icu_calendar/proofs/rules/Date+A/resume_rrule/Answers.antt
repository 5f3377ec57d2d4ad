use Rattle.icu_calendar.proofs.rules.Date+A.resume_rrule.Goals as goal

pub returns-clause-days : goal.returns-clause-days
returns-clause-days g c = rw (c.calendar.ensures, c.inner.ensures) at c.resume_occurrences.ensures.days

pub returns-clause-counts : goal.returns-clause-counts
returns-clause-counts g c = rw (c.calendar.ensures, c.inner.ensures) at c.resume_occurrences.ensures.counts

pub resume_occurrences-requires-clause-counted : goal.resume_occurrences-requires-clause-counted
resume_occurrences-requires-clause-counted g c = rw (c.calendar.ensures, c.inner.ensures) c.requires
