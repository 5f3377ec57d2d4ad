use Rattle.icu_calendar.proofs.rules.Date+A.rrule.Goals as goal

pub returns-clause-days : goal.returns-clause-days
returns-clause-days g c = rw (c.calendar.ensures, c.inner.ensures) at c.rule_occurrences.ensures.days

pub returns-clause-counts : goal.returns-clause-counts
returns-clause-counts g c = rw (c.calendar.ensures, c.inner.ensures) at c.rule_occurrences.ensures.counts
