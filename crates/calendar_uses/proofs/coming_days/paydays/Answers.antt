use Rattle.std.proofs.Common.{sym, lit<}
use Rattle.icu_calendar.specs.declared.DateDurationUnit.TheVariants.{Months}
use Rattle.icu_calendar.specs.declared.Missing.TheVariants.{Constrain}
use Rattle.calendar_uses.proofs.ComingLemmas.{collected, rule_made}
use Rattle.calendar_uses.proofs.coming_days.paydays.Goals as goal

pub returns : goal.returns
returns c =
    let made = c.in-Some.ensures in
    let rule = rule_made c.in-Some.monthly Months 1 Constrain (lit< tt) made.unit made.every made.missing in
    collected _ _ _ c.recur.result c.collect.result c.collect.ensures.ran c.recur.ensures.items
    (λ days given. let listed = rw (sym given, rule) at c.recur.ensures.meant in record { rising = listed.rising; exact = listed.exact })
