use Rattle.std.proofs.Common.{◌≡◌, ◌∙◌, sym}
use Rattle.cal_rrule.specs.Periods.{IsNamedInYear}
use Rattle.cal_rrule.proofs.WordLemmas.{held-from, held-to, named-high, named-low, span-from, span-to}
use Rattle.cal_rrule.proofs.YearDayLemmas.{kept-all, kept-row, named-within}
use Rattle.cal_rrule.proofs.year_days.days_of_year.Goals as goal

pub returns-clause-exact : goal.returns-clause-exact
returns-clause-exact g c = λ t is.
    let list = (g.C.Calendar.system c.args.calendar.now).list in
    let law = g.met.C.Calendar.lawful c.args.calendar.now in
    let a = c.args.asked.now in
    let year = c.args.year.now in
    let span = c.span_of_year-span.result in
    let from : c.new.result ≡ span.from = c.new.ensures ∙ span-from span.from span.to span.low span.order span.high in
    let to : c.new-2.result ≡ span.to = c.new-2.ensures ∙ span-to span.from span.to span.low span.order span.high in
    let begins = c.span_of_year-span.ensures.from in
    let ends = c.span_of_year-span.ensures.to in
    kept-all c.named_in_year-days.result c.keep_days.new.self span.from span.to (IsNamedInYear list a.rule t year.year)
    (c.named_in_year-days.ensures t is) c.keep_days.ensures.first span.few
    (λ n p.
    let reach = named-within list law a.rule a.missing c.requires.missing t year.year n p in
    (named-low span.from year.first _ n begins c.requires.year.is_start reach.0, named-high span.to year.first _ n year.days _ ends c.requires.year.is_start c.requires.year.is_whole reach.1))
    (rw (from, to) at c.keep_days.ensures.days)

pub returns-clause-within : goal.returns-clause-within
returns-clause-within g c = λ t is.
    let list = (g.C.Calendar.system c.args.calendar.now).list in
    let law = g.met.C.Calendar.lawful c.args.calendar.now in
    let a = c.args.asked.now in
    let year = c.args.year.now in
    let span = c.span_of_year-span.result in
    let begins = c.span_of_year-span.ensures.from in
    let ends = c.span_of_year-span.ensures.to in
    kept-row c.named_in_year-days.result c.keep_days.new.self span.from span.to (IsNamedInYear list a.rule t year.year)
    (c.named_in_year-days.ensures t is) c.keep_days.ensures.first span.few
    (λ n p.
    let reach = named-within list law a.rule a.missing c.requires.missing t year.year n p in
    (named-low span.from year.first _ n begins c.requires.year.is_start reach.0, named-high span.to year.first _ n year.days _ ends c.requires.year.is_start c.requires.year.is_whole reach.1))

pub returns-clause-row : goal.returns-clause-row
returns-clause-row g c = λ n has.
    rw (sym c.keep_days.ensures.first) at (c.keep_days.ensures.row n has)

pub new-requires : goal.new-requires
new-requires g c = let span = c.span_of_year-span.result in held-from span.from span.to span.low span.order span.high

pub new-requires-2 : goal.new-requires-2
new-requires-2 g c = let span = c.span_of_year-span.result in held-to span.from span.to span.low span.order span.high
