use Rattle.std.proofs.Common.{◌∙◌, sym, eqb, ltb}
use Rattle.std.proofs.lemmas.Bool.Decides.{Decides-eqb, Decides-ltb}
use Rattle.cal_types.specs.MonthParts.{month_parts}
use Rattle.cal_rrule.proofs.NamedMonthLemmas.{same-year}
use Rattle.cal_rrule.proofs.YearMonthLemmas.{leap-test}
use Rattle.cal_rrule.proofs.named_months.is_followed.Goals as goal

pub returns : goal.returns
returns c = λ list law one two joins.
    let look = c.args.look.now in
    let next = c.args.next.now in
    let test = ltb look.place next.place in
    let number = Decides-eqb c.number.result c.args.number in
    leap-test next.year look.year (month_parts next.month) c.args.number test c.is_leap.result
    (eqb c.number.result c.args.number)
    (same-year list law look next one two joins test (Decides-ltb look.place next.place))
    c.is_leap.ensures
    (λ h. sym c.number.ensures.value ∙ number.0 h, λ e. number.1 (c.number.ensures.value ∙ e))
