use Rattle.std.proofs.Common.{◌≡◌, ◌⊎◌, ◌&&◌, ◌||◌, ◌↔◌, IsTrue, subst}
use Rattle.cal_types.specs.MonthParts.{month_parts}
use Rattle.cal_rule.specs.declared.skip.Skip.{Skip}
use Rattle.cal_rule.specs.declared.skip.Skip.TheVariants.{Backward, Forward}
use Rattle.cal_rrule.specs.Looks.{IsNamedInYearMonth, look_stretch}
use Rattle.cal_rrule.specs.YearMonths.{IsNamedByMonth}
use Rattle.cal_rrule.proofs.MaskLemmas.{adds-as, adds-then}
use Rattle.cal_rrule.proofs.NamedMonthLemmas.{by-month}
use Rattle.cal_rrule.proofs.named_months.add_by_month.Goals as goal

pub returns : goal.returns
returns c = λ list law one two joins.
    let a = c.args.asked.now in
    let look = c.args.look.now in
    let next = c.args.next.now in
    let start = month_parts a.month.month in
    let itself = c.is_named.result in
    let lacking = c.names_lacking-lacking.result in
    let back = c.is_backward.result in
    let forth = c.is_forward.result in
    let backward = subst (λ (s : Skip). IsTrue back ↔ (s ≡ Backward)) c.skip-skip.ensures c.is_backward.ensures in
    let forward = subst (λ (s : Skip). IsTrue forth ↔ (s ≡ Forward)) c.skip-skip.ensures c.is_forward.ensures in
    adds-as c.args.days.now c.add_if-2.new.days
    (λ n. (IsTrue (itself || (lacking && back)) × IsNamedInYearMonth a.rule a.day_of_month (look_stretch look) n)
    ⊎ (IsTrue (lacking && forth) × IsNamedInYearMonth a.rule a.day_of_month (look_stretch next) n))
    (IsNamedByMonth list a.rule start a.day_of_month look.year look.place)
    (adds-then c.args.days.now c.add_if.new.days c.add_if-2.new.days
    (λ n. IsTrue (itself || (lacking && back)) × IsNamedInYearMonth a.rule a.day_of_month (look_stretch look) n)
    (λ n. IsTrue (lacking && forth) × IsNamedInYearMonth a.rule a.day_of_month (look_stretch next) n)
    c.add_if.ensures c.add_if-2.ensures)
    (by-month list law a.rule start look next one two joins a.day_of_month itself lacking back forth
    c.is_named.ensures (c.names_lacking-lacking.ensures list law one two joins) backward forward)
