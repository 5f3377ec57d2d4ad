use Rattle.std.proofs.Common.{◌≡◌, ◌∙◌, min, sym, ap, subst, arith}
use mathlib.Core.Bool.{true≢false}
use Rattle.cal_types.specs.Month.{MonthParts}
use Rattle.cal_types.specs.MonthParts.{month_parts}
use Rattle.cal_rrule.specs.YearMonths.{SaysMonthOf}
use Rattle.cal_rrule.proofs.NamedMonthLemmas.{lacking-none, lacking-some}
use Rattle.cal_rrule.proofs.YearMonthLemmas.{leap_of}
use Rattle.cal_rrule.proofs.named_months.names_lacking.Goals as goal

pub returns-then-is_leap-is_followed : goal.returns-then-is_leap-is_followed
returns-then-is_leap-is_followed c = λ list law one two joins.
    let a = c.args.asked.now in
    let start = month_parts a.month.month in
    let follows = c.is_followed.ensures list law one two joins in
    let same = ap leap_of c.number-number.ensures.value in (
      λ h. absurd (true≢false (sym h)),
      λ p. absurd (lacking-none list law a.rule start c.args.look.now c.args.next.now one two joins
          c.is_leap.result c.is_followed.result c.is_leap.ensures
          (λ h. let q = follows.0 h in (q.0, q.1 ∙ same), λ q. follows.1 (q.0, q.1 ∙ sym same))
          c.if-is_leap-is_followed.true p),
    )

pub returns : goal.returns
returns c = λ list law one two joins.
    let a = c.args.asked.now in
    let start = month_parts a.month.month in
    let follows = c.is_followed.ensures list law one two joins in
    let same = ap leap_of c.number-number.ensures.value in
    let small : min c.number-number.result 99 ≡ c.number-number.result = omega (arith, c.number-number.ensures.bound) in
    let leap : month_parts c.leap.result ≡ leap_of (month_parts c.args.look.now.month).number =
    c.leap.ensures ∙ ap leap_of small ∙ same in
    let lacks = lacking-some list law a.rule start c.args.look.now c.args.next.now one two joins
    c.is_leap.result c.is_followed.result c.is_leap.ensures
    (λ h. let q = follows.0 h in (q.0, q.1 ∙ same), λ q. follows.1 (q.0, q.1 ∙ sym same))
    c.if-is_leap-is_followed.false in (
      λ h. lacks.0 (subst (λ (m : MonthParts). SaysMonthOf a.rule start m) leap (c.says_month.ensures.0 h)),
      λ p. c.says_month.ensures.1 (subst (λ (m : MonthParts). SaysMonthOf a.rule start m) (sym leap) (lacks.1 p)),
    )
