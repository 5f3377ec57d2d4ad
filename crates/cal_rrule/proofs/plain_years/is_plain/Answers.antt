use Rattle.std.proofs.Common.{◌≡◌, ◌↔◌, IsTrue, subst}
use Rattle.cal_rule.specs.declared.skip.Skip.{Skip}
use Rattle.cal_rule.specs.declared.skip.Skip.TheVariants.{Omit}
use Rattle.cal_rrule.proofs.PlainYearLemmas.{plain-by}
use Rattle.cal_rrule.proofs.plain_years.is_plain.Goals as goal

pub returns : goal.returns
returns c =
    let a = c.args.asked.now in
    let omit = subst (λ (s : Skip). IsTrue c.is_omit.result ↔ (s ≡ Omit)) c.skip.ensures c.is_omit.ensures in
    plain-by a.rule a.missing c.days.result c.is_omit.result c.requires (c.days.ensures a.rule c.requires) omit
