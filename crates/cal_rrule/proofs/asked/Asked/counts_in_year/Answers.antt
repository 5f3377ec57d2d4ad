use Rattle.std.proofs.Common.{◌≡◌, ◌↔◌, IsTrue, subst}
use Rattle.cal_rule.specs.declared.frequency.Frequency.{Frequency}
use Rattle.cal_rule.specs.declared.frequency.Frequency.TheVariants.{Yearly}
use Rattle.cal_rrule.proofs.AskingLemmas.{counts-years}
use Rattle.cal_rrule.proofs.asked.Asked.counts_in_year.Goals as goal

pub returns : goal.returns
returns c =
    let a = c.args.self.now in
    counts-years a.rule a.missing c.is_yearly.result c.requires
    (subst (λ (f : Frequency). IsTrue c.is_yearly.result ↔ (f ≡ Yearly)) c.frequency.ensures c.is_yearly.ensures)
