use Rattle.std.proofs.Common.{◌≡◌, ◌⊎◌, ◌∙◌, Some, ap, subst, arith, ℤ}
use Rattle.cal_days.proofs.Signed.{signed}
use Rattle.recurrence_sets.specs.Bounds.{later}
use Rattle.recurrence_sets.proofs.ListingLemmas.{within-of}
use Rattle.recurrence_sets.proofs.bounds.Bounds.days_within.Goals as goal

pub returns : goal.returns
returns c =
    let b = c.args.self.now in
    let end = c.earlier-end.result in
    within-of b c.args.window c.later-start.result end
    (c.later-start.ensures ∙ ap (λ (n : ℤ). later n b.start) c.ends-first.ensures.first)
    (omega (arith, signed, c.earlier-end.ensures.first, c.ends-first.ensures.last))
    c.earlier-end.ensures.second
    (subst (λ (n : ℤ). (end ≡ n) ⊎ (b.until ≡ Some end)) c.ends-first.ensures.last c.earlier-end.ensures.either)
    c.try_new.result c.try_new.ensures.exact c.try_new.ensures.days
