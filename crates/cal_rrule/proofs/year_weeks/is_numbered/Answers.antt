use Rattle.std.proofs.lemmas.Bool.Decides.{Decides-or}
use Rattle.cal_rrule.proofs.year_weeks.is_numbered.Goals as goal

pub returns : goal.returns
returns c =
    rw (c.contains.ensures, c.contains-2.ensures) (Decides-or _ _ (λ x. x, λ x. x) (λ x. x, λ x. x))
