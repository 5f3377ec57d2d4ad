use Rattle.std.proofs.Common.{ℕ, ◌-◌, ◌*◌, ◌/◌, ◌∙◌, ap}
use Rattle.cal_base.specs.laws.MarchMonths.{march_days_before-closed}
use Rattle.cal_base.proofs.gregorian_months.days_from_march.Goals as goal

pub returns-clause-value : goal.returns-clause-value
returns-clause-value c = ap (λ (n : ℕ). (979 * n - 2919) / 32) c.from.ensures ∙ march_days_before-closed c.args.month c.requires.0 c.requires.1
