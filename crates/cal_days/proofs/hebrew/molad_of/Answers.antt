use Rattle.std.proofs.Common.{◌≡◌, ◌*◌, ◌-◌, nat_abs, pos, ◌+ℤ◌, ◌-ℤ◌, ◌*ℤ◌, to_z, of_z, w32, ◌+◌, ◌/◌, ◌%◌, ap, ◌∙◌, ℕ, arith}
use Rattle.cal_days.proofs.Signed.{signed_casts}
use Rattle.cal_days.proofs.HebrewLemmas.{molad-counted}
use Rattle.cal_days.proofs.hebrew.molad_of.Goals as goal

-- what is 19 times the months before the year, counted from so many years before
abbrev months : goal.After-from → ℕ
months c = 235 * nat_abs (to_z w32 (of_z w32 (to_z w32 (of_z w32 c.args.year) +ℤ pos 8273664))) - 234

counted : (c : goal.After-from) → pos (months c) ≡ pos 235 *ℤ c.args.year -ℤ pos 234 +ℤ pos 1944311040
counted c = omega (arith, signed_casts, c.requires)

pub returns-clause-day : goal.returns-clause-day
returns-clause-day c = ap (λ (m : ℕ). pos ((765433 * m + 38004) / 25920)) c.from.ensures ∙ (molad-counted c.args.year (months c) (counted c)).0

pub returns-clause-part : goal.returns-clause-part
returns-clause-part c = ap (λ (m : ℕ). (765433 * m + 38004) % 25920) c.from.ensures ∙ (molad-counted c.args.year (months c) (counted c)).1

pub returns-clause-left : goal.returns-clause-left
returns-clause-left c = (molad-counted c.args.year (months c) (counted c)).2
