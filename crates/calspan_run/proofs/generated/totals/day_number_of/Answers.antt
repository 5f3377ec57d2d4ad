use Rattle.std.proofs.Common.{◌≡◌, ℤ, to_z, of_z, w64, sym, subst, ◌∙◌, arith}
use Rattle.cal_days.specs.Day.{IsValidDay}
use Rattle.cal_days.proofs.Signed.{signed}
use Rattle.calspan_run.proofs.generated.totals.day_number_of.Goals as goal

pub returns-clause-valid : goal.returns-clause-valid
returns-clause-valid c =
    let kept : to_z w64 (of_z w64 c.to_i64_date.result) ≡ c.to_i64_date.result = omega (arith, signed) in
    subst (λ (n : ℤ). IsValidDay n) (sym (kept ∙ c.to_i64_date.ensures.value)) c.requires.valid
