use Rattle.std.proofs.Common.{◌≡◌, ℤ, ◌+ℤ◌, to_z, of_z, w64, ap, ◌∙◌, arith}
use Rattle.cal_days.proofs.Signed.{signed}
use Rattle.calspan_run.proofs.GeneratorLemmas.{same_totals}
use Rattle.calspan_run.proofs.generated.totals.with_span.Goals as goal

pub returns-clause-value : goal.returns-clause-value
returns-clause-value c =
    let t = c.args.totals in let p = c.args.parts.now in
    let first = to_z w64 (of_z w64 c.day_number_of.result) in let second = to_z w64 (of_z w64 c.day_number_of-2.result) in
    let sum : to_z w64 (of_z w64 (to_z w64 (of_z w64 t.day_numbers) +ℤ to_z w64 (of_z w64 (first +ℤ second)))) ≡ t.day_numbers +ℤ c.day_number_of.result +ℤ c.day_number_of-2.result =
    omega (arith, signed, c.requires.few, c.requires.bounded.day_numbers, c.day_number_of.ensures.valid, c.day_number_of-2.ensures.valid) in
    same_totals _ _ _ _ _ _ _ _ _ _ _ _
    (sum ∙ (ap (λ (n : ℤ). t.day_numbers +ℤ n +ℤ c.day_number_of-2.result) c.day_number_of.ensures.value ∙ ap (λ (n : ℤ). t.day_numbers +ℤ p.from.rata_die +ℤ n) c.day_number_of-2.ensures.value))
    c.added.ensures.value c.added-2.ensures.value c.added-3.ensures.value c.added-4.ensures.value

pub returns-clause-bounded : goal.returns-clause-bounded
returns-clause-bounded c =
    let h = c.requires.bounded in record {
      day_numbers = (
        omega (arith, signed, c.requires.few, h.day_numbers, c.day_number_of.ensures.valid, c.day_number_of-2.ensures.valid),
        omega (arith, signed, c.requires.few, h.day_numbers, c.day_number_of.ensures.valid, c.day_number_of-2.ensures.valid),
      );
      years = omega (arith, h.years, c.added.ensures.bound);
      months = omega (arith, h.months, c.added-2.ensures.bound);
      weeks = omega (arith, h.weeks, c.added-3.ensures.bound);
      days = omega (arith, h.days, c.added-4.ensures.bound);
    }
