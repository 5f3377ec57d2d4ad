use Rattle.std.proofs.Common.{◌≡◌, ◌||◌, ◌∙◌, Bool, false, ap, arith, ℤ, pos, ◌+ℤ◌, to_z, of_z, w64}
use Rattle.cal_days.proofs.Signed.{signed}
use Rattle.recurrence_set_tests.specs.Hundreds.{is_day}
use Rattle.recurrence_set_tests.proofs.HundredLemmas.{three-days}
use Rattle.recurrence_set_tests.proofs.hundreds.three_days.Goals as goal

pub returns : goal.returns
returns c =
    let first = c.args.first in
    let own : to_z w64 (of_z w64 first) ≡ first = omega (arith, signed, c.requires) in
    let hundred : to_z w64 (of_z w64 (to_z w64 (of_z w64 first) +ℤ pos 100)) ≡ first +ℤ pos 100 = omega (arith, signed, c.requires) in
    let more : to_z w64 (of_z w64 (to_z w64 (of_z w64 first) +ℤ pos 150)) ≡ first +ℤ pos 150 = omega (arith, signed, c.requires) in
    let begin : c.new-days.result.first ≡ first = omega (arith, signed, c.requires, c.new-days.ensures.first, c.new.ensures) in
    three-days first c.insert_day-3.new.days c.are_within.ensures (c.insert_day-3.ensures.first ∙ c.insert_day-2.ensures.first ∙ c.insert_day.ensures.first ∙ begin)
    (λ n low.
    c.insert_day-3.ensures.days n (omega (arith, signed, low, begin, c.insert_day-2.ensures.first, c.insert_day.ensures.first))
    ∙ ap (λ (b : Bool). is_day (to_z w64 (of_z w64 (to_z w64 (of_z w64 first) +ℤ pos 150))) n || b)
    (c.insert_day-2.ensures.days n (omega (arith, signed, low, begin, c.insert_day.ensures.first))
    ∙ ap (λ (b : Bool). is_day (to_z w64 (of_z w64 (to_z w64 (of_z w64 first) +ℤ pos 100))) n || b)
    (c.insert_day.ensures.days n (omega (arith, signed, low, begin)) ∙ ap (λ (b : Bool). is_day (to_z w64 (of_z w64 first)) n || b) (c.new-days.ensures.none n)))
    ∙ ap (λ (z : ℤ). is_day z n || (is_day (to_z w64 (of_z w64 (to_z w64 (of_z w64 first) +ℤ pos 100))) n || (is_day (to_z w64 (of_z w64 first)) n || false))) more
    ∙ ap (λ (z : ℤ). is_day (first +ℤ pos 150) n || (is_day z n || (is_day (to_z w64 (of_z w64 first)) n || false))) hundred
    ∙ ap (λ (z : ℤ). is_day (first +ℤ pos 150) n || (is_day (first +ℤ pos 100) n || (is_day z n || false))) own)
