use Rattle.std.proofs.Common.{◌≡◌, ◌∙◌, pos, ◌+ℤ◌, ◌-ℤ◌, to_z, of_z, w32, w64, arith}
use Rattle.cal_days.specs.Day.{is_between}
use Rattle.cal_days.specs.Islamic.{islamic_mean_start}
use Rattle.cal_days.proofs.Signed.{signed}
use Rattle.row_faults.proofs.numbers.is_near_mean.Goals as goal

pub returns : goal.returns
returns c =
    let y = c.args.year in
    let kept : to_z w32 (of_z w32 y) ≡ y = omega (arith, signed) in
    let start = c.to_i64_date-start.result in
    let is : start ≡ islamic_mean_start y = c.to_i64_date-start.ensures.value ∙ (rw kept at c.mean_start.ensures.formula) in
    let (least, most) = c.to_i64_date-start.ensures.range in
    let low : to_z w64 (of_z w64 (to_z w64 (of_z w64 start) -ℤ pos 5)) ≡ islamic_mean_start y -ℤ pos 5 = omega (arith, signed, is, least, most) in
    let high : to_z w64 (of_z w64 (to_z w64 (of_z w64 start) +ℤ pos 5)) ≡ islamic_mean_start y +ℤ pos 5 = omega (arith, signed, is, least, most) in
    let day : to_z w32 (of_z w32 c.args.day) ≡ c.args.day = omega (arith, signed) in
    c.is_day_between.ensures ∙ (λ i. is_between (low i) (high i) (day i))
