use Rattle.std.proofs.Common.{◌≡◌, ◌∙◌, pos, ◌+ℤ◌, to_z, of_z, w32, w64, arith}
use Rattle.cal_days.specs.Day.{is_between}
use Rattle.cal_days.specs.Gregorian.{gregorian_start}
use Rattle.cal_days.proofs.Signed.{signed}
use Rattle.cal_east_asian.specs.EastAsianYear.{january_19}
use Rattle.row_faults.proofs.numbers.is_new_year.Goals as goal

pub returns : goal.returns
returns c =
    let y = c.args.year in
    let kept : to_z w32 (of_z w32 y) ≡ y = omega (arith, signed) in
    let first = c.to_i64_date-january_1.result in
    let is : first ≡ gregorian_start y = c.to_i64_date-january_1.ensures.value ∙ (rw kept at c.year_start.ensures.formula) in
    let (least, most) = c.to_i64_date-january_1.ensures.range in
    let low : to_z w64 (of_z w64 (to_z w64 (of_z w64 first) +ℤ pos 18)) ≡ january_19 y = omega (arith, signed, is, least, most) in
    let high : to_z w64 (of_z w64 (to_z w64 (of_z w64 first) +ℤ pos 52)) ≡ january_19 y +ℤ pos 34 = omega (arith, signed, is, least, most) in
    let day : to_z w32 (of_z w32 c.args.day) ≡ c.args.day = omega (arith, signed) in
    c.is_day_between.ensures ∙ (λ i. is_between (low i) (high i) (day i))
