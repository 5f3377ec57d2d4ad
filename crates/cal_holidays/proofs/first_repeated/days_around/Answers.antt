use Rattle.std.proofs.Common.{◌≡◌, arith, ℤ, ◌+ℤ◌, ◌-ℤ◌, to_z, of_z, w64}
use Rattle.cal_days.proofs.Signed.{signed}
use Rattle.cal_holidays.proofs.RepeatedLemmas.{around-window}
use Rattle.cal_holidays.proofs.first_repeated.days_around.Goals as goal

-- a number as the program holds it
abbrev held : ℤ → ℤ
held z = to_z w64 (of_z w64 z)

pub returns : goal.returns
returns c =
    let r = c.args.reach in
    let first = c.to_i64_date.result in
    let last = c.to_i64_date-2.result in
    let low = c.first_valid-from in
    let high = c.last_valid-to in
    let near : held r ≡ r = omega (arith, signed, c.requires.reach) in
    let begin : held first ≡ c.args.first = omega (arith, signed, c.to_i64_date.ensures.value, c.requires.from) in
    let end : held last ≡ c.args.last = omega (arith, signed, c.to_i64_date-2.ensures.value, c.requires.to) in
    let from : held (held first -ℤ held r) ≡ c.args.first -ℤ r
    = omega (arith, signed, near, begin, c.requires.from, c.requires.reach) in
    let to : held (held last +ℤ held r) ≡ c.args.last +ℤ r
    = omega (arith, signed, near, end, c.requires.to, c.requires.reach) in
    around-window c.args.first c.args.last r low.result high.result c.try_new.result low.ensures.valid
    high.ensures.valid
    (λ n valid le. low.ensures.first n valid (omega (arith, signed, from, le)))
    (λ n valid le. high.ensures.last n valid (omega (arith, signed, to, le)))
    c.try_new.ensures.exact c.try_new.ensures.days
