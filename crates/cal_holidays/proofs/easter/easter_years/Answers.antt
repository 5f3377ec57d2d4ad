use Rattle.std.proofs.Common.{◌≡◌, ◌-ℤ◌, ◌+ℤ◌, pos, rules, arith, FitsSigned, to_z, of_z, w32, w64}
use Rattle.cal_days.proofs.Signed.{signed}
use Rattle.cal_holidays.proofs.EasterLemmas.{easter_least, easter_most, of-easter}
use Rattle.cal_holidays.proofs.easter.easter_years.Goals as goal

pub returns : goal.returns
returns c =
    let j = c.args.julian in
    let o = c.args.offset in
    let fits_from : FitsSigned w64 c.args.from = search rules in
    let from : to_z w64 (of_z w64 c.args.from) ≡ c.args.from = omega (arith, signed) in
    let fits_to : FitsSigned w64 c.args.to = search rules in
    let to : to_z w64 (of_z w64 c.args.to) ≡ c.args.to = omega (arith, signed) in
    let first = c.first_valid.result in
    let last = c.last_valid.result in
    let a = c.year_containing.result in
    let b = c.year_containing-2.result in
    let low : to_z w32 (of_z w32 (to_z w32 (of_z w32 a) -ℤ pos 2)) ≡ a -ℤ pos 2 = omega (arith, signed, c.year_containing.ensures.range) in
    let high : to_z w32 (of_z w32 (to_z w32 (of_z w32 b) +ℤ pos 2)) ≡ b +ℤ pos 2 = omega (arith, signed, c.year_containing-2.ensures.range) in
    record {
      low = (omega (arith, signed, low, c.year_containing.ensures.range), omega (arith, signed, low, c.year_containing.ensures.range));
      high = (omega (arith, signed, high, c.year_containing-2.ensures.range), omega (arith, signed, high, c.year_containing-2.ensures.range));
      within = λ y n is valid between.
          let begin = c.first_valid.ensures.first n valid (omega (arith, signed, from, between.0)) in
          let end = c.last_valid.ensures.last n valid (omega (arith, signed, to, between.1)) in
          let e = n -ℤ o in
          let sunday = of-easter j y e is in
          let least = easter_least j y e first a sunday c.year_containing.ensures.first (omega (arith, signed, begin, c.requires.near)) in
          let most = easter_most j y e last b sunday c.year_containing-2.ensures.last (omega (arith, signed, end, c.requires.near)) in
          (omega (arith, signed, low, least), omega (arith, signed, high, most));
    }
