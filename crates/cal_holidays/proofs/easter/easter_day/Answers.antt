use Rattle.std.proofs.Common.{◌≡◌, ◌-ℤ◌, ◌∙◌, sym, rules, subst, arith, FitsSigned, to_z, of_z, w32, w64, ℤ, MatchOption}
use Rattle.cal_days.specs.Day.{IsValidDay}
use Rattle.cal_days.specs.Easter.{IsSundayAfter}
use Rattle.cal_days.proofs.Signed.{signed}
use Rattle.cal_holidays.specs.Naming.{easter_moon}
use Rattle.cal_holidays.proofs.EasterLemmas.{easter-one}
use Rattle.cal_holidays.proofs.easter.easter_day.Goals as goal

pub returns : goal.returns
returns c =
    let o = c.args.offset in
    let day = c.easter_and.result in
    let fits : FitsSigned w32 c.args.year = search rules in
    let year : to_z w32 (of_z w32 c.args.year) ≡ c.args.year = omega (arith, signed) in
    let by : to_z w32 (of_z w32 o) ≡ o = omega (arith, signed, c.requires.near) in
    let fits_day : FitsSigned w64 day = search rules in
    let held : to_z w64 (of_z w64 day) ≡ day = omega (arith, signed) in
    let first = subst (λ (z : ℤ). IsSundayAfter (easter_moon c.args.julian z) (day -ℤ to_z w32 (of_z w32 o))) year c.easter_and.ensures in
    let is = subst (λ (z : ℤ). IsSundayAfter (easter_moon c.args.julian c.args.year) (day -ℤ z)) by first in
    easter-one c.args.julian c.args.year o day c.valid_day.result is
    (subst (λ (z : ℤ). MatchOption c.valid_day.result (IsValidDay z → ⊥) (λ d. (d ≡ z) × IsValidDay z)) held c.valid_day.ensures)
