use Rattle.std.proofs.Common.{◌≡◌, ◌∙◌, ℕ, ℤ, ap, arith, pos, ◌+ℤ◌, to_z, of_z, w32, w64}
use Rattle.cal_days.specs.Day.{IsFieldYear}
use Rattle.cal_days.proofs.GregorianLemmas.{gregorian_start-bounds}
use Rattle.cal_days.proofs.Signed.{signed}
use Rattle.cal_arith.specs.Dates.{ymd}
use Rattle.cal_east_asian.specs.EastAsianYear.{IsNewYear, days_after_january_19, january_19}
use Rattle.cal_east_asian.specs.laws.SameParts.{same_parts}
use Rattle.date_bytes.specs.Bytes.{day_from, month_from}
use Rattle.date_bytes.specs.EastAsianBytes.{east_asian_bytes, start_in}
use Rattle.cal_east_asian.specs.RuleYears.{rule_year}
use Rattle.cal_east_asian.specs.laws.RuleYearLaws.{rule_year-same}
use Rattle.cal_east_asian.specs.PackedYears.{packed_year}
use Rattle.cal_east_asian.specs.declared.east_asian_traditional_year.EastAsianTraditionalYear.{EastAsianTraditionalYear}
use Rattle.cal_east_asian.proofs.east_asian_traditional_year.EastAsianTraditionalYearPackWithMD.pack.Goals as goal

-- the number and the first day of a year that is packed arrive as they are
number : (y : ℤ) → IsFieldYear y → to_z w32 (of_z w32 y) ≡ y
number y field = omega (arith, signed, field)

first_day : (y d : ℤ) → IsFieldYear y → IsNewYear y d → to_z w64 (of_z w64 d) ≡ d
first_day y d field near = omega (arith, signed, field, near, gregorian_start-bounds y)

days-same : (y d : ℤ) (n : ℕ) → IsFieldYear y → IsNewYear y d → n ≡ days_after_january_19 (to_z w32 (of_z w32 y)) (to_z w64 (of_z w64 d)) → n ≡ days_after_january_19 y d
days-same y d n field near said =
    said ∙ ap (λ (x : ℤ). days_after_january_19 x (to_z w64 (of_z w64 d))) (number y field) ∙ ap (λ (x : ℤ). days_after_january_19 y x) (first_day y d field near)

pub returns-clause-bytes : goal.returns-clause-bytes
returns-clause-bytes c =
    let year = c.args.self in
    let days = days-same year.related_iso year.new_year c.days_after_january_19-start.result c.requires.storable year.valid.1.0 c.days_after_january_19-start.ensures.value in
    c.pack.ensures.bytes
    ∙ ap (λ (y : ℤ). east_asian_bytes y year.long_months year.leap_month c.days_after_january_19-start.result c.args.month c.args.day) (number year.related_iso c.requires.storable)
    ∙ ap (λ (n : ℕ). east_asian_bytes year.related_iso year.long_months year.leap_month n c.args.month c.args.day) days

-- the first day is so many days after January 19
start-back : (y d : ℤ) (n : ℕ) → IsNewYear y d → n ≡ days_after_january_19 y d → january_19 y +ℤ pos n ≡ d
start-back y d n near same = omega (arith, signed, near, same)

pub returns-clause-parts : goal.returns-clause-parts
returns-clause-parts c =
    let year = c.args.self in
    let p = c.pack.result in
    let days = days-same year.related_iso year.new_year c.days_after_january_19-start.result c.requires.storable year.valid.1.0 c.days_after_january_19-start.ensures.value in
    let back = ap rule_year (c.pack.ensures.year ∙ number year.related_iso c.requires.storable) ∙ rule_year-same year.related_iso year.valid.0 in
    let first = ap (λ (y : ℤ). january_19 y +ℤ pos (start_in p)) back ∙ start-back year.related_iso year.new_year (start_in p) year.valid.1.0 (c.pack.ensures.start ∙ days) in
    let same = same_parts (packed_year p) year back first c.pack.ensures.long c.pack.ensures.leap in
    ap (λ (y : EastAsianTraditionalYear). ymd y (month_from 3 p) (day_from 3 p)) same
    ∙ ap (λ (m : ℕ). ymd year m (day_from 3 p)) c.pack.ensures.month
    ∙ ap (λ (d : ℕ). ymd year c.args.month d) c.pack.ensures.day
