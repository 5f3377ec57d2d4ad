use Rattle.std.proofs.Common.{◌≡◌, ◌∙◌, ℕ, ℤ, ap, arith, to_z, of_z, w32}
use Rattle.cal_days.specs.Day.{IsFieldYear}
use Rattle.cal_days.proofs.Signed.{signed}
use Rattle.cal_arith.specs.Dates.{ymd}
use Rattle.date_bytes.specs.Bytes.{day_from, month_from}
use Rattle.cal_hebrew.specs.PackedYears.{packed_year}
use Rattle.cal_hebrew.specs.laws.SameYears.{same_parts}
use Rattle.cal_hebrew.specs.declared.hebrew_year.HebrewYear.{HebrewYear}
use Rattle.cal_hebrew.proofs.hebrew_year.HebrewYearPackWithMD.pack.Goals as goal

number : (y : ℤ) → IsFieldYear y → to_z w32 (of_z w32 y) ≡ y
number y field = omega (arith, signed, field)

pub returns-clause-parts : goal.returns-clause-parts
returns-clause-parts c =
    let year = c.args.self in
    let p = c.pack.result in
    let same = same_parts (packed_year p) year (c.pack.ensures.year ∙ number year.extended_year c.requires.storable) c.pack.ensures.length in
    ap (λ (y : HebrewYear). ymd y (month_from 1 p) (day_from 1 p)) same
    ∙ ap (λ (m : ℕ). ymd year m (day_from 1 p)) c.pack.ensures.month
    ∙ ap (λ (d : ℕ). ymd year c.args.month d) c.pack.ensures.day
