use Rattle.std.proofs.Common.{◌≡◌, ℕ, ◌<◌, ℤ, pos, ◌+ℤ◌, ◌<ℤ◌, Bool, true, false, if◌then◌else◌, List, subst, to_z, of_z, w32, arith}
use Rattle.cal_days.proofs.Signed.{signed}
use Rattle.cal_types.specs.CalendarList.{date, start_of_year, IsOn}
use Rattle.cal_julian.specs.PersianCorrected.{corrected_years}
use Rattle.cal_julian.specs.PersianList.{persian_list}
use Rattle.cal_julian.specs.laws.PersianLaws.{day_found, start_of_year-persian}
use Rattle.cal_julian.specs.PersianRule.{AreCorrectable, is_persian_leap, persian_new_year}
use Rattle.cal_julian.specs.laws.PersianRuleLaws.{persian_new_year-next}
use Rattle.cal_julian.proofs.persian.PersianYears.year_month_day.Goals as goal

-- a day before the next year is one of the year
within_year : (years : List ℤ) → AreCorrectable years → (y rd : ℤ) (p : ℕ) → persian_new_year years y +ℤ pos p ≡ rd → rd <ℤ persian_new_year years (y +ℤ pos 1) → p < (if is_persian_leap years y then 366 else 365)
within_year years known y rd p day within = omega (arith, signed, day, within, persian_new_year-next years known y)

within_366 : (leap : Bool) (p : ℕ) → p < (if leap then 366 else 365) → p < 366
within_366 true p h = h
within_366 false p h = omega arith

pub month_and_day-month-requires : goal.month_and_day-month-requires
month_and_day-month-requires c =
    let years = corrected_years c.args.self.now in
    let found = c.year_and_day_from_fixed-extended_year in
    within_366 (is_persian_leap years found.result.0) found.result.1
    (within_year years c.args.self.now.corrections.known found.result.0 c.args.rd found.result.1 found.ensures.day found.ensures.within)

pub returns-clause-on : goal.returns-clause-on
returns-clause-on c =
    let years = corrected_years c.args.self.now in
    let known = c.args.self.now.corrections.known in
    let found = c.year_and_day_from_fixed-extended_year in let place = c.month_and_day-month in
    let y = found.result.0 in let p = found.result.1 in
    let same : to_z w32 (of_z w32 y) ≡ y = omega (arith, signed, found.ensures.range) in
    let day : start_of_year (persian_list years) y +ℤ pos p ≡ c.args.rd = omega (arith, signed, start_of_year-persian years known y, found.ensures.day) in
    let within = within_year years known y c.args.rd p found.ensures.day found.ensures.within in
    rw same
    (subst (λ (z : ℤ). IsOn (persian_list years) z (date y place.result.0 place.result.1)) day
    (day_found years y place.result.0 place.result.1 p within place.ensures.month (place.ensures.day (is_persian_leap years y))))
