-- The months and the first days of the years of the Julian list, its bounds, and the names of its years.
use Rattle.std.proofs.Common.{◌≡◌, ℕ, ◌≤◌, Bool, true, false, if◌then◌else◌, refl, sym, ap, ◌∙◌, arith, ℤ, pos, neg_ℤ, ◌+ℤ◌, ◌-ℤ◌, ◌≤ℤ◌, ◌<ℤ◌, unsigned_abs}
use Rattle.std.specs.Prelude.{int_lt}
use Rattle.cal_days.specs.Day.{IsBetween, IsValidDay, IsFieldYear, IsRuleYear, IsCoveredYear}
use Rattle.cal_days.specs.Division.{floor_div}
use Rattle.cal_days.specs.Julian.{julian_leap, julian_start, julian_year_length}
use Rattle.cal_days.proofs.Signed.{signed}
use Rattle.cal_days.proofs.JulianLemmas.{julian_start-next, julian_start-bounds}
use Rattle.cal_types.specs.Year.{extended_year_of}
use Rattle.cal_types.specs.declared.year.EraYear.{EraYear}
use Rattle.cal_types.specs.declared.year.YearInfo.TheVariants.{Era}
use Rattle.cal_types.specs.CalendarList.{Date, month_number, year_length, start_of_year, day_number, IsDate, IsValidDate, IsLawful}
use Rattle.cal_types.specs.PlainMonths.{HasPlainMonths}
use Rattle.cal_types.proofs.ListLemmas.{start_of_year-unique, date-in_year}
use Rattle.cal_types.proofs.PlainMonthLemmas.{plain-lawful, apart-plain}
use Rattle.cal_base.specs.GregorianList.{HasGregorianMonths}
use Rattle.cal_base.specs.laws.GregorianMonths.{gregorian-plain, year_length-gregorian}
use Rattle.cal_julian.specs.JulianEra.{julian_era_year}
use Rattle.cal_julian.specs.JulianList.{julian_list}

pub julian_list-months : HasGregorianMonths julian_leap julian_list
unfolding julian_list
julian_list-months = record { entries = λ y. refl; kind = λ m. refl }

pub julian_list-plain : HasPlainMonths 12 julian_list
julian_list-plain = gregorian-plain julian_leap julian_list julian_list-months

-- the list is a calendar's
pub julian_list-lawful : IsLawful julian_list
julian_list-lawful = plain-lawful 12 julian_list julian_list-plain

pub year_length-julian : (y : ℤ) → year_length julian_list y ≡ julian_year_length y
year_length-julian y = year_length-gregorian julian_leap julian_list julian_list-months y

julian_start-anchor : julian_start julian_list.anchor_year ≡ julian_list.anchor_day
unfolding julian_list julian_start floor_div
julian_start-anchor = refl

-- each year of the list starts where the closed form says
pub start_of_year-julian : (y : ℤ) → start_of_year julian_list y ≡ julian_start y
start_of_year-julian y =
    start_of_year-unique julian_list julian_start julian_start-anchor
    (λ z. julian_start-next z ∙ ap (λ (n : ℕ). julian_start z +ℤ pos n) (sym (year_length-julian z))) y

-- a date lies between its year's start and the next
day_number-julian : (t : Date) → IsDate julian_list t → (julian_start t.year ≤ℤ day_number julian_list t) × (day_number julian_list t <ℤ julian_start (t.year +ℤ pos 1))
day_number-julian t h =
    let start = start_of_year-julian t.year in
    (omega (arith, signed, start), omega (arith, signed, start, h.day.0, date-in_year julian_list t h, year_length-julian t.year, julian_start-next t.year))

-- the days of rule years are far from the ends of the number types
pub day_number-near : (t : Date) → IsRuleYear t.year → IsDate julian_list t → IsBetween (neg_ℤ (pos 4000000000)) (pos 4000000000) (day_number julian_list t)
day_number-near t rule h =
    let within = day_number-julian t h in
    let low = julian_start-bounds t.year in
    let high = julian_start-bounds (t.year +ℤ pos 1) in
    (omega (arith, signed, within.0, low, rule), omega (arith, signed, within.1, high, rule))

-- a valid day's year is one that fields may name, and is small
year_of_valid_date : (t : Date) → IsValidDate julian_list t → IsBetween (neg_ℤ (pos 1030000)) (pos 1030000) t.year
year_of_valid_date t h =
    let within = day_number-julian t h.date in
    let low = julian_start-bounds t.year in
    let high = julian_start-bounds (t.year +ℤ pos 1) in
    (omega (arith, signed, within, high, h.valid), omega (arith, signed, within, low, h.valid))

pub years-ranged : (t : Date) → IsValidDate julian_list t → IsFieldYear t.year × IsFieldYear (t.year +ℤ pos 0)
years-ranged t h =
    let year = year_of_valid_date t h in
    ((omega (arith, signed, year), omega (arith, signed, year)), (omega (arith, signed, year), omega (arith, signed, year)))

-- the days of the years around year 1 are valid
pub days-covered : (t : Date) → IsCoveredYear t.year → IsDate julian_list t → IsValidDay (day_number julian_list t)
days-covered t year h =
    let within = day_number-julian t h in
    let low = julian_start-bounds t.year in
    let high = julian_start-bounds (t.year +ℤ pos 1) in
    (omega (arith, signed, within.0, low, year), omega (arith, signed, within.1, high, year))

-- valid dates are at most 27040000 months apart: as many as 2080000 years of 13 months have
pub months-apart : (t u : Date) → IsValidDate julian_list t → IsValidDate julian_list u → unsigned_abs (month_number julian_list u.year u.month -ℤ month_number julian_list t.year t.month) ≤ 27040000
months-apart t u h k =
    let first = year_of_valid_date t h in
    let second = year_of_valid_date u k in
    apart-plain 12 julian_list julian_list-plain t u h.date.place k.date.place
    (omega (arith, signed, first), omega (arith, signed, first)) (omega (arith, signed, second), omega (arith, signed, second))

-- a year's stored number is its extended year
pub stored-extended : (y : ℤ) → y ≡ y +ℤ pos 0
stored-extended y = omega (arith, signed)

either_extended : (b : Bool) (p q : EraYear) (y : ℤ) → p.extended_year ≡ y → q.extended_year ≡ y → (if b then p else q).extended_year ≡ y
either_extended true p q y e f = e
either_extended false p q y e f = f

-- a year in its era has its extended year
pub julian_year-named : (y : ℤ) → extended_year_of (Era (julian_era_year y)) ≡ y
julian_year-named y = either_extended (int_lt y (pos 1)) _ _ y refl refl
