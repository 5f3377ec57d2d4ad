use Rattle.std.proofs.Common.{◌≡◌, ◌≤◌, ◌∙◌, ℕ, ℤ, ap, to_z, of_z, w32, arith}
use Rattle.cal_days.specs.Day.{IsShiftedYear}
use Rattle.cal_days.specs.Coptic.{coptic_start}
use Rattle.cal_days.proofs.Signed.{signed}
use Rattle.cal_days.proofs.CopticLemmas.{coptic_start-bounds}
use Rattle.cal_types.specs.CalendarList.{date, IsDate}
use Rattle.cal_types.proofs.PlainMonthLemmas.{plain-place}
use Rattle.cal_coptic.specs.CopticList.{coptic_list}
use Rattle.cal_coptic.specs.laws.CopticLaws.{coptic_list-plain, days_before-coptic, start_of_year-coptic}
use Rattle.cal_coptic.proofs.coptic_year.day_number.Goals as goal

-- what the calls say of the year's first day
first_day : (year first number : ℤ) → IsShiftedYear year → number ≡ first → first ≡ coptic_start (to_z w32 (of_z w32 year)) → number ≡ coptic_start year
first_day year first number range same formula =
    let kept : to_z w32 (of_z w32 year) ≡ year = omega (arith, signed, range) in
    same ∙ (formula ∙ ap coptic_start kept)

-- the days before the day are few
few : (number : ℤ) (month day : ℕ) → IsDate coptic_list (date number month day) → (1 ≤ month) × (month ≤ 13) × (1 ≤ day) × (day ≤ 31)
few number month day h =
    let place = plain-place 13 coptic_list coptic_list-plain number month h.place in
    (place.0, place.1, h.day.0, omega (arith, h.day.1, coptic_list-plain.lengths number month place.0 place.1))

pub new-requires : goal.new-requires
new-requires c =
    let number = c.args.year.number in
    let first = first_day number c.year_start.result c.to_i64_date.result c.requires.year c.to_i64_date.ensures.value c.year_start.ensures.formula in
    let small = few number c.args.month c.args.day c.requires.date in
    (omega (arith, signed, first, coptic_start-bounds number, small, c.requires.year, c.from.ensures, c.from-2.ensures, c.from-3.ensures), omega (arith, signed, first, coptic_start-bounds number, small, c.requires.year, c.from.ensures, c.from-2.ensures, c.from-3.ensures))

pub returns : goal.returns
returns c =
    let number = c.args.year.number in
    let first = first_day number c.year_start.result c.to_i64_date.result c.requires.year c.to_i64_date.ensures.value c.year_start.ensures.formula in
    let small = few number c.args.month c.args.day c.requires.date in
    let before = days_before-coptic number c.args.month small.0 small.1 in
    omega (arith, signed, first, before, start_of_year-coptic number, coptic_start-bounds number, small, c.requires.year, c.from.ensures, c.from-2.ensures, c.from-3.ensures, c.new.ensures)
