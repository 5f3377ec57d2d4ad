use Rattle.std.proofs.Common.{◌≡◌, ◌∙◌, ap, to_z, of_z, w32, arith}
use Rattle.cal_days.proofs.Signed.{signed}
use Rattle.cal_days.proofs.PersianLemmas.{persian_start-bounds}
use Rattle.cal_types.proofs.PlainMonthLemmas.{plain-place}
use Rattle.cal_julian.specs.PersianCorrected.{corrected_years}
use Rattle.cal_julian.specs.PersianList.{persian_list}
use Rattle.cal_julian.specs.laws.PersianLaws.{days_before-persian, persian_list-plain, start_of_year-persian}
use Rattle.cal_julian.specs.PersianRule.{is_persian_leap, persian_new_year}
use Rattle.cal_julian.specs.laws.PersianRuleLaws.{persian_new_year-near}
use Rattle.cal_julian.proofs.persian.PersianYearShapes.to_rata_die_inner.Goals as goal

pub days_before_day-before-requires-clause-month : goal.days_before_day-before-requires-clause-month
days_before_day-before-requires-clause-month c =
    let years = corrected_years c.args.self.now in
    plain-place 12 (persian_list years) (persian_list-plain years) c.args.year.number c.args.month c.requires.date.place

pub days_before_day-before-requires-clause-day : goal.days_before_day-before-requires-clause-day
days_before_day-before-requires-clause-day c =
    let years = corrected_years c.args.self.now in
    let y = c.args.year.number in
    let place = plain-place 12 (persian_list years) (persian_list-plain years) y c.args.month c.requires.date.place in
    (c.requires.date.day.0, omega (arith, c.requires.date.day.1, (persian_list-plain years).lengths y c.args.month place.0 place.1))

pub overflow_add-start : goal.overflow_add-start
overflow_add-start c =
    let years = corrected_years c.args.self.now in
    let year = c.args.year.number in
    let rule = c.requires.year.range in
    let kept : to_z w32 (of_z w32 year) ≡ year = omega (arith, signed, rule) in
    let first = c.year_start-start.ensures ∙ ap (persian_new_year years) kept in
    omega (arith, signed, first, persian_new_year-near years year, persian_start-bounds year, c.days_before_day-before.ensures.bound, rule)

pub new-requires : goal.new-requires
new-requires c =
    let years = corrected_years c.args.self.now in
    let year = c.args.year.number in
    let rule = c.requires.year.range in
    let kept : to_z w32 (of_z w32 year) ≡ year = omega (arith, signed, rule) in
    let first = c.year_start-start.ensures ∙ ap (persian_new_year years) kept in
    let near = persian_new_year-near years year in
    let most = c.days_before_day-before.ensures.bound in
    (omega (arith, signed, first, near, persian_start-bounds year, most, rule), omega (arith, signed, first, near, persian_start-bounds year, most, rule))

pub returns : goal.returns
returns c =
    let years = corrected_years c.args.self.now in
    let year = c.args.year.number in
    let rule = c.requires.year.range in
    let kept : to_z w32 (of_z w32 year) ≡ year = omega (arith, signed, rule) in
    let first = c.year_start-start.ensures ∙ ap (persian_new_year years) kept in
    let near = persian_new_year-near years year in
    let before = days_before-persian years year c.args.month in
    let value = c.days_before_day-before.ensures.value (is_persian_leap years year) in
    let most = c.days_before_day-before.ensures.bound in
    omega (arith, signed, first, near, before, value, start_of_year-persian years c.args.self.now.corrections.known year, persian_start-bounds year, most, rule, c.new.ensures)
