use Rattle.std.proofs.Common.{◌≡◌, ◌≤◌, ◌∙◌, Bool, sym, ap, to_z, of_z, w32, arith}
use Rattle.cal_days.proofs.Signed.{signed}
use Rattle.cal_types.proofs.PlainMonthLemmas.{plain-place}
use Rattle.cal_base.specs.laws.GregorianMonths.{leap_is}
use Rattle.cal_julian.specs.PersianCorrected.{corrected_years}
use Rattle.cal_julian.specs.PersianList.{persian_list, persian_month_length}
use Rattle.cal_julian.specs.laws.PersianLaws.{month_length-persian, persian_list-plain}
use Rattle.cal_julian.specs.laws.PersianMonthLaws.{month_length-others}
use Rattle.cal_julian.specs.PersianRule.{is_persian_leap}
use Rattle.cal_julian.proofs.persian.PersianYearShapes.days_in_provided_month.Goals as goal

pub days_in_month-requires-else-month-eq12 : goal.days_in_month-requires-else-month-eq12
days_in_month-requires-else-month-eq12 c =
    let years = corrected_years c.args.self.now in
    plain-place 12 (persian_list years) (persian_list-plain years) c.args.year.number c.args.month c.requires.place

pub returns-then-month-eq12 : goal.returns-then-month-eq12
returns-then-month-eq12 c =
    let years = corrected_years c.args.self.now in
    let y = c.args.year.number in
    let kept : to_z w32 (of_z w32 y) ≡ y = omega (arith, signed, c.requires.year.range) in
    let leap = leap_is (is_persian_leap years) c.is_leap_year.result y (to_z w32 (of_z w32 y)) kept c.is_leap_year.ensures in
    c.days_in_month.ensures
    ∙ sym (month_length-persian years y c.args.month ∙ ap (λ (b : Bool). persian_month_length b c.args.month) leap)

pub returns-else-month-eq12 : goal.returns-else-month-eq12
returns-else-month-eq12 c =
    let years = corrected_years c.args.self.now in
    let y = c.args.year.number in
    let place = plain-place 12 (persian_list years) (persian_list-plain years) y c.args.month c.requires.place in
    let before : c.args.month ≤ 11 = omega (arith, place.1, c.if-month-eq12.false) in
    c.days_in_month-else-month-eq12.ensures
    ∙ sym (month_length-persian years y c.args.month ∙ month_length-others (is_persian_leap years y) c.args.month place.0 before)
