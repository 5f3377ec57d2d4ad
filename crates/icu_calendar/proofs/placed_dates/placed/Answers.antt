use Rattle.std.proofs.Common.{◌≡◌, true, false, Ok, Err, sym, ap, ◌∙◌, to_z, of_z, w32, arith, rules, ℤ}
use Rattle.cal_days.specs.Day.{is_constructor_year}
use Rattle.cal_days.proofs.Signed.{signed}
use Rattle.cal_types.specs.Bag.{bag_of}
use Rattle.cal_types.specs.Placing.{placed_date, year_out_of_range}
use Rattle.icu_calendar.specs.PlacedFields.{number_fault, year_place_day}
use Rattle.icu_calendar.proofs.PlacingLemmas.{is_named, named_fault, placed_says, year_refused}
use Rattle.icu_calendar.proofs.placed_dates.placed.Goals as goal

pub returns-then-not-is_small_year-clause-placed : goal.returns-then-not-is_small_year-clause-placed
returns-then-not-is_small_year-clause-placed g c =
    let list = (g.A.Calendar.Calendar.system (g.A.AsCalendar.cal_of c.args.calendar)).list in
    let same : to_z w32 (of_z w32 c.args.year) ≡ c.args.year = omega (arith, signed) in
    let past : is_constructor_year c.args.year ≡ false = search rules in
    ap Err (c.year_error.ensures ∙ ap year_out_of_range same) ∙ sym (year_refused list c.args.year c.args.month c.args.day past)

pub returns-in-Ok-clause-placed : goal.returns-in-Ok-clause-placed
returns-in-Ok-clause-placed g c =
    let calendar = g.A.AsCalendar.cal_of c.args.calendar in
    let s = g.A.Calendar.Calendar.system calendar in
    let taken : is_constructor_year c.args.year ≡ true = search rules in
    let same : to_z w32 (of_z w32 c.args.year) ≡ c.args.year = omega (arith, signed) in
    let fields = c.in_extended_year.ensures ∙ ap (λ (y : ℤ). year_place_day y c.args.month c.args.day) same in
    let date = g.A.Calendar.Calendar.date_of calendar c.in-Ok.date.inner in
    sym (placed_says s.list (g.met.A.Calendar.Calendar.covered calendar) s.year_names c.args.year c.args.month c.args.day taken (bag_of c.in_extended_year.result) (Ok date) fields c.in-Ok.ensures.resolved)

pub number_error-requires : goal.number_error-requires
number_error-requires g c =
    let calendar = g.A.AsCalendar.cal_of c.args.calendar in
    let s = g.A.Calendar.Calendar.system calendar in
    let taken : is_constructor_year c.args.year ≡ true = search rules in
    let same : to_z w32 (of_z w32 c.args.year) ≡ c.args.year = omega (arith, signed) in
    let fields = c.in_extended_year.ensures ∙ ap (λ (y : ℤ). year_place_day y c.args.month c.args.day) same in
    is_named (number_fault c.args.month c.args.day c.in-Err.e) (placed_date s.list c.args.year c.args.month c.args.day)
    (placed_says s.list (g.met.A.Calendar.Calendar.covered calendar) s.year_names c.args.year c.args.month c.args.day taken (bag_of c.in_extended_year.result) (Err c.in-Err.e) fields c.in-Err.ensures.resolved)

pub returns-in-Err-clause-placed : goal.returns-in-Err-clause-placed
returns-in-Err-clause-placed g c =
    let calendar = g.A.AsCalendar.cal_of c.args.calendar in
    let s = g.A.Calendar.Calendar.system calendar in
    let taken : is_constructor_year c.args.year ≡ true = search rules in
    let same : to_z w32 (of_z w32 c.args.year) ≡ c.args.year = omega (arith, signed) in
    let fields = c.in_extended_year.ensures ∙ ap (λ (y : ℤ). year_place_day y c.args.month c.args.day) same in
    named_fault (number_fault c.args.month c.args.day c.in-Err.e) (placed_date s.list c.args.year c.args.month c.args.day) _
    (placed_says s.list (g.met.A.Calendar.Calendar.covered calendar) s.year_names c.args.year c.args.month c.args.day taken (bag_of c.in_extended_year.result) (Err c.in-Err.e) fields c.in-Err.ensures.resolved)
    c.number_error.ensures
