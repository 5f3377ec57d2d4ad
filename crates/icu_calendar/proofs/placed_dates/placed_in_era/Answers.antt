use Rattle.std.proofs.Common.{◌≡◌, true, false, Ok, Err, sym, ap, ◌∙◌, to_z, of_z, w32, arith, rules, ℤ}
use Rattle.cal_days.specs.Day.{is_constructor_year}
use Rattle.cal_days.proofs.Signed.{signed}
use Rattle.cal_types.specs.Bag.{bag_of}
use Rattle.cal_errors.specs.RangeParts.{OutOfRange, date_fault}
use Rattle.cal_types.specs.Placing.{placed_of_era, year_out_of_range}
use Rattle.icu_calendar.specs.PlacedFields.{number_or_era_fault, era_place_day}
use Rattle.icu_calendar.proofs.PlacingLemmas.{is_named, named_fault, placed_in_era_says, era_year_refused}
use Rattle.icu_calendar.proofs.placed_dates.placed_in_era.Goals as goal

pub returns-then-not-is_small_year-clause-placed : goal.returns-then-not-is_small_year-clause-placed
returns-then-not-is_small_year-clause-placed g c =
    let s = g.A.Calendar.Calendar.system (g.A.AsCalendar.cal_of c.args.calendar) in
    let same : to_z w32 (of_z w32 c.args.year) ≡ c.args.year = omega (arith, signed) in
    let past : is_constructor_year c.args.year ≡ false = search rules in
    let parts = c.year_error.ensures ∙ ap year_out_of_range same in
    ap Err (ap date_fault c.from.ensures ∙ ap OutOfRange parts) ∙ sym (era_year_refused s.list s.year_names c.args.era.now c.args.year c.args.month c.args.day past)

pub returns-in-Ok-clause-placed : goal.returns-in-Ok-clause-placed
returns-in-Ok-clause-placed g c =
    let calendar = g.A.AsCalendar.cal_of c.args.calendar in
    let s = g.A.Calendar.Calendar.system calendar in
    let taken : is_constructor_year c.args.year ≡ true = search rules in
    let same : to_z w32 (of_z w32 c.args.year) ≡ c.args.year = omega (arith, signed) in
    let fields = c.in_era.ensures ∙ ap (λ (y : ℤ). era_place_day c.args.era.now y c.args.month c.args.day) same in
    let date = g.A.Calendar.Calendar.date_of calendar c.in-Ok.date.inner in
    sym (placed_in_era_says s.list (g.met.A.Calendar.Calendar.covered calendar) s.year_names c.args.era.now c.args.year c.args.month c.args.day taken c.requires (bag_of c.in_era.result) (Ok date) fields c.in-Ok.ensures.resolved)

pub number_or_era_error-requires : goal.number_or_era_error-requires
number_or_era_error-requires g c =
    let calendar = g.A.AsCalendar.cal_of c.args.calendar in
    let s = g.A.Calendar.Calendar.system calendar in
    let taken : is_constructor_year c.args.year ≡ true = search rules in
    let same : to_z w32 (of_z w32 c.args.year) ≡ c.args.year = omega (arith, signed) in
    let fields = c.in_era.ensures ∙ ap (λ (y : ℤ). era_place_day c.args.era.now y c.args.month c.args.day) same in
    is_named (number_or_era_fault c.args.month c.args.day c.in-Err.e) (placed_of_era s.list s.year_names c.args.era.now c.args.year c.args.month c.args.day)
    (placed_in_era_says s.list (g.met.A.Calendar.Calendar.covered calendar) s.year_names c.args.era.now c.args.year c.args.month c.args.day taken c.requires (bag_of c.in_era.result) (Err c.in-Err.e) fields c.in-Err.ensures.resolved)

pub returns-in-Err-clause-placed : goal.returns-in-Err-clause-placed
returns-in-Err-clause-placed g c =
    let calendar = g.A.AsCalendar.cal_of c.args.calendar in
    let s = g.A.Calendar.Calendar.system calendar in
    let taken : is_constructor_year c.args.year ≡ true = search rules in
    let same : to_z w32 (of_z w32 c.args.year) ≡ c.args.year = omega (arith, signed) in
    let fields = c.in_era.ensures ∙ ap (λ (y : ℤ). era_place_day c.args.era.now y c.args.month c.args.day) same in
    named_fault (number_or_era_fault c.args.month c.args.day c.in-Err.e) (placed_of_era s.list s.year_names c.args.era.now c.args.year c.args.month c.args.day) _
    (placed_in_era_says s.list (g.met.A.Calendar.Calendar.covered calendar) s.year_names c.args.era.now c.args.year c.args.month c.args.day taken c.requires (bag_of c.in_era.result) (Err c.in-Err.e) fields c.in-Err.ensures.resolved)
    c.number_or_era_error.ensures
