use Rattle.std.proofs.Common.{rules, ◌≡◌, arith, FitsSigned, w32, to_z, of_z, Some, None}
use Rattle.cal_days.proofs.Signed.{signed}
use Rattle.cal_types.specs.MonthParts.{month_parts}
use Rattle.cal_anniversary.proofs.ListingLemmas.{found-first}
use Rattle.cal_anniversary.proofs.first_in_window.first_anniversary.Goals as goal

pub first_in_years-requires-clause-low : goal.first_in_years-requires-clause-low
first_in_years-requires-clause-low g c =
    let years = c.years_of-years.result in
    let fits : FitsSigned w32 years.first = search rules in
    omega (arith, signed, c.years_of-years.ensures.low)

pub first_in_years-requires-clause-high : goal.first_in_years-requires-clause-high
first_in_years-requires-clause-high g c =
    let years = c.years_of-years.result in
    let fits : FitsSigned w32 years.last = search rules in
    omega (arith, signed, c.years_of-years.ensures.high)

pub returns-in-Some : goal.returns-in-Some
returns-in-Some g c =
    let s = c.args.calendar.now in
    let years = c.years_of-years.result in
    let fits : FitsSigned w32 years.first = search rules in
    let fits_last : FitsSigned w32 years.last = search rules in
    let first : to_z w32 (of_z w32 years.first) ≡ years.first = omega (arith, signed) in
    let last : to_z w32 (of_z w32 years.last) ≡ years.last = omega (arith, signed) in
    found-first (g.C.Calendar.system s).list (g.met.C.Calendar.lawful s) c.args.leaping (month_parts c.args.month) c.args.day c.args.window years.first years.last _ _ (Some c.in-Some.found) c.years_of-years.ensures first last c.in-Some.ensures

pub returns-in-None : goal.returns-in-None
returns-in-None g c =
    let s = c.args.calendar.now in
    let years = c.years_of-years.result in
    let fits : FitsSigned w32 years.first = search rules in
    let fits_last : FitsSigned w32 years.last = search rules in
    let first : to_z w32 (of_z w32 years.first) ≡ years.first = omega (arith, signed) in
    let last : to_z w32 (of_z w32 years.last) ≡ years.last = omega (arith, signed) in
    found-first (g.C.Calendar.system s).list (g.met.C.Calendar.lawful s) c.args.leaping (month_parts c.args.month) c.args.day c.args.window years.first years.last _ _ None c.years_of-years.ensures first last c.in-None.ensures
