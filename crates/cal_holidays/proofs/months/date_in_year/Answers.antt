use Rattle.std.proofs.Common.{rules, ◌≡◌, sym, ap, ◌∙◌, refl, arith, FitsSigned, w32, to_z, of_z, ℤ, nat_le}
use Rattle.std.proofs.lemmas.Bool.Decides.{nat_tests}
use Rattle.cal_days.proofs.Signed.{signed}
use Rattle.cal_types.specs.Bag.{year_month_day}
use Rattle.cal_types.specs.MonthParts.{month_parts}
use Rattle.cal_types.proofs.DateTests.{and-left, and-right}
use Rattle.cal_anniversary.specs.Asking.{IsAsked}
use Rattle.cal_anniversary.proofs.YearLemmas.{resolved-of_year, refused-none}
use Rattle.cal_holidays.proofs.months.date_in_year.Goals as goal

pub returns-in-Ok : goal.returns-in-Ok
returns-in-Ok g c =
    let s = g.C.Calendar.system c.args.calendar.now in
    let m = month_parts c.args.asked.month in
    let d = c.args.asked.day in
    let fits : FitsSigned w32 c.args.year = search rules in
    let same : to_z w32 (of_z w32 c.args.year) ≡ c.args.year = omega (arith, signed) in
    let bag = c.from_year_month_day-fields.ensures ∙ ap (λ (y : ℤ). year_month_day y m d) same in
    let low = and-left (nat_le 1 d) (nat_le d 31) c.requires.day in
    let high = and-right (nat_le 1 d) (nat_le d 31) c.requires.day in
    let asked : IsAsked s.list m d = record { kind = c.requires.month; day = (grind (arith, nat_tests, low), grind (arith, nat_tests, high)) } in
    (c.in-Ok.ensures.belongs, resolved-of_year s.list (g.met.C.Calendar.lawful c.args.calendar.now) s.year_names c.args.asked.leaping m d c.args.year _ _ _ _ asked c.requires.year bag c.overflow_for.ensures (sym c.in-Ok.ensures.resolved) refl)

pub returns-in-Err : goal.returns-in-Err
returns-in-Err g c =
    let s = g.C.Calendar.system c.args.calendar.now in
    let m = month_parts c.args.asked.month in
    let d = c.args.asked.day in
    let fits : FitsSigned w32 c.args.year = search rules in
    let same : to_z w32 (of_z w32 c.args.year) ≡ c.args.year = omega (arith, signed) in
    let bag = c.from_year_month_day-fields.ensures ∙ ap (λ (y : ℤ). year_month_day y m d) same in
    let low = and-left (nat_le 1 d) (nat_le d 31) c.requires.day in
    let high = and-right (nat_le 1 d) (nat_le d 31) c.requires.day in
    let asked : IsAsked s.list m d = record { kind = c.requires.month; day = (grind (arith, nat_tests, low), grind (arith, nat_tests, high)) } in
    refused-none s.list (g.met.C.Calendar.lawful c.args.calendar.now) s.year_names c.args.asked.leaping m d c.args.year _ _ _ asked c.requires.year bag c.overflow_for.ensures (sym c.in-Err.ensures.resolved)
