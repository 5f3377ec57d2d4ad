use Rattle.std.proofs.Common.{◌≡◌, ◌∙◌, ◌&&◌, false, nat_le, sym, ap, to_z, of_z, w32, arith}
use Rattle.std.proofs.lemmas.Bool.Decides.{nat_tests}
use Rattle.cal_days.proofs.Signed.{signed}
use Rattle.icu_calendar.proofs.RecordLemmas.{refused, twelve_months, placed-month, placed-no_month}
use Rattle.icu_calendar.proofs.record_dates.test_in_year.Goals as goal

pub test_day-requires-clause-month : goal.test_day-requires-clause-month
test_day-requires-clause-month c = (omega arith, omega (arith, twelve_months (to_z w32 (of_z w32 c.args.year))))

pub returns-then-month-le-MAX_MONTH : goal.returns-then-month-le-MAX_MONTH
returns-then-month-le-MAX_MONTH c =
    let same : to_z w32 (of_z w32 c.args.year) ≡ c.args.year = omega (arith, signed) in
    rw same at c.test_day.ensures ∙ sym (placed-month c.args.year c.args.month c.args.day (omega arith) (omega arith))

pub returns-else-month-ge1 : goal.returns-else-month-ge1
returns-else-month-ge1 c =
    let out : (nat_le 1 c.args.month && nat_le c.args.month 12) ≡ false = grind (arith, nat_tests) in
    ap refused c.not_up_to.ensures ∙ sym (placed-no_month c.args.year c.args.month c.args.day out)
