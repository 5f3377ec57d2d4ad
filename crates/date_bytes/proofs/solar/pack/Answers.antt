use Rattle.std.proofs.Common.{◌≡◌, ◌∙◌, ℤ, ap, arith, to_z, of_z, w32}
use Rattle.cal_days.specs.Day.{IsFieldYear}
use Rattle.cal_days.proofs.Signed.{signed}
use Rattle.date_bytes.specs.Bytes.{date_number, date_bytes, year_from, month_from, day_from}
use Rattle.date_bytes.proofs.ByteLemmas.{bytes-said, number-fits, year-kept, month-kept, day-kept}
use Rattle.date_bytes.proofs.solar.pack.Goals as goal

kept : (y : ℤ) → IsFieldYear y → to_z w32 (of_z w32 y) ≡ y
kept y field = omega (arith, signed, field)

bytes : (c : goal.After-to_le_bytes) → c.to_le_bytes.result ≡ date_bytes c.args.year c.args.month c.args.day
bytes c =
    let fits = number-fits c.args.year c.args.month c.args.day c.requires.year c.requires.month.1 c.requires.day.1 in
    bytes-said c.date_number.result (date_number c.args.year c.args.month c.args.day) _ c.to_le_bytes.ensures
    (c.date_number.ensures ∙ ap (λ (y : ℤ). date_number y c.args.month c.args.day) (kept c.args.year c.requires.year)) fits

pub returns-clause-bytes : goal.returns-clause-bytes
returns-clause-bytes c = bytes c

pub returns-clause-year : goal.returns-clause-year
returns-clause-year c = ap (year_from 0) (bytes c) ∙ year-kept c.args.year c.args.month c.args.day c.requires.year c.requires.month.1 c.requires.day.1

pub returns-clause-month : goal.returns-clause-month
returns-clause-month c = ap (month_from 0) (bytes c) ∙ month-kept c.args.year c.args.month c.args.day c.requires.year c.requires.month.1 c.requires.day.1

pub returns-clause-day : goal.returns-clause-day
returns-clause-day c = ap (day_from 0) (bytes c) ∙ day-kept c.args.year c.args.month c.args.day c.requires.year c.requires.month.1 c.requires.day.1
