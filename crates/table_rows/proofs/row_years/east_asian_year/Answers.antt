use Rattle.std.proofs.Common.{◌≡◌, ◌∙◌, ap, rules, arith, ℤ, FitsSigned, to_z, of_z, w32}
use Rattle.cal_days.proofs.Signed.{signed}
use Rattle.request_lines.specs.RowSaid.{year_row_said}
use Rattle.table_rows.specs.RowYears.{starts_of}
use Rattle.table_rows.proofs.RowYearLemmas.{east_asian_year-made}
use Rattle.table_rows.proofs.row_years.east_asian_year.Goals as goal

pub returns : goal.returns
returns c =
    let row = c.args.row.now in
    let year_fits : FitsSigned w32 row.year = search rules in
    let start_fits : FitsSigned w32 row.start = search rules in
    let year : to_z w32 (of_z w32 row.year) ≡ row.year = omega (arith, signed) in
    let start : to_z w32 (of_z w32 row.start) ≡ row.start = omega (arith, signed) in
    let starts : c.month_starts-starts.result ≡ starts_of 14 row.start row.lengths.now = c.month_starts-starts.ensures ∙ ap (λ (z : ℤ). starts_of 14 z row.lengths.now) start in
    let made = c.try_new.ensures in
    east_asian_year-made (year_row_said row) _ c.month_starts-starts.result c.leap_place.result c.try_new.result year starts c.leap_place.ensures made.some made.number made.start made.leap_month made.lengths made.few
