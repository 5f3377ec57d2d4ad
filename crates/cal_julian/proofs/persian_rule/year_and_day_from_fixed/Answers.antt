use Rattle.std.proofs.Common.{◌≡◌, ◌+◌, ◌*◌, ◌/◌, ◌%◌, pos, nat_abs, ◌+ℤ◌, ◌-ℤ◌, ◌*ℤ◌, ◌<ℤ◌, to_z, of_z, w32, w64, arith}
use Rattle.cal_days.specs.Division.{floor_div}
use Rattle.cal_days.specs.Persian.{persian_start}
use Rattle.cal_days.proofs.Signed.{signed_casts}
use Rattle.cal_days.proofs.PersianLemmas.{persian_start-finds, persian_years-counted}
use Rattle.cal_julian.proofs.PersianDayLemmas.{persian_day-counted}
use Rattle.cal_julian.proofs.persian_rule.year_and_day_from_fixed.Goals as goal

found : (c : goal.After-to_i64_date) → let days = nat_abs (to_z w64 (of_z w64 (to_z w64 (of_z w64 (to_z w64 (of_z w64 c.to_i64_date.result) -ℤ pos 226895)) +ℤ pos 373643000))) in let year = to_z w32 (of_z w32 (to_z w32 (of_z w32 (to_z w32 ((33 * days + 3) / 12053) -ℤ pos 1023000)) +ℤ pos 1)) in (persian_start year +ℤ pos ((33 * days + 3) % 12053 / 33) ≡ c.args.rd) × (c.args.rd <ℤ persian_start (year +ℤ pos 1))
found c =
    let days = nat_abs (to_z w64 (of_z w64 (to_z w64 (of_z w64 (to_z w64 (of_z w64 c.to_i64_date.result) -ℤ pos 226895)) +ℤ pos 373643000))) in
    let year = to_z w32 (of_z w32 (to_z w32 (of_z w32 (to_z w32 ((33 * days + 3) / 12053) -ℤ pos 1023000)) +ℤ pos 1)) in
    let counted : pos days ≡ c.args.rd +ℤ pos 373416105 = omega (arith, signed_casts, c.to_i64_date.ensures, c.requires) in
    let years : pos ((33 * days + 3) / 12053) ≡ floor_div (pos 33 *ℤ (c.args.rd -ℤ pos 226895) +ℤ pos 3) 12053 +ℤ pos 1023000 = omega (arith, signed_casts, persian_years-counted c.args.rd days counted) in
    let same : year ≡ floor_div (pos 33 *ℤ (c.args.rd -ℤ pos 226895) +ℤ pos 3) 12053 +ℤ pos 1 = omega (arith, signed_casts, years, counted, c.requires) in
    let number : year ≡ pos ((33 * days + 3) / 12053) -ℤ pos 1022999 = omega (arith, signed_casts, years, same) in
    (persian_day-counted c.args.rd year days counted number, (persian_start-finds c.args.rd year same).1)

pub returns-clause-day : goal.returns-clause-day
returns-clause-day c = (found c).0

pub returns-clause-within : goal.returns-clause-within
returns-clause-within c = (found c).1
