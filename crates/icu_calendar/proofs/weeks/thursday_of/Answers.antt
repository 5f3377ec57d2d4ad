use Rattle.std.proofs.Common.{◌≡◌, ◌∙◌, pos, ◌+ℤ◌, ◌-ℤ◌, to_z, of_z, w64, arith}
use Rattle.cal_days.specs.Division.{floor_mod}
use Rattle.cal_days.proofs.Signed.{signed}
use Rattle.cal_days.proofs.DivisionLemmas.{floor_mod-is, floor_parts}
use Rattle.icu_calendar.proofs.WeekLemmas.{thursday_found, thursday-valid}
use Rattle.icu_calendar.proofs.weeks.thursday_of.Goals as goal

-- three days after the day, less the days since Monday
thursday : (c : goal.After-new) → c.new.result ≡ c.args.rd +ℤ pos 3 -ℤ pos (floor_mod (c.args.rd -ℤ pos 1) 7)
thursday c =
    let before : to_z w64 (of_z w64 (to_z w64 (of_z w64 c.to_i64_date-day.result) -ℤ pos 1)) ≡ c.args.rd -ℤ pos 1 = omega (arith, signed, c.requires, c.to_i64_date-day.ensures) in
    let rest : c.rem_euclid.result ≡ pos (floor_mod (c.args.rd -ℤ pos 1) 7) = rw before at c.rem_euclid.ensures.value ∙ floor_mod-is (c.args.rd -ℤ pos 1) 7 (omega arith) in
    omega (arith, signed, c.requires, c.to_i64_date-day.ensures, c.new.ensures, rest, floor_parts (c.args.rd -ℤ pos 1) 7)

pub returns-clause-of : goal.returns-clause-of
returns-clause-of c = thursday_found c.args.rd c.new.result (thursday c)

pub returns-clause-valid : goal.returns-clause-valid
returns-clause-valid c = thursday-valid c.args.rd c.new.result (thursday c) c.requires
