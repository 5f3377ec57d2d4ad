use Rattle.std.proofs.Common.{◌≡◌, ◌≤◌, ◌∙◌, pos, ◌-ℤ◌, to_z, of_z, w64, arith}
use Rattle.cal_days.proofs.Signed.{signed}
use Rattle.cal_types.specs.CalendarList.{day_number}
use Rattle.cal_holidays.proofs.months.month_of.Goals as goal

pub returns : goal.returns
returns g c =
    let s = c.args.calendar.now in
    let list = (g.C.Calendar.system s).list in
    let dated = g.met.C.Calendar.dated s c.args.date.now c.requires in
    let t = g.C.Calendar.date_of s c.args.date.now in
    let most : t.day ≤ 31 = omega (arith, dated.date.day, (g.met.C.Calendar.lawful s).lengths t.year t.month dated.date.place) in
    let day : c.to_i64_date.result ≡ day_number list t = c.to_i64_date.ensures.value ∙ c.to_rata_die.ensures in
    let held : to_z w64 (of_z w64 c.to_i64_date.result) ≡ c.to_i64_date.result = omega (arith, signed, day, dated.valid) in
    let number : to_z w64 (of_z w64 c.from.result) ≡ pos t.day = omega (arith, signed, c.from.ensures, c.day_of_month.ensures, most) in
    let back : to_z w64 (of_z w64 (to_z w64 (of_z w64 c.to_i64_date.result) -ℤ to_z w64 (of_z w64 c.from.result))) ≡ c.to_i64_date.result -ℤ pos t.day
    = omega (arith, signed, held, number, day, dated.valid, most) in
    record {
      date = dated.date;
      start = omega (arith, signed, back, day);
      days = c.days_in_month.ensures;
      near = omega (arith, signed, back, day, dated.valid, most);
    }
