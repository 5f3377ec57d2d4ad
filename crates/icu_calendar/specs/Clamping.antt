-- Day numbers of any size, and answers of calls that change a date.
use Rattle.std.specs.Prelude.{ℤ, pos, neg_ℤ, int_lt, if◌then◌else◌, Result, Ok, Err}
use Rattle.cal_types.specs.CalendarList.{Date}

-- the nearest day number of the valid range, from -999999-01-01 to 999999-12-31 in the proleptic Gregorian calendar
abbrev pub clamped_day : ℤ → ℤ
clamped_day n =
    let first = neg_ℤ (pos 365242499) in
    let last = pos 365242134 in
    if int_lt n first then first else if int_lt last n then last else n

-- a call's answer, with the date that it left where it did not refuse
abbrev pub done_with : {T E : Type 0} → Result T E → Date → Result Date E
done_with (Ok x) t = Ok t
done_with (Err e) t = Err e
