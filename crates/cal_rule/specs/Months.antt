-- Months as texts: one or two digits, and an `L` for a leap month.
-- Source: RFC 7529, 4.2.
use Rattle.std.specs.Prelude.{ℕ, ◌-◌, Bool, true, false, if◌then◌else◌, List, length, take, get_or, Result, Ok, Err}
use Rattle.std.specs.Char.{eq_ignore_ascii_case}
use Rattle.std.specs.Option.{ok_or, option_map}
use Rattle.cal_rule.specs.Steps.{read_then}
use Rattle.cal_kinds.specs.declared.any_calendar_kind.AnyCalendarKind.{AnyCalendarKind}
use Rattle.cal_types.specs.Month.{MonthParts}
use Rattle.word_values.specs.Numbers.{number_of}
use Rattle.cal_rule.specs.KindRanges.{knows_month}
use Rattle.cal_rule.specs.declared.value_fault.ValueFault.{ValueFault}
use Rattle.cal_rule.specs.declared.value_fault.ValueFault.TheVariants.{Bad, OutOfRange}

-- whether the last byte is an `L` (76) of either case
abbrev pub is_leap_item : List ℕ → Bool
is_leap_item item = eq_ignore_ascii_case (get_or item (length item - 1) 0) 76

abbrev pub month_numbered : Bool → List ℕ → Result MonthParts ValueFault
month_numbered is_leap digits =
    ok_or (option_map (λ n. record { number = n; is_leap = is_leap }) (number_of 2 digits)) Bad

abbrev pub month_of : List ℕ → Result MonthParts ValueFault
month_of item =
    if is_leap_item item then month_numbered true (take (length item - 1) item) else month_numbered false item

-- a month, where the calendar knows it
abbrev pub month_known : AnyCalendarKind → MonthParts → Result MonthParts ValueFault
month_known kind m = if knows_month kind m then Ok m else Err OutOfRange

abbrev pub month_read : AnyCalendarKind → List ℕ → Result MonthParts ValueFault
month_read kind item = read_then (month_known kind) (month_of item)
