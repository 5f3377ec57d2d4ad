-- The numbers of COUNT and INTERVAL.
-- Source: RFC 5545, 3.3.10, where they are positive numbers of any number of digits.
use Rattle.std.specs.Prelude.{ℕ, ◌&&◌, nat_le, nat_lt, if◌then◌else◌, List, length, Result, Ok, Err}
use Rattle.std.specs.Char.{is_ascii_digit}
use Rattle.std.specs.List.{list_all}
use Rattle.word_values.specs.Numbers.{digits_value}
use Rattle.cal_rule.specs.declared.value_fault.ValueFault.{ValueFault}
use Rattle.cal_rule.specs.declared.value_fault.ValueFault.TheVariants.{Bad, OutOfRange}

-- a number that may be one
abbrev pub count_in_range : ℕ → Result ℕ ValueFault
count_in_range n = if nat_le 1 n && nat_le n 999999999 then Ok n else Err OutOfRange

-- one or more digits
abbrev pub count_read : List ℕ → Result ℕ ValueFault
count_read text =
    if nat_lt 0 (length text) && list_all is_ascii_digit text then count_in_range (digits_value text) else Err Bad
