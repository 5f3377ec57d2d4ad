-- The month that a day of a Persian year lies in.
use Rattle.std.proofs.Common.{ℕ, ◌+◌, ◌-◌, ◌/◌, if◌then◌else◌}
use Rattle.std.specs.Prelude.{nat_lt}

-- the month of a day of the year, counted from 0
abbrev pub month_of_day : ℕ → ℕ
month_of_day p = if nat_lt p 186 then p / 31 + 1 else (p - 186) / 30 + 7
