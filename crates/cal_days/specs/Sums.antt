-- Sums over years in a row, where each year has a size, as its days or its months.
use Rattle.std.specs.Prelude.{ℕ, zero, suc, ◌+◌, ℤ, pos, negsuc, ◌+ℤ◌, ◌-ℤ◌}

-- the number itself, and 0 where it is negative
abbrev pub years_up : ℤ → ℕ
years_up (pos n) = n
years_up (negsuc n) = 0

-- what n years come to, from the year y on
unfoldable pub total : (ℤ → ℕ) → ℤ → ℕ → ℕ
total size y zero = 0
total size y (suc n) = total size y n + size (y +ℤ pos n)

-- what the years come to from `from` up to the one before `to`;
-- where `to` is before `from`, those from `to` up to the one before `from` are taken away
unfoldable pub span : (ℤ → ℕ) → ℤ → ℤ → ℤ
span size from to = pos (total size from (years_up (to -ℤ from))) -ℤ pos (total size to (years_up (from -ℤ to)))
