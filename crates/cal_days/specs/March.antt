-- Years that begin on March 1, counted from 0, so that nothing is negative.
-- Source: Neri and Schneider, Euclidean affine functions and their application to calendar algorithms (2022).
use Rattle.std.specs.Prelude.{ℕ, ◌+◌, ◌-◌, ◌*◌, ◌/◌}

-- the days of the first n of these years
abbrev pub march_days : ℕ → ℕ
march_days n = 365 * n + (n / 4 - n / 100 + n / 400)

-- the days of the first n of them where every fourth has a leap day
abbrev pub julian_march_days : ℕ → ℕ
julian_march_days n = 365 * n + n / 4
