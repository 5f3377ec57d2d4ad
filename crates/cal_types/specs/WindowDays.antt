-- What is left of a window.
use Rattle.std.specs.Prelude.{◌≡◌, MatchOption, Option, ℤ, pos, ◌+ℤ◌}
use Rattle.cal_types.specs.declared.window.Window.{Window}

-- the window from the day after one on: none where that one is the last
abbrev pub IsAfter : Window → ℤ → Option Window → Type 0
IsAfter w n rest = MatchOption rest (n ≡ w.last) (λ r. (r.first ≡ n +ℤ pos 1) × (r.last ≡ w.last))
