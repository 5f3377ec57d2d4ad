-- The first anniversary of some years.
use Rattle.std.specs.Prelude.{ℕ, MatchOption, Option, ℤ, pos, ◌+ℤ◌}
use Rattle.cal_types.specs.Month.{MonthParts}
use Rattle.cal_types.specs.CalendarList.{CalendarList}
use Rattle.cal_anniversary.specs.YearlyDays.{HasNone, IsFirst}
use Rattle.cal_types.specs.declared.leaping.Leaping.{Leaping}
use Rattle.cal_anniversary.specs.declared.yearly_day.Found.{Found}

-- the first anniversary in a window of the years from a first to a last one, with its year
abbrev pub IsFirstFound : CalendarList → Leaping → MonthParts → ℕ → ℤ → ℤ → ℤ → ℤ → Option Found → Type 0
IsFirstFound c leaping m d from to first last found =
    MatchOption found (HasNone c leaping m d from to first (last +ℤ pos 1))
    (λ f. IsFirst c leaping m d from to first last f.day f.year)
