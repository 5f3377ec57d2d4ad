-- Whether a date lies past another within one year, which decides the last step of a difference.
use Rattle.std.specs.Prelude.{◌≡◌, ℕ, ◌<◌, ◌⊎◌, Bool, true, false, ◌<ℤ◌, ◌≤ℤ◌}
use Rattle.cal_types.specs.Month.{month_rank}
use Rattle.cal_types.specs.CalendarList.{CalendarList, Date, month_at, day_number}

-- from t to u is the way of counting
abbrev pub Leads : CalendarList → Bool → Date → Date → Type 0
Leads c false t u = day_number c t ≤ℤ day_number c u
Leads c true t u = day_number c u <ℤ day_number c t

-- past the second within one year
abbrev pub IsPast : Bool → ℕ → ℕ → ℕ → ℕ → Type 0
IsPast false m d n e = (n < m) ⊎ ((n ≡ m) × (e < d))
IsPast true m d n e = (m < n) ⊎ ((m ≡ n) × (d < e))

-- past the second within one month
abbrev pub IsPastDay : Bool → ℕ → ℕ → Type 0
IsPastDay false d e = e < d
IsPastDay true d e = d < e

-- whether the years between two dates pass, where the first date's month has place i in the second date's year
abbrev pub SurpassesInYear : CalendarList → Bool → Date → Date → ℕ → Type 0
SurpassesInYear c back t u i =
    IsPast back (month_rank (month_at c t.year t.month)) t.day (month_rank (month_at c u.year u.month)) u.day
    ⊎ IsPast back i t.day u.month u.day
