-- The months of listed years, and their days.
use Rattle.std.specs.Prelude.{ℕ, Bool, nat_le, List, length, sum_by}
use Rattle.std.specs.List.{list_all}
use Rattle.std.specs.Borrow.{Bor}
use Rattle.cal_listed.specs.declared.listed_years.ListedMonth.{ListedMonth}

-- the months of a listed year, by reference
abbrev pub YearList : Type 0
YearList = Bor (List ListedMonth)

-- the days of some listed months
abbrev pub days_in : List ListedMonth → ℕ
days_in months = sum_by (λ m. m.days) months

-- the days of some listed years
abbrev pub days_in_years : List YearList → ℕ
days_in_years years = sum_by (λ year. days_in year.now) years

-- no year has more than 13 months
abbrev pub are_short : List YearList → Bool
are_short years = list_all (λ year. nat_le (length year.now) 13) years
