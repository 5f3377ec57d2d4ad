-- Which rule of a book names which day, and the holidays of a stretch of days.
use Rattle.std.specs.Prelude.{ℕ, ℤ, Bool, false, List, length, Option, Some, None, slice_get}
use Rattle.cal_tables.specs.Kinds.{TableContents}
use Rattle.cal_holidays.specs.Merging.{listed}
use Rattle.cal_holidays.specs.Naming.{names_day}
use Rattle.cal_holidays.specs.Rules.{NamedRule}

-- where there is such a rule
abbrev pub names_if : TableContents → Option NamedRule → ℤ → Bool
names_if t None n = false
names_if t (Some named) n = names_day t named.kept n

abbrev pub names_in_book : TableContents → List NamedRule → ℕ → ℤ → Bool
names_in_book t rules r n = names_if t (slice_get rules r) n

-- the days from a first one to a last one that the rules of a book name, each with the rule's number, in order; without
-- the rules before one on the first day
abbrev pub holidays_in : TableContents → List NamedRule → ℤ → ℤ → ℕ → List (ℤ × ℕ)
holidays_in t rules first last first_rule =
    listed (names_in_book t rules) (length rules) (record { first = first; last = last; first_rule = first_rule })
