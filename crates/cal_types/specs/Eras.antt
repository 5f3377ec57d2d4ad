-- What the codes of eras read as, for eras that several calendars have.
-- Source: the era codes and their aliases of CLDR (UTS 35).
use Rattle.std.specs.Prelude.{ℤ, pos, ◌-ℤ◌, ℕ, List, ◌||◌, codes, Option, None}
use Rattle.cal_types.specs.YearNames.{is_code, year_in_era}

-- a calendar's only era, in which years are numbered as its extended years
abbrev pub only_era_reads : List ℕ → List ℕ → ℤ → Option ℤ
only_era_reads code era n = year_in_era (is_code era code) n None

-- the Common Era, and the years before it, which are counted back from 1
abbrev pub common_era_reads : List ℕ → ℤ → Option ℤ
common_era_reads era n =
    year_in_era (is_code era (codes "ce") || is_code era (codes "ad")) n
    (year_in_era (is_code era (codes "bce") || is_code era (codes "bc")) (pos 1 -ℤ n) None)
