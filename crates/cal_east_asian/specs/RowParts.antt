-- What the numbers of a row are read as.
use Rattle.std.proofs.Common.{ℕ, min, if◌then◌else◌, ℤ, pos, ◌+ℤ◌}
use Rattle.cal_east_asian.specs.EastAsianYear.{january_19, is_leap_place}
use Rattle.cal_east_asian.specs.RuleYears.{rule_year}
use Rattle.cal_east_asian.specs.declared.east_asian_row.EastAsianRow.{EastAsianRow}

-- a place of the leap month; one that no year has is read as none
abbrev pub place_or_none : ℕ → ℕ
place_or_none p = if is_leap_place p then p else 0

-- the number, or the nearest one of a rule year
abbrev pub row_number : EastAsianRow → ℤ
row_number row = rule_year row.related_iso

-- the first day, counted from January 19; an offset above 34 is read as 34
abbrev pub row_start : EastAsianRow → ℤ
row_start row = january_19 (row_number row) +ℤ pos (min row.start_offset 34)
