-- The first number of a row with which there is no year or no era.
use Rattle.std.specs.Prelude.{ℕ, ℤ, pos, ◌+ℤ◌, ◌-ℤ◌, Bool, ◌&&◌, nat_le, int_lt, int_le, List, [], ◌∷◌, Option, Some, None, if◌then◌else◌}
use Rattle.cal_days.specs.Day.{is_between, is_rule_year}
use Rattle.cal_days.specs.Islamic.{islamic_mean_start}
use Rattle.cal_east_asian.specs.EastAsianYear.{is_leap_place, january_19}
use Rattle.cal_gregory.specs.LastEra.{is_last_index}
use Rattle.request_lines.specs.Rows.{EraRow, Row, YearRow, China, Korea, Hijri, Persian, Era}
use Rattle.row_faults.specs.declared.allowed.Allowed.{Allowed}
use Rattle.row_faults.specs.declared.allowed.Allowed.TheVariants.{RuleYear, LunisolarStart, HijriStart, LeapMonth, EraYear, EraMonth, EraDay, EraIndex}

-- what may stand in place of the first of some words that is wrong
abbrev pub first_wrong : List (Bool × Allowed) → Option Allowed
first_wrong [] = None
first_wrong ((is_right, allowed) ∷ words) = if is_right then first_wrong words else Some allowed

-- a Chinese or Korean year may start on a day
abbrev pub is_new_year : ℤ → ℤ → Bool
is_new_year y day = is_between (january_19 y) (january_19 y +ℤ pos 34) day

abbrev pub lunisolar_fault : YearRow → Option Allowed
lunisolar_fault r =
    first_wrong ((is_rule_year r.year, RuleYear) ∷ (is_new_year r.year r.start, LunisolarStart)
    ∷ (is_leap_place r.leap, LeapMonth) ∷ [])

-- a Hijri year may start on a day
abbrev pub is_near_mean : ℤ → ℤ → Bool
is_near_mean y day = is_between (islamic_mean_start y -ℤ pos 5) (islamic_mean_start y +ℤ pos 5) day

abbrev pub hijri_fault : YearRow → Option Allowed
hijri_fault r = first_wrong ((is_rule_year r.year, RuleYear) ∷ (is_near_mean r.year r.start, HijriStart) ∷ [])

-- a number from the least to the most
abbrev pub is_within : ℕ → ℕ → ℕ → Bool
is_within least most n = nat_le least n && nat_le n most

-- an era that starts before 2026 may be named by any numbers
abbrev pub era_fault : EraRow → Option Allowed
era_fault r =
    if int_lt r.start.year (pos 2026) then None
    else first_wrong ((int_le r.start.year (pos 2089), EraYear) ∷ (is_within 1 15 r.start.month, EraMonth)
    ∷ (is_within 1 31 r.start.day, EraDay) ∷ (is_last_index r.index, EraIndex) ∷ [])

abbrev pub row_fault : Row → Option Allowed
row_fault (China r) = lunisolar_fault r
row_fault (Korea r) = lunisolar_fault r
row_fault (Hijri r) = hijri_fault r
row_fault (Persian y) = None
row_fault (Era r) = era_fault r
