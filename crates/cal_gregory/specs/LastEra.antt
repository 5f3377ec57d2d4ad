-- Which era may be listed after Reiwa, and the eras with it.
use Rattle.std.specs.Prelude.{ℕ, pos, Bool, not, ◌&&◌, ◌||◌, nat_eq, nat_le, int_lt, List, [], ◌∷◌, length, Option, Some, None, if◌then◌else◌}
use Rattle.std.specs.List.{list_all}
use Rattle.cal_days.specs.Day.{is_between}
use Rattle.cal_gregory.specs.JapaneseEraList.{ListedEra, eras_up_to_reiwa}
use Rattle.cal_gregory.specs.declared.era_start_date.EraStartDate.{EraStartDate}

-- a start from 2026 to 2089, in a month from 1 to 15, on a day from 1 to 31
abbrev pub is_last_start : EraStartDate → Bool
is_last_start start =
    is_between (pos 2026) (pos 2089) start.year && (nat_le 1 start.month && nat_le start.month 15)
    && (nat_le 1 start.day && nat_le start.day 31)

-- a letter from `a` to `z`
abbrev pub is_code_letter : ℕ → Bool
is_code_letter b = nat_le 97 b && nat_le b 122

-- a code of such letters alone, one or more
abbrev pub is_last_code : List ℕ → Bool
is_last_code code = not (nat_eq (length code) 0) && list_all is_code_letter code

-- the eras up to Reiwa have the indices up to 6
abbrev pub is_last_index : ℕ → Bool
is_last_index index = nat_eq index 7 || nat_eq index 8

-- an era that may be listed after Reiwa
abbrev pub is_last_era : EraStartDate → List ℕ → ℕ → Bool
is_last_era start code index = is_last_start start && is_last_code code && is_last_index index

-- that era, where it may be listed
abbrev pub last_listed : EraStartDate → List ℕ → ℕ → Option ListedEra
last_listed start code index = if is_last_era start code index then Some (start, code, index) else None

-- the eras up to Reiwa, and a last one
abbrev pub eras_and : Option ListedEra → Option (List ListedEra)
eras_and None = None
eras_and (Some e) = Some (eras_up_to_reiwa (e ∷ []))

-- an era that starts before 2026 isn't a last one: then the eras up to Reiwa are listed, whatever it is
abbrev pub eras_with_last : EraStartDate → List ℕ → ℕ → Option (List ListedEra)
eras_with_last start code index =
    if int_lt start.year (pos 2026) then Some (eras_up_to_reiwa []) else eras_and (last_listed start code index)
