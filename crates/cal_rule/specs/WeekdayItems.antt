-- Weekdays as texts: an optional ordinal, and two letters.
-- Source: RFC 5545, 3.3.10.
use Rattle.std.specs.Prelude.{ℕ, ◌-◌, List, [], ◌∷◌, length, take, drop, Option, Some, None, Result, Ok}
use Rattle.std.specs.Option.{ok_or}
use Rattle.std.specs.Result.{result_map_both}
use Rattle.cal_types.specs.declared.weekday.Weekday.{Weekday}
use Rattle.cal_rule.specs.Places.{place_read}
use Rattle.cal_rule.specs.RuleNames.{weekday_named}
use Rattle.cal_rule.specs.Steps.{read_then}
use Rattle.cal_rule.specs.declared.place_set.Place.{Place}
use Rattle.cal_rule.specs.declared.value_fault.ValueFault.{ValueFault}
use Rattle.cal_rule.specs.declared.value_fault.ValueFault.TheVariants.{Bad}
use Rattle.cal_rule.specs.declared.weekday_places.WeekdayPlace.{WeekdayPlace}

-- what stands before the last two bytes, and these
abbrev pub before_letters : List ℕ → List ℕ × List ℕ
before_letters item = (take (length item - 2) item, drop (length item - 2) item)

-- an ordinal of one or two digits with an optional sign, if there is one
abbrev pub ordinal_read : ℕ → List ℕ → Result (Option Place) ValueFault
ordinal_read most [] = Ok None
ordinal_read most (b ∷ text) =
    result_map_both Some (λ fault. fault) (place_read (record { digits = 2; most = most }) (b ∷ text))

-- the ordinal before a weekday
abbrev pub with_ordinal : ℕ → List ℕ → Weekday → Result WeekdayPlace ValueFault
with_ordinal most text day =
    result_map_both (λ o. record { day = day; ordinal = o }) (λ fault. fault) (ordinal_read most text)

abbrev pub weekday_item_read : ℕ → List ℕ → Result WeekdayPlace ValueFault
weekday_item_read most item =
    let parts = before_letters item in
    read_then (with_ordinal most parts.0) (ok_or (weekday_named parts.1) Bad)
