-- Places as texts: an optional sign and some digits. A minus counts from the back.
-- Source: RFC 5545, 3.3.10.
use Rattle.std.specs.Prelude.{ℕ, ◌==◌, ◌&&◌, nat_le, Bool, true, false, if◌then◌else◌, List, [], ◌∷◌, Result, Ok, Err}
use Rattle.std.specs.Option.{ok_or}
use Rattle.cal_rule.specs.Steps.{read_then}
use Rattle.word_values.specs.Numbers.{number_of}
use Rattle.cal_rule.specs.declared.place_set.Place.{Place}
use Rattle.cal_rule.specs.declared.place_set.Place.TheVariants.{FromFront, FromBack}
use Rattle.cal_rule.specs.declared.places.PlaceForm.{PlaceForm}
use Rattle.cal_rule.specs.declared.value_fault.ValueFault.{ValueFault}
use Rattle.cal_rule.specs.declared.value_fault.ValueFault.TheVariants.{Bad, OutOfRange}

-- whether a minus (45) stands first, and what stands behind it or behind a plus (43)
abbrev pub signed : List ℕ → Bool × List ℕ
signed [] = (false, [])
signed (b ∷ rest) = if b == 45 then (true, rest) else if b == 43 then (false, rest) else (false, b ∷ rest)

-- the place with a number
abbrev pub place : Bool → ℕ → Place
place true n = FromBack n
place false n = FromFront n

-- the same, where the number is from 1 to the greatest
abbrev pub place_in_range : ℕ → Bool → ℕ → Result Place ValueFault
place_in_range most from_back n = if nat_le 1 n && nat_le n most then Ok (place from_back n) else Err OutOfRange

-- an optional sign, and from one digit up to so many
abbrev pub place_read : PlaceForm → List ℕ → Result Place ValueFault
place_read form item =
    let parts = signed item in
    read_then (place_in_range form.most parts.0) (ok_or (number_of form.digits parts.1) Bad)
