-- Lists of values, which commas join, as sets.
-- Source: RFC 5545, 3.3.10.
use Rattle.std.specs.Prelude.{◌≡◌, ℕ, Bool, List, [], ◌∷◌, Option, Some, None, Result, Ok, Err}
use Rattle.std.specs.List.{list_any}
use Rattle.std.specs.Result.{result_unwrap_or}
use Rattle.cal_rule.specs.Pieces.{pieces_of}
use Rattle.cal_rule.specs.declared.value_fault.ValueFault.{ValueFault}

-- one more value before others
abbrev pub in_front : {V : Type 0} → V → Result (List V) ValueFault → Result (List V) ValueFault
in_front x (Ok xs) = Ok (x ∷ xs)
in_front x (Err e) = Err e

-- what one value and the others come to: the first fault decides
abbrev pub first_and : {V : Type 0} → Result V ValueFault → Result (List V) ValueFault → Result (List V) ValueFault
first_and (Ok x) others = in_front x others
first_and (Err e) others = Err e

-- the values of some texts
abbrev pub all_read : {V : Type 0} → (List ℕ → Result V ValueFault) → List (List ℕ) → Result (List V) ValueFault
all_read read [] = Ok []
all_read read (item ∷ items) = first_and (read item) (all_read read items)

-- the values of a list, which commas (44) join
abbrev pub list_read : {V : Type 0} → (List ℕ → Result V ValueFault) → List ℕ → Result (List V) ValueFault
list_read read text = all_read read (pieces_of 44 text)

-- the same where there may be no list: then there is no value
abbrev pub values_of : {V : Type 0} → (List ℕ → Result V ValueFault) → Option (List ℕ) → List V
values_of read None = []
values_of read (Some text) = result_unwrap_or (list_read read text) []

-- a set has the values of a list and no other
abbrev pub HasValues : {S V : Type 0} → (S → V → Bool) → (V → V → Bool) → S → List V → Type 0
HasValues {V = V} has same set values = (v : V) → has set v ≡ list_any (same v) values

-- a set was read where a list was, and the fault is the list's
abbrev pub IsSetRead : {S V : Type 0} → (S → V → Bool) → (V → V → Bool) →
    Result S ValueFault → Result (List V) ValueFault → Type 0
IsSetRead has same (Ok set) (Ok values) = HasValues has same set values
IsSetRead has same (Err e) (Err f) = e ≡ f
IsSetRead has same (Ok set) (Err f) = ⊥
IsSetRead has same (Err e) (Ok values) = ⊥
