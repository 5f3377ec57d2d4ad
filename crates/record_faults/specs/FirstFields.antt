-- The first invalid field of a record, by the valid records alone.
use Rattle.std.specs.Prelude.{◌≡◌, ℕ, zero, suc, ◌+◌, List, ◌∷◌, ◌++◌, length, MatchOption, Ok}
use Rattle.cal_holidays.specs.Records.{record_read}
use Rattle.cal_holidays.specs.Rules.{NamedRule}
use Rattle.record_faults.specs.RecordFaults.{record_fault}

-- a book may have a record of these fields
abbrev pub IsValid : List (List ℕ) → Type 0
IsValid fields = (named : NamedRule) × (record_read fields ≡ Ok named)

-- valid records begin with the fields before one, and none goes on with it
pub record IsFirstInvalid (fields : List (List ℕ)) (number : ℕ) : Type 0 where
  pub before : List (List ℕ)
  pub bad : List ℕ
  pub behind : List (List ℕ)
  pub parts : fields ≡ before ++ bad ∷ behind
  pub counted : number ≡ length before + 1
  pub begins : (more : List (List ℕ)) × IsValid (before ++ more)
  pub wrong : (more : List (List ℕ)) → IsValid (before ++ bad ∷ more) → ⊥

-- the number of the first invalid field; 0 if no valid record has as many fields
abbrev pub IsFault : List (List ℕ) → ℕ → Type 0
IsFault fields zero = (others : List (List ℕ)) → length others ≡ length fields → IsValid others → ⊥
IsFault fields (suc n) = IsFirstInvalid fields (suc n)

-- there is no fault exactly if the record is valid, and a fault is in the first invalid field
abbrev pub FieldsAreFirst : Type 0
FieldsAreFirst = (fields : List (List ℕ)) →
    MatchOption (record_fault fields) (IsValid fields) (λ fault. IsFault fields fault.field)
