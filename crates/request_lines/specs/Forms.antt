-- The form of a request line, as one statement of all its words.
use Rattle.std.specs.Prelude.{◌≡◌, ℕ, List, ◌∷◌, ◌++◌, Some, codes}
use Rattle.cal_kinds.specs.KindNames.{kind_named}
use Rattle.request_lines.specs.BagForms.{SaysBag}
use Rattle.request_lines.specs.Requests.{Request, unit_named, overflow_named, missing_fields_named, request_read}

-- the words that differ from request to request
pub record RequestWords : Type 0 where
  pub calendar : List ℕ
  pub shown : List ℕ
  pub unit : List ℕ
  pub overflow : List ℕ
  pub missing_fields : List ℕ
  pub from : List (List ℕ)
  pub to : List (List ℕ)

-- `span CAL SHOWN UNIT OVERFLOW MISSING from FIELDS to FIELDS`
abbrev pub all_words : RequestWords → List (List ℕ)
all_words w =
    codes "span" ∷ w.calendar ∷ w.shown ∷ w.unit ∷ w.overflow ∷ w.missing_fields ∷ codes "from"
    ∷ (w.from ++ codes "to" ∷ w.to)

-- what a request's words say
pub record Says (w : RequestWords) (r : Request) : Type 0 where
  pub calendar : kind_named w.calendar ≡ Some r.calendar
  pub shown : kind_named w.shown ≡ Some r.shown
  pub unit : unit_named w.unit ≡ Some r.unit
  pub overflow : overflow_named w.overflow ≡ Some r.overflow
  pub missing_fields : missing_fields_named w.missing_fields ≡ Some r.missing_fields
  pub from : SaysBag w.from r.from
  pub to : SaysBag w.to r.to

-- words are of the form, and say a request
pub record IsRequest (words : List (List ℕ)) (r : Request) : Type 0 where
  pub parts : RequestWords
  pub form : words ≡ all_words parts
  pub says : Says parts r

-- words are read as a request exactly where they are of the form and say it
abbrev pub RequestsHaveOneForm : Type 0
RequestsHaveOneForm = (words : List (List ℕ)) (r : Request)
    → (request_read words ≡ Some r → IsRequest words r) × (IsRequest words r → request_read words ≡ Some r)
