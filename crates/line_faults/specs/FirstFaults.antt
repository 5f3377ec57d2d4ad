-- A first fault, by the forms of requests and rows alone.
use Rattle.std.specs.Prelude.{◌≡◌, ℕ, ◌+◌, true, List, [], ◌∷◌, ◌++◌, ◌⊎◌, length, MatchOption}
use Rattle.std.specs.List.{list_all}
use Rattle.request_lines.specs.Bags.{is_word_byte}
use Rattle.request_lines.specs.Forms.{IsRequest}
use Rattle.request_lines.specs.Requests.{Request}
use Rattle.request_lines.specs.RowForms.{IsRow}
use Rattle.request_lines.specs.Rows.{Row}
use Rattle.line_faults.specs.Faults.{first_fault}
use Rattle.line_faults.specs.declared.faults.LineFault.{LineFault}

-- the words are a request, or a row
abbrev pub IsWellFormed : List (List ℕ) → Type 0
IsWellFormed words = ((r : Request) × IsRequest words r) ⊎ ((r : Row) × IsRow words r)

-- each word can stand in a line: it has no space and no line feed
abbrev pub AreWords : List (List ℕ) → Type 0
AreWords [] = Unit {0}
AreWords (word ∷ words) = (list_all is_word_byte word ≡ true) × AreWords words

-- some well-formed line begins with these words
pub record Begins (words : List (List ℕ)) : Type 0 where
  pub more : List (List ℕ)
  pub are_words : AreWords more
  pub well_formed : IsWellFormed (words ++ more)

-- the words before are well-formed with others, but not with the next word; or not alone, where there is none
abbrev pub GoesWrong : List (List ℕ) → List (List ℕ) → Type 0
GoesWrong before [] = IsWellFormed before → ⊥
GoesWrong before (word ∷ behind) = Begins (before ++ word ∷ []) → ⊥

-- the fault is at the first word with which no well-formed line goes on
pub record IsFirstFault (words : List (List ℕ)) (fault : LineFault) : Type 0 where
  pub before : List (List ℕ)
  pub behind : List (List ℕ)
  pub parts : words ≡ before ++ behind
  pub counted : fault.word ≡ length before + 1
  pub begins : Begins before
  pub wrong : GoesWrong before behind

-- there is no fault exactly where the words are well-formed, and a fault is the first one
abbrev pub FaultsAreFirst : Type 0
FaultsAreFirst = (words : List (List ℕ)) → AreWords words
    → MatchOption (first_fault words) (IsWellFormed words) (λ fault. IsFirstFault words fault)
