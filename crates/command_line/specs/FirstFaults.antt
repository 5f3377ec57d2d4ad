-- A first fault, by what command lines name alone.
use Rattle.std.specs.Prelude.{◌≡◌, ℕ, ◌+◌, Bool, true, false, ◌&&◌, List, [], ◌∷◌, ◌++◌, Some, length, MatchOption, codes}
use Rattle.std.specs.List.{list_all}
use Rattle.std.specs.Option.{is_some}
use Rattle.request_lines.specs.Bags.{field_read, is_word_byte}
use Rattle.request_lines.specs.Words.{is_text}
use Rattle.command_line.specs.Command.{Asked, command_of}
use Rattle.command_line.specs.Faults.{first_fault}
use Rattle.command_line.specs.Forms.{form_of, is_argument}
use Rattle.command_line.specs.declared.faults.CommandFault.{CommandFault}
use Rattle.command_line.specs.declared.part.CommandPart.{CommandPart}
use Rattle.command_line.specs.declared.part.CommandPart.TheVariants.{Command, Argument, Field, StartOrRule, BehindRule, Holidays, End}

-- the words name a command
abbrev pub NameCommand : List (List ℕ) → Type 0
NameCommand words = (asked : Asked) × (command_of words ≡ Some asked)

-- some words that name a command begin with these
pub record Begins (words : List (List ℕ)) : Type 0 where
  pub more : List (List ℕ)
  pub name : NameCommand (words ++ more)

-- the words before name a command with others, but not with the next word; or not alone, where there is none
abbrev pub GoesWrong : List (List ℕ) → List (List ℕ) → Type 0
GoesWrong before [] = NameCommand before → ⊥
GoesWrong before (word ∷ behind) = Begins (before ++ word ∷ []) → ⊥

-- the words that may stand at a place with this part; where fields may, also those whose key is there already
abbrev pub may_stand : CommandPart → List ℕ → Bool
may_stand Command word = is_some (form_of word)
may_stand (Argument argument) word = is_argument argument word
may_stand Field word = list_all is_word_byte word && is_some (field_read word)
may_stand StartOrRule word = true
may_stand BehindRule word = false
may_stand Holidays word = is_text word (codes "holidays")
may_stand End word = false

-- the fault is at the first word with which no command goes on, and a command goes on with such words only
pub record IsFirstFault (words : List (List ℕ)) (fault : CommandFault) : Type 0 where
  pub before : List (List ℕ)
  pub behind : List (List ℕ)
  pub parts : words ≡ before ++ behind
  pub counted : fault.word ≡ length before + 1
  pub begins : Begins before
  pub wrong : GoesWrong before behind
  pub others : (word : List ℕ) → Begins (before ++ word ∷ []) → may_stand fault.part word ≡ true

-- there is no fault exactly where the words name a command, and a fault is the first one
abbrev pub FaultsAreFirst : Type 0
FaultsAreFirst = (words : List (List ℕ))
    → MatchOption (first_fault words) (NameCommand words) (λ fault. IsFirstFault words fault)
