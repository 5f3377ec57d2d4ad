-- The places of a command line, and what a word makes of each.
use Rattle.std.specs.Prelude.{ℕ, Bool, true, false, List, [], ◌∷◌, Option, Some, None, codes, if◌then◌else◌}
use Rattle.std.specs.Option.{is_some, option_map}
use Rattle.cal_types.specs.Bag.{Bag}
use Rattle.word_values.specs.Numbers.{int_of}
use Rattle.request_lines.specs.Bags.{no_fields, with_whole_word}
use Rattle.request_lines.specs.Words.{is_text}
use Rattle.command_line.specs.Forms.{form_of, is_argument}
use Rattle.command_line.specs.declared.part.Argument.{Argument}
use Rattle.command_line.specs.declared.part.Behind.{Behind}
use Rattle.command_line.specs.declared.part.Behind.TheVariants as behind
use Rattle.command_line.specs.declared.part.CommandPart.{CommandPart}
use Rattle.command_line.specs.declared.part.CommandPart.TheVariants as part

-- before the first word, before an argument, among fields, before the start of a rule, behind one word or fields and a
-- word that is the rule if it is the last one, behind the word `explain`, and behind all words
pub data Place : Type 0 where
  First : Place
  Before : Argument → List Argument → Behind → Place
  InFields : Bag → Place
  AtStart : Place
  BehindStart : List ℕ → Place
  BehindField : Bag → List ℕ → Place
  AtHolidays : Place
  AtEnd : Place

-- behind all arguments
abbrev pub place_behind : Behind → Place
place_behind behind.End = AtEnd
place_behind behind.Fields = InFields no_fields
place_behind behind.StartAndRule = AtStart
place_behind behind.Holidays = AtHolidays

-- before the arguments of a form
abbrev pub place_of : List Argument → Behind → Place
place_of [] rest = place_behind rest
place_of (argument ∷ arguments) rest = Before argument arguments rest

abbrev pub form_place : List Argument × Behind → Place
form_place form = place_of form.0 form.1

-- behind fields and a word that is the rule if it is the last one
abbrev pub behind_field : List ℕ → Bag → Place
behind_field word bag = BehindField bag word

-- behind a start and a word more: the start is a field, or a day and the word the rule
abbrev pub behind_start : Option Bag → Bool → List ℕ → Option Place
behind_start None is_day word = if is_day then Some AtEnd else None
behind_start (Some bag) is_day word = Some (BehindField bag word)

-- the place behind a word
abbrev pub step : Place → List ℕ → Option Place
step First word = option_map form_place (form_of word)
step (Before argument arguments rest) word = if is_argument argument word then Some (place_of arguments rest) else None
step (InFields bag) word = option_map InFields (with_whole_word bag word)
step AtStart word = Some (BehindStart word)
step (BehindStart start) word = behind_start (with_whole_word no_fields start) (is_some (int_of start)) word
step (BehindField bag last) word = option_map (behind_field word) (with_whole_word bag last)
step AtHolidays word = if is_text word (codes "holidays") then Some AtEnd else None
step AtEnd word = None

-- whether a command line may end at a place
abbrev pub may_end : Place → Bool
may_end First = false
may_end (Before argument arguments rest) = false
may_end (InFields bag) = true
may_end AtStart = false
may_end (BehindStart start) = true
may_end (BehindField bag last) = true
may_end AtHolidays = true
may_end AtEnd = true

-- what may stand at a place
abbrev pub part_of : Place → CommandPart
part_of First = part.Command
part_of (Before argument arguments rest) = part.Argument argument
part_of (InFields bag) = part.Field
part_of AtStart = part.StartOrRule
part_of (BehindStart start) = part.BehindRule
part_of (BehindField bag last) = part.BehindRule
part_of AtHolidays = part.Holidays
part_of AtEnd = part.End
