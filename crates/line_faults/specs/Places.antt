-- The places of a line, and what a word makes of each.
use Rattle.std.specs.Prelude.{ℕ, Bool, true, false, List, length, ◌==◌, Option, Some, None, codes, if◌then◌else◌}
use Rattle.std.specs.Option.{is_some, option_and_then}
use Rattle.cal_kinds.specs.KindNames.{kind_named}
use Rattle.cal_types.specs.Bag.{Bag}
use Rattle.word_values.specs.Numbers.{byte_of, int_of}
use Rattle.request_lines.specs.Bags.{no_fields, with_whole_word}
use Rattle.request_lines.specs.Requests.{missing_fields_named, overflow_named, unit_named}
use Rattle.request_lines.specs.Rows.{are_lengths, code_of, months_beside}
use Rattle.request_lines.specs.Words.{is_text}
use Rattle.line_faults.specs.declared.expected.Expected.{Expected}
use Rattle.line_faults.specs.declared.expected.Expected.TheVariants.{First, Calendar, Shown, Unit, Overflow, MissingFields, From, FieldOrTo, Field, Table, LunisolarYear, LunisolarStart, LunisolarLengths, NoLeapMonth, LeapMonth, HijriYear, HijriStart, HijriLengths, PersianYear, EraYear, EraMonth, EraDay, EraCode, EraIndex, End}

-- the next place behind a word that was read
abbrev pub led : Expected → Bool → Option Expected
led next is_read = if is_read then Some next else None

-- behind the first word
abbrev pub behind_first : List ℕ → Option Expected
behind_first word =
    if is_text word (codes "span") then Some Calendar
    else (if is_text word (codes "row") then Some Table else None)

-- behind the name of a table
abbrev pub behind_table : List ℕ → Option Expected
behind_table word =
    if is_text word (codes "china") then Some LunisolarYear
    else (if is_text word (codes "korea") then Some LunisolarYear
    else (if is_text word (codes "hijri") then Some HijriYear
    else (if is_text word (codes "persian") then Some PersianYear
    else (if is_text word (codes "era") then Some EraYear else None))))

-- behind the lengths of 12 or 13 months
abbrev pub behind_lengths : List ℕ → Option Expected
behind_lengths word =
    if are_lengths 13 word then (if length word == 12 then Some NoLeapMonth else Some LeapMonth) else None

-- the place of a leap month, or 0, that goes with so many months
abbrev pub beside_months : ℕ → ℕ → Option ℕ
beside_months months leap = if months == months_beside leap then Some leap else None

abbrev pub months_word : ℕ → List ℕ → Option ℕ
months_word months word = option_and_then (beside_months months) (byte_of word)

-- behind a word that is no field
abbrev pub place_behind : Expected → List ℕ → Option Expected
place_behind First word = behind_first word
place_behind Calendar word = led Shown (is_some (kind_named word))
place_behind Shown word = led Unit (is_some (kind_named word))
place_behind Unit word = led Overflow (is_some (unit_named word))
place_behind Overflow word = led MissingFields (is_some (overflow_named word))
place_behind MissingFields word = led From (is_some (missing_fields_named word))
place_behind From word = led FieldOrTo (is_text word (codes "from"))
place_behind FieldOrTo word = None
place_behind Field word = None
place_behind Table word = behind_table word
place_behind LunisolarYear word = led LunisolarStart (is_some (int_of word))
place_behind LunisolarStart word = led LunisolarLengths (is_some (int_of word))
place_behind LunisolarLengths word = behind_lengths word
place_behind NoLeapMonth word = led End (is_some (months_word 12 word))
place_behind LeapMonth word = led End (is_some (months_word 13 word))
place_behind HijriYear word = led HijriStart (is_some (int_of word))
place_behind HijriStart word = led HijriLengths (is_some (int_of word))
place_behind HijriLengths word = led End (are_lengths 12 word)
place_behind PersianYear word = led End (is_some (int_of word))
place_behind EraYear word = led EraMonth (is_some (int_of word))
place_behind EraMonth word = led EraDay (is_some (byte_of word))
place_behind EraDay word = led EraCode (is_some (byte_of word))
place_behind EraCode word = led EraIndex (is_some (code_of word))
place_behind EraIndex word = led End (is_some (byte_of word))
place_behind End word = None

-- a place with the fields so far, where there is one
abbrev pub with_bag : Option Expected → Bag → Option (Expected × Bag)
with_bag None bag = None
with_bag (Some at) bag = Some (at, bag)

abbrev pub with_place : Expected → Option Bag → Option (Expected × Bag)
with_place at None = None
with_place at (Some bag) = Some (at, bag)

-- the place behind a word, and the fields so far of the date that is being read
abbrev pub step : Expected → Bag → List ℕ → Option (Expected × Bag)
step FieldOrTo bag word =
    if is_text word (codes "to") then Some (Field, no_fields)
    else with_place FieldOrTo (with_whole_word bag word)
step Field bag word = with_place Field (with_whole_word bag word)
step at bag word = with_bag (place_behind at word) bag

-- whether a line may end at a place
abbrev pub may_end : Expected → Bool
may_end Field = true
may_end End = true
may_end _ = false
