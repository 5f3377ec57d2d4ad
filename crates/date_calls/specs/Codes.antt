-- The codes that callers give.
use Rattle.std.specs.Prelude.{ℕ, List, [], ◌∷◌, Option, Some, None}
use Rattle.std.specs.List.{slice_get}
use Rattle.cal_kinds.specs.declared.any_calendar_kind.AnyCalendarKind.{AnyCalendarKind}
use Rattle.cal_kinds.specs.declared.any_calendar_kind.AnyCalendarKind.TheVariants as kind
use Rattle.cal_tables.specs.Kinds.{TableContents, no_contents}
use Rattle.cal_types.specs.declared.options.Overflow.{Overflow}
use Rattle.cal_types.specs.declared.options.Overflow.TheVariants as overflow
use Rattle.cal_types.specs.declared.options.MissingFieldsStrategy.{MissingFieldsStrategy}
use Rattle.cal_types.specs.declared.options.MissingFieldsStrategy.TheVariants as missing
use Rattle.cal_types.specs.declared.duration.DateDurationUnit.{DateDurationUnit}
use Rattle.cal_types.specs.declared.duration.DateDurationUnit.TheVariants as unit
use Rattle.published_years.specs.Published.{published_contents}

-- the kinds that have codes, in the order of these
abbrev pub kinds : List AnyCalendarKind
kinds =
    kind.Buddhist ∷ kind.Chinese ∷ kind.Coptic ∷ kind.Dangi ∷ kind.Ethiopian ∷ kind.EthiopianAmeteAlem
    ∷ kind.Gregorian ∷ kind.Hebrew ∷ kind.Indian ∷ kind.HijriTabularTypeIIFriday ∷ kind.HijriSimulatedMecca
    ∷ kind.HijriTabularTypeIIThursday ∷ kind.HijriUmmAlQura ∷ kind.Iso ∷ kind.Japanese ∷ kind.Julian ∷ kind.Persian
    ∷ kind.Roc ∷ kind.HijriTabularTypeIFriday ∷ kind.HijriTabularTypeIThursday ∷ []

-- the kind of a code
abbrev pub kind_of_code : ℕ → Option AnyCalendarKind
kind_of_code code = slice_get kinds code

-- the code of a kind
abbrev pub code_of_kind : AnyCalendarKind → Option ℕ
code_of_kind kind.Buddhist = Some 0
code_of_kind kind.Chinese = Some 1
code_of_kind kind.Coptic = Some 2
code_of_kind kind.Dangi = Some 3
code_of_kind kind.Ethiopian = Some 4
code_of_kind kind.EthiopianAmeteAlem = Some 5
code_of_kind kind.Gregorian = Some 6
code_of_kind kind.Hebrew = Some 7
code_of_kind kind.Indian = Some 8
code_of_kind kind.HijriTabularTypeIIFriday = Some 9
code_of_kind kind.HijriSimulatedMecca = Some 10
code_of_kind kind.HijriTabularTypeIIThursday = Some 11
code_of_kind kind.HijriUmmAlQura = Some 12
code_of_kind kind.Iso = Some 13
code_of_kind kind.Japanese = Some 14
code_of_kind kind.JapaneseExtended = None
code_of_kind kind.Julian = Some 15
code_of_kind kind.Persian = Some 16
code_of_kind kind.Roc = Some 17
code_of_kind kind.HijriTabularTypeIFriday = Some 18
code_of_kind kind.HijriTabularTypeIThursday = Some 19

-- which tables a code says: none, so that years are computed, or those of the published years
abbrev pub contents_of_code : ℕ → Option TableContents
contents_of_code code = slice_get (no_contents ∷ published_contents ∷ []) code

-- options, which 0 leaves out
abbrev pub overflow_of_code : ℕ → Option (Option Overflow)
overflow_of_code code = slice_get (None ∷ Some overflow.Constrain ∷ Some overflow.Reject ∷ []) code

abbrev pub strategy_of_code : ℕ → Option (Option MissingFieldsStrategy)
strategy_of_code code = slice_get (None ∷ Some missing.Reject ∷ Some missing.Ecma ∷ []) code

abbrev pub unit_of_code : ℕ → Option (Option DateDurationUnit)
unit_of_code code = slice_get (None ∷ Some unit.Years ∷ Some unit.Months ∷ Some unit.Weeks ∷ Some unit.Days ∷ []) code
