-- The order of the kinds of calendars: that of the table of their names,
-- with the kind that has no name right after the Japanese one.
use Rattle.std.specs.Prelude.{ℕ}
use Rattle.cal_kinds.specs.declared.any_calendar_kind.AnyCalendarKind.{AnyCalendarKind}
use Rattle.cal_kinds.specs.declared.any_calendar_kind.AnyCalendarKind.TheVariants as kind

-- the place of a kind, from 0 on
abbrev pub kind_place : AnyCalendarKind → ℕ
kind_place kind.Buddhist = 0
kind_place kind.Chinese = 1
kind_place kind.Coptic = 2
kind_place kind.Dangi = 3
kind_place kind.Ethiopian = 4
kind_place kind.EthiopianAmeteAlem = 5
kind_place kind.Gregorian = 6
kind_place kind.Hebrew = 7
kind_place kind.Indian = 8
kind_place kind.HijriTabularTypeIIFriday = 9
kind_place kind.HijriSimulatedMecca = 10
kind_place kind.HijriTabularTypeIIThursday = 11
kind_place kind.HijriUmmAlQura = 12
kind_place kind.Iso = 13
kind_place kind.Japanese = 14
kind_place kind.JapaneseExtended = 15
kind_place kind.Julian = 16
kind_place kind.Persian = 17
kind_place kind.Roc = 18
kind_place kind.HijriTabularTypeIFriday = 19
kind_place kind.HijriTabularTypeIThursday = 20
