-- The kind that a calendar is of.
use Rattle.std.specs.Prelude.{Bool, true, false}
use Rattle.cal_coptic.specs.declared.ethiopian.EthiopianEraStyle.{EthiopianEraStyle}
use Rattle.cal_coptic.specs.declared.ethiopian.EthiopianEraStyle.TheVariants.{AmeteMihret, AmeteAlem}
use Rattle.cal_hijri.specs.declared.tabular_algorithm.TabularAlgorithmEpoch.{TabularAlgorithmEpoch}
use Rattle.cal_hijri.specs.declared.tabular_algorithm.TabularAlgorithmEpoch.TheVariants.{Friday, Thursday}
use Rattle.cal_hijri.specs.declared.tabular_algorithm.TabularAlgorithmLeapYears.{TabularAlgorithmLeapYears}
use Rattle.cal_hijri.specs.declared.tabular_algorithm.TabularAlgorithmLeapYears.TheVariants.{TypeI, TypeII}
use Rattle.cal_any.specs.declared.any_calendar.AnyCalendar.{AnyCalendar}
use Rattle.cal_any.specs.declared.any_calendar.AnyCalendar.TheVariants as calendar
use Rattle.cal_kinds.specs.declared.any_calendar_kind.AnyCalendarKind.{AnyCalendarKind}
use Rattle.cal_kinds.specs.declared.any_calendar_kind.AnyCalendarKind.TheVariants as kind

abbrev pub kind_of_style : EthiopianEraStyle → AnyCalendarKind
kind_of_style AmeteMihret = kind.Ethiopian
kind_of_style AmeteAlem = kind.EthiopianAmeteAlem

abbrev pub kind_of_tabular : TabularAlgorithmLeapYears → TabularAlgorithmEpoch → AnyCalendarKind
kind_of_tabular TypeI Friday = kind.HijriTabularTypeIFriday
kind_of_tabular TypeI Thursday = kind.HijriTabularTypeIThursday
kind_of_tabular TypeII Friday = kind.HijriTabularTypeIIFriday
kind_of_tabular TypeII Thursday = kind.HijriTabularTypeIIThursday

-- both variants of the Japanese calendar are of the kind Japanese
abbrev pub kind_held : AnyCalendar → AnyCalendarKind
kind_held (calendar.Buddhist _) = kind.Buddhist
kind_held (calendar.Chinese _) = kind.Chinese
kind_held (calendar.Coptic _) = kind.Coptic
kind_held (calendar.Dangi _) = kind.Dangi
kind_held (calendar.Ethiopian c) = kind_of_style c.era_style
kind_held (calendar.Gregorian _) = kind.Gregorian
kind_held (calendar.Hebrew _) = kind.Hebrew
kind_held (calendar.HijriSimulated _) = kind.HijriSimulatedMecca
kind_held (calendar.HijriTabular c) = kind_of_tabular c.0.leap_years c.0.epoch
kind_held (calendar.HijriUmmAlQura _) = kind.HijriUmmAlQura
kind_held (calendar.Indian _) = kind.Indian
kind_held (calendar.Iso _) = kind.Iso
kind_held (calendar.Japanese _) = kind.Japanese
kind_held (calendar.JapaneseExtended _) = kind.Japanese
kind_held (calendar.Julian _) = kind.Julian
kind_held (calendar.Persian _) = kind.Persian
kind_held (calendar.Roc _) = kind.Roc

-- the kind of the calendar that is made for a kind: JapaneseExtended gives the Japanese calendar
abbrev pub kind_made : AnyCalendarKind → AnyCalendarKind
kind_made kind.JapaneseExtended = kind.Japanese
kind_made other = other

-- the variant of the Japanese calendar that no kind makes
abbrev pub is_extended : AnyCalendar → Bool
is_extended (calendar.JapaneseExtended _) = true
is_extended _ = false
