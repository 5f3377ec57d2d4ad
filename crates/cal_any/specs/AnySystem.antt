-- Any calendar is the one that it holds.
use Rattle.std.specs.Prelude.{ℕ, Bool, true, false, ◌==◌, ◌&&◌, List, [], ◌∷◌, codes, Option, Some, None, ℤ, pos}
use Rattle.std.specs.Ordering.{int_eq}
use Rattle.std.specs.Cmp.Lexicographic.{pointwise}
use Rattle.cal_errors.specs.declared.algorithm.CalendarAlgorithm.{CalendarAlgorithm}
use Rattle.cal_errors.specs.declared.algorithm.CalendarAlgorithm.TheVariants as algorithm
use Rattle.cal_types.specs.CalendarList.{CalendarList, Date, is_valid_date}
use Rattle.cal_types.specs.CalendarSystem.{CalendarSystem}
use Rattle.cal_types.specs.Renumbered.{counted_date}
use Rattle.cal_base.specs.GregorianList.{gregorian_list}
use Rattle.cal_base.specs.IsoSystem.{iso_system}
use Rattle.cal_coptic.specs.CopticList.{coptic_list}
use Rattle.cal_coptic.specs.CopticSystem.{coptic_system}
use Rattle.cal_coptic.specs.EthiopianList.{coptic_offset, ethiopian_list}
use Rattle.cal_coptic.specs.EthiopianSystem.{ethiopian_algorithm, ethiopian_system}
use Rattle.cal_gregory.specs.BuddhistEra.{buddhist_offset}
use Rattle.cal_gregory.specs.BuddhistSystem.{buddhist_system}
use Rattle.cal_gregory.specs.GregorianSystem.{gregorian_system}
use Rattle.cal_gregory.specs.JapaneseSystem.{japanese_system}
use Rattle.cal_gregory.specs.RocEra.{roc_offset}
use Rattle.cal_gregory.specs.RocSystem.{roc_system}
use Rattle.cal_hebrew.specs.HebrewList.{hebrew_list}
use Rattle.cal_hebrew.specs.HebrewSystem.{hebrew_system}
use Rattle.cal_east_asian.specs.EastAsianRows as east_asian_rows
use Rattle.cal_east_asian.specs.EastAsianList.{east_asian_list}
use Rattle.cal_east_asian.specs.EastAsianReferences.{side_reference}
use Rattle.cal_east_asian.specs.EastAsianSystem.{east_asian_system}
use Rattle.cal_east_asian.specs.SameYears.{same_year}
use Rattle.cal_east_asian.specs.TableRules as tables
use Rattle.cal_east_asian.specs.declared.east_asian_traditional_year.EastAsianTraditionalYear.{EastAsianTraditionalYear}
use Rattle.cal_east_asian.specs.declared.sides.Side.TheVariants.{China, Korea}
use Rattle.cal_hijri.specs.HijriRows as hijri_rows
use Rattle.cal_hijri.specs.HijriList.{hijri_list, has_parts_of}
use Rattle.cal_hijri.specs.SameRows.{are_same_rows}
use Rattle.cal_hijri.specs.TableFriday.{friday_rules}
use Rattle.cal_hijri.specs.TableRules.{table_year, table_system}
use Rattle.cal_hijri.specs.TabularRules.{tabular_year, tabular_system, are_same_rules, algorithm_of_rules}
use Rattle.cal_hijri.specs.declared.hijri_year.HijriYear.{HijriYear}
use Rattle.cal_hijri.specs.declared.tabular_algorithm.TabularAlgorithm.{TabularAlgorithm}
use Rattle.cal_errors.specs.declared.algorithm.HijriCalendarAlgorithm.TheVariants.{Umalqura}
use Rattle.cal_julian.specs.IndianList.{indian_list}
use Rattle.cal_julian.specs.IndianSystem.{indian_system}
use Rattle.cal_julian.specs.JulianList.{julian_list}
use Rattle.cal_julian.specs.JulianSystem.{julian_system}
use Rattle.cal_julian.specs.PersianCorrected.{corrected_years}
use Rattle.cal_julian.specs.PersianList.{persian_list}
use Rattle.cal_julian.specs.PersianSystem.{persian_system}
use Rattle.cal_any.specs.AnyOrder.{kind_of, kept_date, keeps_hebrew_length, hijri_year, east_asian_year}
use Rattle.cal_any.specs.ByKind.{always, by_kind}
use Rattle.cal_any.specs.declared.any_calendar.AnyCalendar.{AnyCalendar}
use Rattle.cal_any.specs.declared.any_calendar.AnyDateInner.{AnyDateInner}
use Rattle.cal_any.specs.declared.any_calendar.AnyCalendar.TheVariants as calendar

abbrev pub any_system : AnyCalendar → CalendarSystem
any_system (calendar.Buddhist _) = buddhist_system
any_system (calendar.Chinese c) = east_asian_system (tables.table_year c.0.table) (side_reference China)
any_system (calendar.Coptic _) = coptic_system
any_system (calendar.Dangi c) = east_asian_system (tables.table_year c.0.table) (side_reference Korea)
any_system (calendar.Ethiopian c) = ethiopian_system c.era_style
any_system (calendar.Gregorian _) = gregorian_system
any_system (calendar.Hebrew _) = hebrew_system
any_system (calendar.HijriSimulated c) = table_system (hijri_rows.years_of c.0.table.rows.now)
any_system (calendar.HijriTabular c) = tabular_system c.0
any_system (calendar.HijriUmmAlQura c) = table_system (hijri_rows.years_of c.0.table.rows.now)
any_system (calendar.Indian _) = indian_system
any_system (calendar.Iso _) = iso_system
any_system (calendar.Japanese c) = japanese_system c
any_system (calendar.JapaneseExtended c) = japanese_system c
any_system (calendar.Julian _) = julian_system
any_system (calendar.Persian c) = persian_system c
any_system (calendar.Roc _) = roc_system

-- the list of the dates as they are kept
abbrev pub kept_list : AnyCalendar → CalendarList
kept_list (calendar.Buddhist _) = gregorian_list
kept_list (calendar.Chinese c) = east_asian_list (tables.table_year c.0.table)
kept_list (calendar.Coptic _) = coptic_list
kept_list (calendar.Dangi c) = east_asian_list (tables.table_year c.0.table)
kept_list (calendar.Ethiopian _) = coptic_list
kept_list (calendar.Gregorian _) = gregorian_list
kept_list (calendar.Hebrew _) = hebrew_list
kept_list (calendar.HijriSimulated c) = hijri_list (table_year (hijri_rows.years_of c.0.table.rows.now))
kept_list (calendar.HijriTabular c) = hijri_list (tabular_year c.0)
kept_list (calendar.HijriUmmAlQura c) = hijri_list (table_year (hijri_rows.years_of c.0.table.rows.now))
kept_list (calendar.Indian _) = indian_list
kept_list (calendar.Iso _) = gregorian_list
kept_list (calendar.Japanese _) = gregorian_list
kept_list (calendar.JapaneseExtended _) = gregorian_list
kept_list (calendar.Julian _) = julian_list
kept_list (calendar.Persian c) = persian_list (corrected_years c)
kept_list (calendar.Roc _) = gregorian_list

-- a date as it is kept, in extended years
abbrev pub extended_date : AnyCalendar → Date → Date
extended_date (calendar.Buddhist _) t = counted_date buddhist_offset t
extended_date (calendar.Chinese _) t = t
extended_date (calendar.Coptic _) t = t
extended_date (calendar.Dangi _) t = t
extended_date (calendar.Ethiopian c) t = counted_date (coptic_offset c.era_style) t
extended_date (calendar.Gregorian _) t = counted_date (pos 0) t
extended_date (calendar.Hebrew _) t = t
extended_date (calendar.HijriSimulated _) t = t
extended_date (calendar.HijriTabular _) t = t
extended_date (calendar.HijriUmmAlQura _) t = t
extended_date (calendar.Indian _) t = t
extended_date (calendar.Iso _) t = counted_date (pos 0) t
extended_date (calendar.Japanese _) t = counted_date (pos 0) t
extended_date (calendar.JapaneseExtended _) t = counted_date (pos 0) t
extended_date (calendar.Julian _) t = t
extended_date (calendar.Persian _) t = t
extended_date (calendar.Roc _) t = counted_date roc_offset t

-- the date that an inner date stands for
abbrev pub any_date : AnyCalendar → AnyDateInner → Date
any_date c d = extended_date c (kept_date d)

-- the number of a calendar's kind, in the order of their names
abbrev pub calendar_kind : AnyCalendar → ℕ
calendar_kind (calendar.Buddhist _) = 0
calendar_kind (calendar.Chinese _) = 1
calendar_kind (calendar.Coptic _) = 2
calendar_kind (calendar.Dangi _) = 3
calendar_kind (calendar.Ethiopian _) = 4
calendar_kind (calendar.Gregorian _) = 5
calendar_kind (calendar.Hebrew _) = 6
calendar_kind (calendar.HijriSimulated _) = 7
calendar_kind (calendar.HijriTabular _) = 8
calendar_kind (calendar.HijriUmmAlQura _) = 9
calendar_kind (calendar.Indian _) = 10
calendar_kind (calendar.Iso _) = 11
calendar_kind (calendar.Japanese _) = 12
calendar_kind (calendar.JapaneseExtended _) = 13
calendar_kind (calendar.Julian _) = 14
calendar_kind (calendar.Persian _) = 15
calendar_kind (calendar.Roc _) = 16

-- whether a date, as it is kept, is one of the calendar's list, and its day number is in the valid range
abbrev pub is_valid_kept : AnyCalendar → Date → Bool
is_valid_kept (calendar.Buddhist _) t = is_valid_date gregorian_list t
is_valid_kept (calendar.Chinese c) t = is_valid_date (east_asian_list (tables.table_year c.0.table)) t
is_valid_kept (calendar.Coptic _) t = is_valid_date coptic_list t
is_valid_kept (calendar.Dangi c) t = is_valid_date (east_asian_list (tables.table_year c.0.table)) t
is_valid_kept (calendar.Ethiopian c) t =
    is_valid_date (ethiopian_list (coptic_offset c.era_style)) (counted_date (coptic_offset c.era_style) t)
is_valid_kept (calendar.Gregorian _) t = is_valid_date gregorian_list t
is_valid_kept (calendar.Hebrew _) t = is_valid_date hebrew_list t
is_valid_kept (calendar.HijriSimulated c) t =
    is_valid_date (hijri_list (table_year (hijri_rows.years_of c.0.table.rows.now))) t
is_valid_kept (calendar.HijriTabular c) t = is_valid_date (hijri_list (tabular_year c.0)) t
is_valid_kept (calendar.HijriUmmAlQura c) t =
    is_valid_date (hijri_list (table_year (hijri_rows.years_of c.0.table.rows.now))) t
is_valid_kept (calendar.Indian _) t = is_valid_date indian_list t
is_valid_kept (calendar.Iso _) t = is_valid_date gregorian_list t
is_valid_kept (calendar.Japanese _) t = is_valid_date gregorian_list t
is_valid_kept (calendar.JapaneseExtended _) t = is_valid_date gregorian_list t
is_valid_kept (calendar.Julian _) t = is_valid_date julian_list t
is_valid_kept (calendar.Persian c) t = is_valid_date (persian_list (corrected_years c)) t
is_valid_kept (calendar.Roc _) t = is_valid_date gregorian_list t

-- whether the year that a date keeps is the one that its calendar gives, where a date keeps more than its number
abbrev pub keeps_given_year : AnyCalendar → AnyDateInner → Bool
keeps_given_year (calendar.Hebrew _) d = keeps_hebrew_length d
keeps_given_year (calendar.HijriSimulated c) d =
    has_parts_of (table_year (hijri_rows.years_of c.0.table.rows.now) (hijri_year d).extended_year) (hijri_year d)
keeps_given_year (calendar.HijriTabular c) d =
    has_parts_of (tabular_year c.0 (hijri_year d).extended_year) (hijri_year d)
keeps_given_year (calendar.HijriUmmAlQura c) d =
    has_parts_of (table_year (hijri_rows.years_of c.0.table.rows.now) (hijri_year d).extended_year) (hijri_year d)
keeps_given_year (calendar.Chinese c) d =
    same_year (tables.table_year c.0.table (east_asian_year d).related_iso) (east_asian_year d)
keeps_given_year (calendar.Dangi c) d =
    same_year (tables.table_year c.0.table (east_asian_year d).related_iso) (east_asian_year d)
keeps_given_year _ d = true

-- as it is kept, an inner date has a year that its calendar gives, and is a valid date
abbrev pub is_kept : AnyCalendar → AnyDateInner → Bool
is_kept c d = keeps_given_year c d && is_valid_kept c (kept_date d)

-- an inner date belongs to a calendar of its own kind alone
abbrev pub any_belongs : AnyCalendar → AnyDateInner → Bool
any_belongs c d = (kind_of d == calendar_kind c) && is_kept c d

-- the corrected years of a Persian calendar; others have none
abbrev pub corrected_of : AnyCalendar → List ℤ
corrected_of (calendar.Persian c) = corrected_years c
corrected_of _ = []

abbrev pub corrected_alike : AnyCalendar → AnyCalendar → Bool
corrected_alike a b = pointwise int_eq (corrected_of a) (corrected_of b)

-- the rules of a tabular Hijri calendar; of others, any
abbrev pub tabular_rules_of : AnyCalendar → TabularAlgorithm
tabular_rules_of (calendar.HijriTabular c) = c.0
tabular_rules_of _ = friday_rules

abbrev pub rules_alike : AnyCalendar → AnyCalendar → Bool
rules_alike a b = are_same_rules (tabular_rules_of a) (tabular_rules_of b)

-- the rows of a Hijri calendar by a table; others have none
abbrev pub hijri_rows_of : AnyCalendar → List HijriYear
hijri_rows_of (calendar.HijriSimulated c) = hijri_rows.years_of c.0.table.rows.now
hijri_rows_of (calendar.HijriUmmAlQura c) = hijri_rows.years_of c.0.table.rows.now
hijri_rows_of _ = []

abbrev pub hijri_rows_alike : AnyCalendar → AnyCalendar → Bool
hijri_rows_alike a b = are_same_rows (hijri_rows_of a) (hijri_rows_of b)

-- the rows of a Chinese or Korean calendar; others have none
abbrev pub east_asian_rows_of : AnyCalendar → List EastAsianTraditionalYear
east_asian_rows_of (calendar.Chinese c) = east_asian_rows.years_of c.0.table.rows.now
east_asian_rows_of (calendar.Dangi c) = east_asian_rows.years_of c.0.table.rows.now
east_asian_rows_of _ = []

abbrev pub east_asian_rows_alike : AnyCalendar → AnyCalendar → Bool
east_asian_rows_alike a b = pointwise same_year (east_asian_rows_of a) (east_asian_rows_of b)

-- what two calendars of a kind have to share, beside the kind, in the order of the kinds
abbrev pub table_tests : List (AnyCalendar → AnyCalendar → Bool)
table_tests =
    always ∷ east_asian_rows_alike ∷ always ∷ east_asian_rows_alike ∷ always ∷ always ∷ always ∷ hijri_rows_alike
    ∷ rules_alike ∷ hijri_rows_alike ∷ always ∷ always ∷ always ∷ always ∷ always ∷ corrected_alike ∷ always ∷ []

-- calendars of one kind are compatible where they share their rules and tables,
-- also the two styles of the Ethiopian calendar, and Japanese calendars with other eras
abbrev pub any_compatible : AnyCalendar → AnyCalendar → Bool
any_compatible = by_kind calendar_kind table_tests

-- the Gregorian calendars have ISO's months and days
abbrev pub any_is_cheap : AnyCalendar → Bool
any_is_cheap (calendar.Buddhist _) = true
any_is_cheap (calendar.Chinese _) = false
any_is_cheap (calendar.Coptic _) = false
any_is_cheap (calendar.Dangi _) = false
any_is_cheap (calendar.Ethiopian _) = false
any_is_cheap (calendar.Gregorian _) = true
any_is_cheap (calendar.Hebrew _) = false
any_is_cheap (calendar.HijriSimulated _) = false
any_is_cheap (calendar.HijriTabular _) = false
any_is_cheap (calendar.HijriUmmAlQura _) = false
any_is_cheap (calendar.Indian _) = false
any_is_cheap (calendar.Iso _) = true
any_is_cheap (calendar.Japanese _) = true
any_is_cheap (calendar.JapaneseExtended _) = true
any_is_cheap (calendar.Julian _) = false
any_is_cheap (calendar.Persian _) = false
any_is_cheap (calendar.Roc _) = true

-- the algorithm by which CLDR names the calendar
abbrev pub any_algorithm : AnyCalendar → Option CalendarAlgorithm
any_algorithm (calendar.Buddhist _) = Some algorithm.Buddhist
any_algorithm (calendar.Chinese _) = Some algorithm.Chinese
any_algorithm (calendar.Coptic _) = Some algorithm.Coptic
any_algorithm (calendar.Dangi _) = Some algorithm.Dangi
any_algorithm (calendar.Ethiopian c) = Some (ethiopian_algorithm c.era_style)
any_algorithm (calendar.Gregorian _) = Some algorithm.Gregory
any_algorithm (calendar.Hebrew _) = Some algorithm.Hebrew
any_algorithm (calendar.HijriSimulated _) = None
any_algorithm (calendar.HijriTabular c) = algorithm_of_rules c.0
any_algorithm (calendar.HijriUmmAlQura _) = Some (algorithm.Hijri (Some Umalqura))
any_algorithm (calendar.Indian _) = Some algorithm.Indian
any_algorithm (calendar.Iso _) = None
any_algorithm (calendar.Japanese _) = Some algorithm.Japanese
any_algorithm (calendar.JapaneseExtended _) = Some algorithm.Japanese
any_algorithm (calendar.Julian _) = None
any_algorithm (calendar.Persian _) = Some algorithm.Persian
any_algorithm (calendar.Roc _) = Some algorithm.Roc

abbrev pub any_name : AnyCalendar → List ℕ
any_name (calendar.Buddhist _) = codes "AnyCalendar (Buddhist)"
any_name (calendar.Chinese _) = codes "AnyCalendar (Chinese)"
any_name (calendar.Coptic _) = codes "AnyCalendar (Coptic)"
any_name (calendar.Dangi _) = codes "AnyCalendar (Dangi)"
any_name (calendar.Ethiopian _) = codes "AnyCalendar (Ethiopian)"
any_name (calendar.Gregorian _) = codes "AnyCalendar (Gregorian)"
any_name (calendar.Hebrew _) = codes "AnyCalendar (Hebrew)"
any_name (calendar.HijriSimulated _) = codes "AnyCalendar (HijriSimulated)"
any_name (calendar.HijriTabular _) = codes "AnyCalendar (HijriTabular)"
any_name (calendar.HijriUmmAlQura _) = codes "AnyCalendar (HijriUmmAlQura)"
any_name (calendar.Indian _) = codes "AnyCalendar (Indian)"
any_name (calendar.Iso _) = codes "AnyCalendar (Iso)"
any_name (calendar.Japanese _) = codes "AnyCalendar (Japanese)"
any_name (calendar.JapaneseExtended _) = codes "AnyCalendar (JapaneseExtended)"
any_name (calendar.Julian _) = codes "AnyCalendar (Julian)"
any_name (calendar.Persian _) = codes "AnyCalendar (Persian)"
any_name (calendar.Roc _) = codes "AnyCalendar (Roc)"
