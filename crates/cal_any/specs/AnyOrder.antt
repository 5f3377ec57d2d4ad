-- When inner dates of any calendars are equal, and how they are ordered.
use Rattle.std.specs.Prelude.{ℕ, pos, Bool, true, ◌&&◌, ◌==◌, Option, Some, None, if◌then◌else◌}
use Rattle.std.specs.declared.cmp.Ordering.{Ordering}
use Rattle.cal_types.specs.CalendarList.{Date}
use Rattle.cal_types.specs.DateOrder.{date_eq, date_cmp}
use Rattle.cal_base.specs.KeptDates.{kept_date as in_iso_years}
use Rattle.cal_coptic.specs.CopticSystem.{coptic_date}
use Rattle.cal_coptic.specs.EthiopianSystem.{kept_date as in_coptic_years}
use Rattle.cal_hebrew.specs.HebrewSystem.{hebrew_date, has_hebrew_length}
use Rattle.cal_east_asian.specs.EastAsianSystem as east_asian
use Rattle.cal_east_asian.specs.declared.east_asian_traditional_year.EastAsianTraditionalYear.{EastAsianTraditionalYear}
use Rattle.cal_east_asian.specs.laws.ComputedLaws.{computed_year}
use Rattle.cal_east_asian.specs.declared.sides.Side.TheVariants.{China}
use Rattle.cal_hijri.specs.HijriSystem as hijri
use Rattle.cal_hijri.specs.TableFriday.{friday_year}
use Rattle.cal_hijri.specs.declared.hijri_year.HijriYear.{HijriYear}
use Rattle.cal_julian.specs.IndianSystem.{indian_date}
use Rattle.cal_julian.specs.JulianSystem.{julian_date}
use Rattle.cal_julian.specs.PersianSystem.{persian_date}
use Rattle.cal_any.specs.declared.any_calendar.AnyDateInner.{AnyDateInner}
use Rattle.cal_any.specs.declared.any_calendar.AnyDateInner.TheVariants as inner

-- the number of a calendar's kind, in the order of their names
abbrev pub kind_of : AnyDateInner → ℕ
kind_of (inner.Buddhist _) = 0
kind_of (inner.Chinese _) = 1
kind_of (inner.Coptic _) = 2
kind_of (inner.Dangi _) = 3
kind_of (inner.Ethiopian _) = 4
kind_of (inner.Gregorian _) = 5
kind_of (inner.Hebrew _) = 6
kind_of (inner.HijriSimulated _) = 7
kind_of (inner.HijriTabular _) = 8
kind_of (inner.HijriUmmAlQura _) = 9
kind_of (inner.Indian _) = 10
kind_of (inner.Iso _) = 11
kind_of (inner.Japanese _) = 12
kind_of (inner.JapaneseExtended _) = 13
kind_of (inner.Julian _) = 14
kind_of (inner.Persian _) = 15
kind_of (inner.Roc _) = 16

-- a date as it is kept: in ISO years in the Gregorian calendars, and in Coptic years in the Ethiopian one
abbrev pub kept_date : AnyDateInner → Date
kept_date (inner.Buddhist d) = in_iso_years d.0.parts
kept_date (inner.Chinese d) = east_asian.kept_date d.0.parts
kept_date (inner.Coptic d) = coptic_date d
kept_date (inner.Dangi d) = east_asian.kept_date d.0.parts
kept_date (inner.Ethiopian d) = in_coptic_years d
kept_date (inner.Gregorian d) = in_iso_years d.0.parts
kept_date (inner.Hebrew d) = hebrew_date d
kept_date (inner.HijriSimulated d) = hijri.kept_date d.0.parts
kept_date (inner.HijriTabular d) = hijri.kept_date d.0.parts
kept_date (inner.HijriUmmAlQura d) = hijri.kept_date d.0.parts
kept_date (inner.Indian d) = indian_date d
kept_date (inner.Iso d) = in_iso_years d.0.parts
kept_date (inner.Japanese d) = in_iso_years d.0.parts
kept_date (inner.JapaneseExtended d) = in_iso_years d.0.parts
kept_date (inner.Julian d) = julian_date d
kept_date (inner.Persian d) = persian_date d
kept_date (inner.Roc d) = in_iso_years d.0.parts

-- whether the year that a Hebrew date keeps has its length
abbrev pub keeps_hebrew_length : AnyDateInner → Bool
keeps_hebrew_length (inner.Hebrew d) = has_hebrew_length d.0.parts.year
keeps_hebrew_length _ = true

-- the year that a Hijri date keeps; of other dates, any
abbrev pub hijri_year : AnyDateInner → HijriYear
hijri_year (inner.HijriSimulated d) = d.0.parts.year
hijri_year (inner.HijriTabular d) = d.0.parts.year
hijri_year (inner.HijriUmmAlQura d) = d.0.parts.year
hijri_year _ = friday_year (pos 1)

-- the year that a Chinese or Korean date keeps; of other dates, any
abbrev pub east_asian_year : AnyDateInner → EastAsianTraditionalYear
east_asian_year (inner.Chinese d) = d.0.parts.year
east_asian_year (inner.Dangi d) = d.0.parts.year
east_asian_year _ = computed_year China (pos 1)

-- equal dates of one kind of calendar
abbrev pub any_eq : AnyDateInner → AnyDateInner → Bool
any_eq a b = (kind_of a == kind_of b) && date_eq (kept_date a) (kept_date b)

-- dates are ordered within a kind of calendar, and not across two
abbrev pub any_cmp : AnyDateInner → AnyDateInner → Option Ordering
any_cmp a b = if kind_of a == kind_of b then Some (date_cmp (kept_date a) (kept_date b)) else None
