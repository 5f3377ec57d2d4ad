-- The laws of a calendar, for any calendar: those of the one that it holds.
use Rattle.std.proofs.Common.{◌≡◌, ℕ, ℤ, ◌==◌, Bool, true, [], ◌∷◌, Some, refl, sym, ap, subst, ◌∙◌, pos, ◌+ℤ◌}
use Rattle.std.specs.Prelude.{IsTrue, ◌&&◌, None, Option, if◌then◌else◌, slice_index_or}
use Rattle.std.specs.Ordering.{int_cmp, int_eq}
use Rattle.std.specs.Cmp.{IsEquivalence, on_equiv, int_eq_equiv}
use Rattle.std.specs.Cmp.Lexicographic.{lists_equiv}
use Rattle.std.specs.declared.cmp.Ordering.{Ordering}
use Rattle.cal_days.specs.Day.{IsCoveredYear, IsFieldYear, IsValidDay}
use Rattle.cal_types.specs.Year.{extended_year_of}
use Rattle.cal_types.specs.CalendarList.{CalendarList, Date, IsDate, IsLawful, IsValidDate, day_number}
use Rattle.cal_types.proofs.DateTests.{and-left, and-right, true-and, is_valid_date-true, true-is_valid_date}
use Rattle.cal_types.specs.DateOrder.{date_eq, date_cmp}
use Rattle.cal_types.proofs.OrderLemmas.{dates-equal, dates-ordered}
use Rattle.cal_types.specs.Renumbered.{counted_date}
use Rattle.cal_types.proofs.RenumberedBoundLemmas.{ranged-renumbered, covered-renumbered}
use Rattle.cal_types.proofs.CountedDateLemmas.{counted-valid, valid-counted, day_number-counted}
use Rattle.cal_base.specs.GregorianList.{gregorian_list}
use Rattle.cal_base.specs.laws.OffsetListLaws.{offset_list-lawful, offset_list-ranged, offset_list-shifted, offset_list-covered, true-offset}
use Rattle.cal_coptic.specs.CopticList.{coptic_list}
use Rattle.cal_coptic.specs.laws.CopticLaws as coptic_bounds
use Rattle.cal_coptic.specs.laws.CopticLaws.{coptic_list-lawful, coptic_list-bounded}
use Rattle.cal_coptic.specs.EthiopianList.{coptic_offset, ethiopian_list}
use Rattle.cal_coptic.specs.laws.EthiopianLaws.{ethiopian_list-lawful, ethiopian_year-named, coptic_offset-small}
use Rattle.cal_gregory.specs.BuddhistEra.{buddhist_offset}
use Rattle.cal_gregory.specs.laws.CommonEraLaws.{common_era-named}
use Rattle.cal_gregory.specs.laws.JapaneseLaws.{japanese_era-named}
use Rattle.cal_gregory.specs.RocEra.{roc_offset}
use Rattle.cal_gregory.specs.laws.RocEraLaws.{roc_era-named}
use Rattle.cal_hebrew.specs.HebrewList.{hebrew_list}
use Rattle.cal_hebrew.specs.laws.HebrewLaws as hebrew_bounds
use Rattle.cal_hebrew.specs.laws.HebrewMonths.{hebrew_list-lawful}
use Rattle.cal_east_asian.specs.EastAsianRows as east_asian_rows
use Rattle.cal_east_asian.specs.laws.ComputedLaws.{computed_year}
use Rattle.cal_east_asian.specs.EastAsianList.{east_asian_list}
use Rattle.cal_east_asian.specs.laws.EastAsianListLaws.{east_asian_list-lawful}
use Rattle.cal_east_asian.specs.laws.EastAsianStartLaws as east_asian_bounds
use Rattle.cal_east_asian.specs.SameYears.{same_year}
use Rattle.cal_east_asian.specs.TableRules as tables
use Rattle.cal_east_asian.specs.laws.TableRuleLaws.{same_lists, same_year-alike, table-years}
use Rattle.cal_east_asian.specs.TableYears.{chosen_year}
use Rattle.cal_east_asian.specs.declared.sides.Side.{Side}
use Rattle.cal_east_asian.specs.declared.sides.Side.TheVariants.{China, Korea}
use Rattle.cal_hijri.specs.HijriRows as hijri_rows
use Rattle.cal_hijri.specs.laws.HijriBounds as hijri_bounds
use Rattle.cal_hijri.specs.HijriList.{hijri_list, has_parts_of}
use Rattle.cal_hijri.specs.laws.HijriNameLaws.{years-named}
use Rattle.cal_hijri.specs.laws.HijriShapes.{hijri_list-lawful}
use Rattle.cal_hijri.specs.TableRules.{table_year}
use Rattle.cal_hijri.specs.laws.TableRuleLaws.{table-numbered, table-joins, table-shared, same_rows-equivalence}
use Rattle.cal_hijri.specs.TabularRules.{tabular_year}
use Rattle.cal_hijri.specs.laws.TabularRuleLaws.{tabular-numbered, tabular-joins, tabular-shared, same_rules-equivalence}
use Rattle.cal_julian.specs.IndianList.{indian_list}
use Rattle.cal_julian.specs.laws.IndianLaws as indian_bounds
use Rattle.cal_julian.specs.laws.IndianLaws.{indian_list-lawful}
use Rattle.cal_julian.specs.JulianList.{julian_list}
use Rattle.cal_julian.specs.laws.JulianLaws as julian_bounds
use Rattle.cal_julian.specs.laws.JulianLaws.{julian_list-lawful}
use Rattle.cal_julian.specs.laws.JulianSystemLaws.{julian_year_info-named}
use Rattle.cal_julian.specs.PersianCorrected.{corrected_years}
use Rattle.cal_julian.specs.PersianList.{persian_list}
use Rattle.cal_julian.specs.laws.PersianLaws as persian_bounds
use Rattle.cal_julian.specs.laws.PersianLaws.{persian_list-lawful, same_years}
use Rattle.cal_any.specs.AnySystem.{any_system, any_date, any_belongs, any_compatible, calendar_kind, table_tests, kept_list, extended_date, is_kept, is_valid_kept, keeps_given_year, corrected_of, tabular_rules_of, hijri_rows_of, east_asian_rows_of}
use Rattle.cal_any.specs.AnyOrder.{kind_of, kept_date, keeps_hebrew_length, any_eq, any_cmp, hijri_year, east_asian_year}
use Rattle.cal_any.specs.ByKind.{test_of}
use Rattle.cal_any.specs.laws.ByKindLaws.{always-equivalence, equal_kinds, same_kind, by_kind-kinds, by_kind-test, by_kind-equivalence}
use Rattle.cal_any.specs.declared.any_calendar.AnyCalendar.{AnyCalendar}
use Rattle.cal_any.specs.declared.any_calendar.AnyDateInner.{AnyDateInner}
use Rattle.cal_any.specs.declared.any_calendar.AnyCalendar.TheVariants as calendar

pub any_lawful : (c : AnyCalendar) → IsLawful (any_system c).list
any_lawful (calendar.Buddhist _) = offset_list-lawful buddhist_offset
any_lawful (calendar.Chinese c) = east_asian_list-lawful (tables.table_year c.0.table)
any_lawful (calendar.Coptic _) = coptic_list-lawful
any_lawful (calendar.Dangi c) = east_asian_list-lawful (tables.table_year c.0.table)
any_lawful (calendar.Ethiopian c) = ethiopian_list-lawful (coptic_offset c.era_style)
any_lawful (calendar.Gregorian _) = offset_list-lawful (pos 0)
any_lawful (calendar.Hebrew _) = hebrew_list-lawful
any_lawful (calendar.HijriSimulated c) = hijri_list-lawful (table_year (hijri_rows.years_of c.0.table.rows.now))
any_lawful (calendar.HijriTabular c) = hijri_list-lawful (tabular_year c.0)
any_lawful (calendar.HijriUmmAlQura c) = hijri_list-lawful (table_year (hijri_rows.years_of c.0.table.rows.now))
any_lawful (calendar.Indian _) = indian_list-lawful
any_lawful (calendar.Iso _) = offset_list-lawful (pos 0)
any_lawful (calendar.Japanese _) = offset_list-lawful (pos 0)
any_lawful (calendar.JapaneseExtended _) = offset_list-lawful (pos 0)
any_lawful (calendar.Julian _) = julian_list-lawful
any_lawful (calendar.Persian c) = persian_list-lawful (corrected_years c)
any_lawful (calendar.Roc _) = offset_list-lawful roc_offset

-- the extended years of valid dates are small
pub any_ranged : (c : AnyCalendar) (t : Date) → IsValidDate (any_system c).list t → IsFieldYear t.year
any_ranged (calendar.Buddhist _) t h = offset_list-ranged buddhist_offset (true-offset buddhist_offset refl) t h
any_ranged (calendar.Chinese c) t h = (east_asian_bounds.years-ranged (tables.table_year c.0.table) (table-years c.0.table) t h).0
any_ranged (calendar.Coptic _) t h = (coptic_bounds.years-ranged t h).0
any_ranged (calendar.Dangi c) t h = (east_asian_bounds.years-ranged (tables.table_year c.0.table) (table-years c.0.table) t h).0
any_ranged (calendar.Ethiopian c) t h = (ranged-renumbered (coptic_offset c.era_style) (coptic_offset-small c.era_style) coptic_list coptic_list-bounded t h).0
any_ranged (calendar.Gregorian _) t h = offset_list-ranged (pos 0) (true-offset (pos 0) refl) t h
any_ranged (calendar.Hebrew _) t h = (hebrew_bounds.years-ranged t h).0
any_ranged (calendar.HijriSimulated c) t h = (hijri_bounds.years-ranged (table_year (hijri_rows.years_of c.0.table.rows.now)) (table-numbered (hijri_rows.years_of c.0.table.rows.now) c.0.table.accepted) (table-joins (hijri_rows.years_of c.0.table.rows.now) c.0.table.accepted) t h).0
any_ranged (calendar.HijriTabular c) t h = (hijri_bounds.years-ranged (tabular_year c.0) (tabular-numbered c.0) (tabular-joins c.0) t h).0
any_ranged (calendar.HijriUmmAlQura c) t h = (hijri_bounds.years-ranged (table_year (hijri_rows.years_of c.0.table.rows.now)) (table-numbered (hijri_rows.years_of c.0.table.rows.now) c.0.table.accepted) (table-joins (hijri_rows.years_of c.0.table.rows.now) c.0.table.accepted) t h).0
any_ranged (calendar.Indian _) t h = (indian_bounds.years-ranged t h).0
any_ranged (calendar.Iso _) t h = offset_list-ranged (pos 0) (true-offset (pos 0) refl) t h
any_ranged (calendar.Japanese _) t h = offset_list-ranged (pos 0) (true-offset (pos 0) refl) t h
any_ranged (calendar.JapaneseExtended _) t h = offset_list-ranged (pos 0) (true-offset (pos 0) refl) t h
any_ranged (calendar.Julian _) t h = (julian_bounds.years-ranged t h).0
any_ranged (calendar.Persian c) t h = (persian_bounds.years-ranged (corrected_years c) c.corrections.known t h).0
any_ranged (calendar.Roc _) t h = offset_list-ranged roc_offset (true-offset roc_offset refl) t h

-- so do these years as adding counts them
pub any_shifted : (c : AnyCalendar) (t : Date) → IsValidDate (any_system c).list t → IsFieldYear (t.year +ℤ (any_system c).year_shift)
any_shifted (calendar.Buddhist _) t h = offset_list-shifted buddhist_offset (true-offset buddhist_offset refl) t h
any_shifted (calendar.Chinese c) t h = (east_asian_bounds.years-ranged (tables.table_year c.0.table) (table-years c.0.table) t h).1
any_shifted (calendar.Coptic _) t h = (coptic_bounds.years-ranged t h).1
any_shifted (calendar.Dangi c) t h = (east_asian_bounds.years-ranged (tables.table_year c.0.table) (table-years c.0.table) t h).1
any_shifted (calendar.Ethiopian c) t h = (ranged-renumbered (coptic_offset c.era_style) (coptic_offset-small c.era_style) coptic_list coptic_list-bounded t h).1
any_shifted (calendar.Gregorian _) t h = offset_list-shifted (pos 0) (true-offset (pos 0) refl) t h
any_shifted (calendar.Hebrew _) t h = (hebrew_bounds.years-ranged t h).1
any_shifted (calendar.HijriSimulated c) t h = (hijri_bounds.years-ranged (table_year (hijri_rows.years_of c.0.table.rows.now)) (table-numbered (hijri_rows.years_of c.0.table.rows.now) c.0.table.accepted) (table-joins (hijri_rows.years_of c.0.table.rows.now) c.0.table.accepted) t h).1
any_shifted (calendar.HijriTabular c) t h = (hijri_bounds.years-ranged (tabular_year c.0) (tabular-numbered c.0) (tabular-joins c.0) t h).1
any_shifted (calendar.HijriUmmAlQura c) t h = (hijri_bounds.years-ranged (table_year (hijri_rows.years_of c.0.table.rows.now)) (table-numbered (hijri_rows.years_of c.0.table.rows.now) c.0.table.accepted) (table-joins (hijri_rows.years_of c.0.table.rows.now) c.0.table.accepted) t h).1
any_shifted (calendar.Indian _) t h = (indian_bounds.years-ranged t h).1
any_shifted (calendar.Iso _) t h = offset_list-shifted (pos 0) (true-offset (pos 0) refl) t h
any_shifted (calendar.Japanese _) t h = offset_list-shifted (pos 0) (true-offset (pos 0) refl) t h
any_shifted (calendar.JapaneseExtended _) t h = offset_list-shifted (pos 0) (true-offset (pos 0) refl) t h
any_shifted (calendar.Julian _) t h = (julian_bounds.years-ranged t h).1
any_shifted (calendar.Persian c) t h = (persian_bounds.years-ranged (corrected_years c) c.corrections.known t h).1
any_shifted (calendar.Roc _) t h = offset_list-shifted roc_offset (true-offset roc_offset refl) t h

-- the days of small years are valid
pub any_covered : (c : AnyCalendar) (t : Date) → IsCoveredYear t.year → IsDate (any_system c).list t
    → IsValidDay (day_number (any_system c).list t)
any_covered (calendar.Buddhist _) t y h = offset_list-covered buddhist_offset (true-offset buddhist_offset refl) t y h
any_covered (calendar.Chinese c) t y h = east_asian_bounds.days-covered (tables.table_year c.0.table) (table-years c.0.table) t y h
any_covered (calendar.Coptic _) t y h = coptic_bounds.days-covered t y h
any_covered (calendar.Dangi c) t y h = east_asian_bounds.days-covered (tables.table_year c.0.table) (table-years c.0.table) t y h
any_covered (calendar.Ethiopian c) t y h = covered-renumbered (coptic_offset c.era_style) (coptic_offset-small c.era_style) coptic_list coptic_list-bounded t y h
any_covered (calendar.Gregorian _) t y h = offset_list-covered (pos 0) (true-offset (pos 0) refl) t y h
any_covered (calendar.Hebrew _) t y h = hebrew_bounds.days-covered t y h
any_covered (calendar.HijriSimulated c) t y h = hijri_bounds.days-covered (table_year (hijri_rows.years_of c.0.table.rows.now)) (table-numbered (hijri_rows.years_of c.0.table.rows.now) c.0.table.accepted) (table-joins (hijri_rows.years_of c.0.table.rows.now) c.0.table.accepted) t y h
any_covered (calendar.HijriTabular c) t y h = hijri_bounds.days-covered (tabular_year c.0) (tabular-numbered c.0) (tabular-joins c.0) t y h
any_covered (calendar.HijriUmmAlQura c) t y h = hijri_bounds.days-covered (table_year (hijri_rows.years_of c.0.table.rows.now)) (table-numbered (hijri_rows.years_of c.0.table.rows.now) c.0.table.accepted) (table-joins (hijri_rows.years_of c.0.table.rows.now) c.0.table.accepted) t y h
any_covered (calendar.Indian _) t y h = indian_bounds.days-covered t y h
any_covered (calendar.Iso _) t y h = offset_list-covered (pos 0) (true-offset (pos 0) refl) t y h
any_covered (calendar.Japanese _) t y h = offset_list-covered (pos 0) (true-offset (pos 0) refl) t y h
any_covered (calendar.JapaneseExtended _) t y h = offset_list-covered (pos 0) (true-offset (pos 0) refl) t y h
any_covered (calendar.Julian _) t y h = julian_bounds.days-covered t y h
any_covered (calendar.Persian c) t y h = persian_bounds.days-covered (corrected_years c) c.corrections.known t y h
any_covered (calendar.Roc _) t y h = offset_list-covered roc_offset (true-offset roc_offset refl) t y h

pub any_named : (c : AnyCalendar) (t : Date) → extended_year_of ((any_system c).year_info t) ≡ t.year
any_named (calendar.Buddhist _) t = refl
any_named (calendar.Chinese _) t = refl
any_named (calendar.Coptic _) t = refl
any_named (calendar.Dangi _) t = refl
any_named (calendar.Ethiopian c) t = ethiopian_year-named c.era_style t.year
any_named (calendar.Gregorian _) t = common_era-named t
any_named (calendar.Hebrew _) t = refl
any_named (calendar.HijriSimulated _) t = years-named t.year
any_named (calendar.HijriTabular _) t = years-named t.year
any_named (calendar.HijriUmmAlQura _) t = years-named t.year
any_named (calendar.Indian _) t = refl
any_named (calendar.Iso _) t = refl
any_named (calendar.Japanese c) t = japanese_era-named c.eras t
any_named (calendar.JapaneseExtended c) t = japanese_era-named c.eras t
any_named (calendar.Julian _) t = julian_year_info-named t
any_named (calendar.Persian _) t = refl
any_named (calendar.Roc _) t = roc_era-named t

-- a date in extended years is one of the list where it is kept as one, and has its day number
any_listed : (c : AnyCalendar) (t : Date) → IsValidDate (kept_list c) t
    → IsValidDate (any_system c).list (extended_date c t)
any_listed (calendar.Buddhist _) t h = counted-valid buddhist_offset gregorian_list t h
any_listed (calendar.Chinese _) t h = h
any_listed (calendar.Coptic _) t h = h
any_listed (calendar.Dangi _) t h = h
any_listed (calendar.Ethiopian c) t h = counted-valid (coptic_offset c.era_style) coptic_list t h
any_listed (calendar.Gregorian _) t h = counted-valid (pos 0) gregorian_list t h
any_listed (calendar.Hebrew _) t h = h
any_listed (calendar.HijriSimulated _) t h = h
any_listed (calendar.HijriTabular _) t h = h
any_listed (calendar.HijriUmmAlQura _) t h = h
any_listed (calendar.Indian _) t h = h
any_listed (calendar.Iso _) t h = counted-valid (pos 0) gregorian_list t h
any_listed (calendar.Japanese _) t h = counted-valid (pos 0) gregorian_list t h
any_listed (calendar.JapaneseExtended _) t h = counted-valid (pos 0) gregorian_list t h
any_listed (calendar.Julian _) t h = h
any_listed (calendar.Persian _) t h = h
any_listed (calendar.Roc _) t h = counted-valid roc_offset gregorian_list t h

any_day : (c : AnyCalendar) (t : Date) → day_number (any_system c).list (extended_date c t) ≡ day_number (kept_list c) t
any_day (calendar.Buddhist _) t = day_number-counted buddhist_offset gregorian_list t
any_day (calendar.Chinese _) t = refl
any_day (calendar.Coptic _) t = refl
any_day (calendar.Dangi _) t = refl
any_day (calendar.Ethiopian c) t = day_number-counted (coptic_offset c.era_style) coptic_list t
any_day (calendar.Gregorian _) t = day_number-counted (pos 0) gregorian_list t
any_day (calendar.Hebrew _) t = refl
any_day (calendar.HijriSimulated _) t = refl
any_day (calendar.HijriTabular _) t = refl
any_day (calendar.HijriUmmAlQura _) t = refl
any_day (calendar.Indian _) t = refl
any_day (calendar.Iso _) t = day_number-counted (pos 0) gregorian_list t
any_day (calendar.Japanese _) t = day_number-counted (pos 0) gregorian_list t
any_day (calendar.JapaneseExtended _) t = day_number-counted (pos 0) gregorian_list t
any_day (calendar.Julian _) t = refl
any_day (calendar.Persian _) t = refl
any_day (calendar.Roc _) t = day_number-counted roc_offset gregorian_list t

-- the test of a date as it is kept
valid-kept : (c : AnyCalendar) (t : Date) → IsTrue (is_valid_kept c t) → IsValidDate (kept_list c) t
valid-kept (calendar.Buddhist _) t h = is_valid_date-true gregorian_list t h
valid-kept (calendar.Chinese c) t h = is_valid_date-true (east_asian_list (tables.table_year c.0.table)) t h
valid-kept (calendar.Coptic _) t h = is_valid_date-true coptic_list t h
valid-kept (calendar.Dangi c) t h = is_valid_date-true (east_asian_list (tables.table_year c.0.table)) t h
valid-kept (calendar.Ethiopian c) t h = valid-counted (coptic_offset c.era_style) coptic_list t (is_valid_date-true (ethiopian_list (coptic_offset c.era_style)) (counted_date (coptic_offset c.era_style) t) h)
valid-kept (calendar.Gregorian _) t h = is_valid_date-true gregorian_list t h
valid-kept (calendar.Hebrew _) t h = is_valid_date-true hebrew_list t h
valid-kept (calendar.HijriSimulated c) t h = is_valid_date-true (hijri_list (table_year (hijri_rows.years_of c.0.table.rows.now))) t h
valid-kept (calendar.HijriTabular c) t h = is_valid_date-true (hijri_list (tabular_year c.0)) t h
valid-kept (calendar.HijriUmmAlQura c) t h = is_valid_date-true (hijri_list (table_year (hijri_rows.years_of c.0.table.rows.now))) t h
valid-kept (calendar.Indian _) t h = is_valid_date-true indian_list t h
valid-kept (calendar.Iso _) t h = is_valid_date-true gregorian_list t h
valid-kept (calendar.Japanese _) t h = is_valid_date-true gregorian_list t h
valid-kept (calendar.JapaneseExtended _) t h = is_valid_date-true gregorian_list t h
valid-kept (calendar.Julian _) t h = is_valid_date-true julian_list t h
valid-kept (calendar.Persian c) t h = is_valid_date-true (persian_list (corrected_years c)) t h
valid-kept (calendar.Roc _) t h = is_valid_date-true gregorian_list t h

kept-valid : (c : AnyCalendar) (t : Date) → IsValidDate (kept_list c) t → IsTrue (is_valid_kept c t)
kept-valid (calendar.Buddhist _) t h = true-is_valid_date gregorian_list t h
kept-valid (calendar.Chinese c) t h = true-is_valid_date (east_asian_list (tables.table_year c.0.table)) t h
kept-valid (calendar.Coptic _) t h = true-is_valid_date coptic_list t h
kept-valid (calendar.Dangi c) t h = true-is_valid_date (east_asian_list (tables.table_year c.0.table)) t h
kept-valid (calendar.Ethiopian c) t h = true-is_valid_date (ethiopian_list (coptic_offset c.era_style)) (counted_date (coptic_offset c.era_style) t) (counted-valid (coptic_offset c.era_style) coptic_list t h)
kept-valid (calendar.Gregorian _) t h = true-is_valid_date gregorian_list t h
kept-valid (calendar.Hebrew _) t h = true-is_valid_date hebrew_list t h
kept-valid (calendar.HijriSimulated c) t h = true-is_valid_date (hijri_list (table_year (hijri_rows.years_of c.0.table.rows.now))) t h
kept-valid (calendar.HijriTabular c) t h = true-is_valid_date (hijri_list (tabular_year c.0)) t h
kept-valid (calendar.HijriUmmAlQura c) t h = true-is_valid_date (hijri_list (table_year (hijri_rows.years_of c.0.table.rows.now))) t h
kept-valid (calendar.Indian _) t h = true-is_valid_date indian_list t h
kept-valid (calendar.Iso _) t h = true-is_valid_date gregorian_list t h
kept-valid (calendar.Japanese _) t h = true-is_valid_date gregorian_list t h
kept-valid (calendar.JapaneseExtended _) t h = true-is_valid_date gregorian_list t h
kept-valid (calendar.Julian _) t h = true-is_valid_date julian_list t h
kept-valid (calendar.Persian c) t h = true-is_valid_date (persian_list (corrected_years c)) t h
kept-valid (calendar.Roc _) t h = true-is_valid_date gregorian_list t h

-- what belongs is of the calendar's kind, and a date of its list as it is kept
pub any_kind : (c : AnyCalendar) (d : AnyDateInner) → IsTrue (any_belongs c d) → kind_of d ≡ calendar_kind c
any_kind c d h = equal_kinds (kind_of d) (calendar_kind c) (and-left (kind_of d == calendar_kind c) (is_kept c d) h)

any_is_kept : (c : AnyCalendar) (d : AnyDateInner) → IsTrue (any_belongs c d) → IsTrue (is_kept c d)
any_is_kept c d h = and-right (kind_of d == calendar_kind c) (is_kept c d) h

any_given : (c : AnyCalendar) (d : AnyDateInner) → IsTrue (any_belongs c d) → IsTrue (keeps_given_year c d)
any_given c d h = and-left (keeps_given_year c d) (is_valid_kept c (kept_date d)) (any_is_kept c d h)

any_valid : (c : AnyCalendar) (d : AnyDateInner) → IsTrue (any_belongs c d) → IsValidDate (kept_list c) (kept_date d)
any_valid c d h =
    valid-kept c (kept_date d) (and-right (keeps_given_year c d) (is_valid_kept c (kept_date d)) (any_is_kept c d h))

pub any_dated : (c : AnyCalendar) (d : AnyDateInner) → IsTrue (any_belongs c d)
    → IsValidDate (any_system c).list (any_date c d)
any_dated c d h = any_listed c (kept_date d) (any_valid c d h)

-- the day number of an inner date
abbrev pub day_of : AnyCalendar → AnyDateInner → ℤ
day_of c d = day_number (any_system c).list (any_date c d)

-- dates of one calendar are equal and ordered as their day numbers
module _ (c : AnyCalendar) (a b : AnyDateInner) (h : IsTrue (any_belongs c a)) (k : IsTrue (any_belongs c b)) where
  kinds : (kind_of a == kind_of b) ≡ true
  kinds = same_kind (kind_of a) (kind_of b) (any_kind c a h ∙ sym (any_kind c b k))

  pub any_equal_days : any_eq a b ≡ int_eq (day_of c a) (day_of c b)
  any_equal_days =
      let first = (any_valid c a h).date in
      let second = (any_valid c b k).date in
      ap (λ (x : Bool). x && date_eq (kept_date a) (kept_date b)) kinds
      ∙ rw (any_day c (kept_date a), any_day c (kept_date b))
      (dates-equal (kept_list c) (kept_date a) (kept_date b) first second)

  abbrev some_order : Ordering → Option Ordering
  some_order r = Some r

  pub any_ordered_days : any_cmp a b ≡ Some (int_cmp (day_of c a) (day_of c b))
  any_ordered_days =
      let first = (any_valid c a h).date in
      let second = (any_valid c b k).date in
      ap (λ (x : Bool). if x then Some (date_cmp (kept_date a) (kept_date b)) else None) kinds
      ∙ ap some_order (rw (any_day c (kept_date a), any_day c (kept_date b))
      (dates-ordered (kept_list c) (kept_date a) (kept_date b) first second))

-- compatibility is an equivalence
compatible-alike : IsEquivalence any_compatible
compatible-alike =
    by_kind-equivalence calendar_kind table_tests
    (always-equivalence, (on_equiv east_asian_rows_of (lists_equiv same_year-alike), (always-equivalence, (on_equiv east_asian_rows_of (lists_equiv same_year-alike), (always-equivalence, (always-equivalence, (always-equivalence, (on_equiv hijri_rows_of same_rows-equivalence, (on_equiv tabular_rules_of same_rules-equivalence, (on_equiv hijri_rows_of same_rows-equivalence, (always-equivalence, (always-equivalence, (always-equivalence, (always-equivalence, (always-equivalence, (on_equiv corrected_of (lists_equiv int_eq_equiv), (always-equivalence, tt)))))))))))))))))

pub any_compatible_itself : (c : AnyCalendar) → IsTrue (any_compatible c c)
any_compatible_itself c = compatible-alike.refl c

pub any_compatible_back : (s t : AnyCalendar) → IsTrue (any_compatible s t) → IsTrue (any_compatible t s)
any_compatible_back s t h = sym (compatible-alike.symm s t) ∙ h

pub any_compatible_on : (s t u : AnyCalendar) → IsTrue (any_compatible s t) → IsTrue (any_compatible t u)
    → IsTrue (any_compatible s u)
any_compatible_on s t u h k = compatible-alike.congr s t u h ∙ k

-- the lists of the kinds, in their order, with what a calendar of the kind holds
abbrev list_of_kind : AnyCalendar → ℕ → CalendarList
list_of_kind c n =
    slice_index_or (
    gregorian_list ∷ east_asian_list (chosen_year (computed_year China) (east_asian_rows_of c)) ∷ coptic_list ∷ east_asian_list (chosen_year (computed_year Korea) (east_asian_rows_of c)) ∷ coptic_list ∷ gregorian_list ∷ hebrew_list ∷ hijri_list (table_year (hijri_rows_of c)) ∷ hijri_list (tabular_year (tabular_rules_of c)) ∷ hijri_list (table_year (hijri_rows_of c)) ∷ indian_list ∷ gregorian_list ∷ gregorian_list ∷ gregorian_list ∷ julian_list ∷ persian_list (corrected_of c) ∷ gregorian_list ∷ []) n gregorian_list

kept_list-kind : (c : AnyCalendar) → kept_list c ≡ list_of_kind c (calendar_kind c)
kept_list-kind (calendar.Buddhist _) = refl
kept_list-kind (calendar.Chinese c) = ap (λ (x : Side). east_asian_list (chosen_year (computed_year x) (east_asian_rows.years_of c.0.table.rows.now))) c.0.side
kept_list-kind (calendar.Coptic _) = refl
kept_list-kind (calendar.Dangi c) = ap (λ (x : Side). east_asian_list (chosen_year (computed_year x) (east_asian_rows.years_of c.0.table.rows.now))) c.0.side
kept_list-kind (calendar.Ethiopian _) = refl
kept_list-kind (calendar.Gregorian _) = refl
kept_list-kind (calendar.Hebrew _) = refl
kept_list-kind (calendar.HijriSimulated _) = refl
kept_list-kind (calendar.HijriTabular _) = refl
kept_list-kind (calendar.HijriUmmAlQura _) = refl
kept_list-kind (calendar.Indian _) = refl
kept_list-kind (calendar.Iso _) = refl
kept_list-kind (calendar.Japanese _) = refl
kept_list-kind (calendar.JapaneseExtended _) = refl
kept_list-kind (calendar.Julian _) = refl
kept_list-kind (calendar.Persian _) = refl
kept_list-kind (calendar.Roc _) = refl

-- what a date's kept year is tested for, in the order of the kinds
abbrev given_of_kind : AnyCalendar → AnyDateInner → ℕ → Bool
given_of_kind c d n =
    slice_index_or (
    true ∷ same_year (chosen_year (computed_year China) (east_asian_rows_of c) (east_asian_year d).related_iso) (east_asian_year d) ∷ true ∷ same_year (chosen_year (computed_year Korea) (east_asian_rows_of c) (east_asian_year d).related_iso) (east_asian_year d) ∷ true ∷ true ∷ keeps_hebrew_length d ∷ has_parts_of (table_year (hijri_rows_of c) (hijri_year d).extended_year) (hijri_year d) ∷ has_parts_of (tabular_year (tabular_rules_of c) (hijri_year d).extended_year) (hijri_year d) ∷ has_parts_of (table_year (hijri_rows_of c) (hijri_year d).extended_year) (hijri_year d) ∷ true ∷ true ∷ true ∷ true ∷ true ∷ true ∷ true ∷ []) n true

keeps_given-kind : (c : AnyCalendar) (d : AnyDateInner) → keeps_given_year c d ≡ given_of_kind c d (calendar_kind c)
keeps_given-kind (calendar.Buddhist _) d = refl
keeps_given-kind (calendar.Chinese c) d =
    ap (λ (x : Side). same_year (chosen_year (computed_year x) (east_asian_rows.years_of c.0.table.rows.now) (east_asian_year d).related_iso) (east_asian_year d)) c.0.side
keeps_given-kind (calendar.Coptic _) d = refl
keeps_given-kind (calendar.Dangi c) d =
    ap (λ (x : Side). same_year (chosen_year (computed_year x) (east_asian_rows.years_of c.0.table.rows.now) (east_asian_year d).related_iso) (east_asian_year d)) c.0.side
keeps_given-kind (calendar.Ethiopian _) d = refl
keeps_given-kind (calendar.Gregorian _) d = refl
keeps_given-kind (calendar.Hebrew _) d = refl
keeps_given-kind (calendar.HijriSimulated _) d = refl
keeps_given-kind (calendar.HijriTabular _) d = refl
keeps_given-kind (calendar.HijriUmmAlQura _) d = refl
keeps_given-kind (calendar.Indian _) d = refl
keeps_given-kind (calendar.Iso _) d = refl
keeps_given-kind (calendar.Japanese _) d = refl
keeps_given-kind (calendar.JapaneseExtended _) d = refl
keeps_given-kind (calendar.Julian _) d = refl
keeps_given-kind (calendar.Persian _) d = refl
keeps_given-kind (calendar.Roc _) d = refl

-- calendars that share what their kind asks for have the kind's list
alike_list : (s t : AnyCalendar) → IsTrue (test_of table_tests (calendar_kind s) s t) → kept_list s ≡ list_of_kind t (calendar_kind s)
alike_list (calendar.Buddhist _) t h = refl
alike_list (calendar.Chinese c) t h = λ i. east_asian_list (chosen_year (computed_year (c.0.side i)) (same_lists (east_asian_rows.years_of c.0.table.rows.now) (east_asian_rows_of t) h i))
alike_list (calendar.Coptic _) t h = refl
alike_list (calendar.Dangi c) t h = λ i. east_asian_list (chosen_year (computed_year (c.0.side i)) (same_lists (east_asian_rows.years_of c.0.table.rows.now) (east_asian_rows_of t) h i))
alike_list (calendar.Ethiopian _) t h = refl
alike_list (calendar.Gregorian _) t h = refl
alike_list (calendar.Hebrew _) t h = refl
alike_list (calendar.HijriSimulated c) t h = λ i. hijri_list (λ y. table-shared (hijri_rows.years_of c.0.table.rows.now) (hijri_rows_of t) y h i)
alike_list (calendar.HijriTabular c) t h = λ i. hijri_list (λ y. tabular-shared c.0 (tabular_rules_of t) y h i)
alike_list (calendar.HijriUmmAlQura c) t h = λ i. hijri_list (λ y. table-shared (hijri_rows.years_of c.0.table.rows.now) (hijri_rows_of t) y h i)
alike_list (calendar.Indian _) t h = refl
alike_list (calendar.Iso _) t h = refl
alike_list (calendar.Japanese _) t h = refl
alike_list (calendar.JapaneseExtended _) t h = refl
alike_list (calendar.Julian _) t h = refl
alike_list (calendar.Persian _) t h = ap persian_list (same_years _ _ h)
alike_list (calendar.Roc _) t h = refl

-- and give the same years
alike_given : (s t : AnyCalendar) (d : AnyDateInner) → IsTrue (test_of table_tests (calendar_kind s) s t) → keeps_given_year s d ≡ given_of_kind t d (calendar_kind s)
alike_given (calendar.Buddhist _) t d h = refl
alike_given (calendar.Chinese c) t d h = λ i. same_year (chosen_year (computed_year (c.0.side i)) (same_lists (east_asian_rows.years_of c.0.table.rows.now) (east_asian_rows_of t) h i) (east_asian_year d).related_iso) (east_asian_year d)
alike_given (calendar.Coptic _) t d h = refl
alike_given (calendar.Dangi c) t d h = λ i. same_year (chosen_year (computed_year (c.0.side i)) (same_lists (east_asian_rows.years_of c.0.table.rows.now) (east_asian_rows_of t) h i) (east_asian_year d).related_iso) (east_asian_year d)
alike_given (calendar.Ethiopian _) t d h = refl
alike_given (calendar.Gregorian _) t d h = refl
alike_given (calendar.Hebrew _) t d h = refl
alike_given (calendar.HijriSimulated c) t d h = λ i. has_parts_of (table-shared (hijri_rows.years_of c.0.table.rows.now) (hijri_rows_of t) (hijri_year d).extended_year h i) (hijri_year d)
alike_given (calendar.HijriTabular c) t d h = λ i. has_parts_of (tabular-shared c.0 (tabular_rules_of t) (hijri_year d).extended_year h i) (hijri_year d)
alike_given (calendar.HijriUmmAlQura c) t d h = λ i. has_parts_of (table-shared (hijri_rows.years_of c.0.table.rows.now) (hijri_rows_of t) (hijri_year d).extended_year h i) (hijri_year d)
alike_given (calendar.Indian _) t d h = refl
alike_given (calendar.Iso _) t d h = refl
alike_given (calendar.Japanese _) t d h = refl
alike_given (calendar.JapaneseExtended _) t d h = refl
alike_given (calendar.Julian _) t d h = refl
alike_given (calendar.Persian _) t d h = refl
alike_given (calendar.Roc _) t d h = refl

-- compatible calendars keep their dates in the same list, and give the same years
any_same_list : (s t : AnyCalendar) → IsTrue (any_compatible s t) → kept_list s ≡ kept_list t
any_same_list s t h =
    let kinds = by_kind-kinds calendar_kind table_tests s t h in
    alike_list s t (by_kind-test calendar_kind table_tests s t h) ∙ (ap (list_of_kind t) kinds ∙ sym (kept_list-kind t))

any_same_given : (s t : AnyCalendar) (d : AnyDateInner) → IsTrue (any_compatible s t) → keeps_given_year s d ≡ keeps_given_year t d
any_same_given s t d h =
    let kinds = by_kind-kinds calendar_kind table_tests s t h in
    alike_given s t d (by_kind-test calendar_kind table_tests s t h) ∙ (ap (given_of_kind t d) kinds ∙ sym (keeps_given-kind t d))

pub any_shared : (s t : AnyCalendar) (d : AnyDateInner) → IsTrue (any_compatible s t) → IsTrue (any_belongs s d)
    → IsTrue (any_belongs t d)
any_shared s t d h k =
    let kind = same_kind _ _ (any_kind s d k ∙ by_kind-kinds calendar_kind table_tests s t h) in
    let valid = subst (λ (l : CalendarList). IsValidDate l (kept_date d)) (any_same_list s t h) (any_valid s d k) in
    let given = sym (any_same_given s t d h) ∙ any_given s d k in
    let kept = true-and (keeps_given_year t d) (is_valid_kept t (kept_date d)) given (kept-valid t (kept_date d) valid) in
    true-and (kind_of d == calendar_kind t) (is_kept t d) kind kept

pub any_shared_day : (s t : AnyCalendar) (d : AnyDateInner) → IsTrue (any_compatible s t) → IsTrue (any_belongs s d)
    → day_number (any_system t).list (any_date t d) ≡ day_number (any_system s).list (any_date s d)
any_shared_day s t d h k =
    let lists = ap (λ (l : CalendarList). day_number l (kept_date d)) (any_same_list s t h) in
    any_day t (kept_date d) ∙ (sym lists ∙ sym (any_day s (kept_date d)))
