-- Lists of years near the valid days.
use Rattle.std.proofs.Common.{◌≡◌, ℕ, ◌≤◌, Bool, true, false, not, if◌then◌else◌, List, [], refl, sym, subst, arith, ◌∙◌, ℤ, pos, neg_ℤ, ◌+ℤ◌, ◌-ℤ◌, ◌*ℤ◌, ◌≤ℤ◌, ◌<ℤ◌}
use Rattle.std.specs.Prelude.{IsTrue, ◌&&◌, ◌==◌, nat_le}
use Rattle.std.proofs.lemmas.Bool.Decides.{nat_tests}
use Rattle.std.proofs.lemmas.Int.{by_lt_z}
use Rattle.cal_days.specs.Day.{IsBetween, IsFieldYear}
use Rattle.cal_days.proofs.CopticLemmas.{coptic_start-bounds}
use Rattle.cal_days.proofs.GregorianLemmas.{gregorian_start-bounds}
use Rattle.cal_days.proofs.HebrewLemmas.{hebrew_start-bounds}
use Rattle.cal_days.proofs.JulianLemmas.{julian_start-bounds}
use Rattle.cal_days.proofs.PersianLemmas.{persian_start-bounds}
use Rattle.cal_days.proofs.Signed.{signed}
use Rattle.cal_base.specs.GregorianList.{gregorian_list}
use Rattle.cal_base.specs.OffsetList.{offset_list}
use Rattle.cal_base.specs.laws.GregorianLaws.{gregorian_list-bounded, start_of_year-gregorian}
use Rattle.cal_base.specs.laws.OffsetListLaws.{offset_list-plain, true-offset}
use Rattle.cal_coptic.specs.CopticList.{coptic_list}
use Rattle.cal_coptic.specs.laws.CopticLaws.{coptic_list-bounded, coptic_list-plain, start_of_year-coptic}
use Rattle.cal_coptic.specs.EthiopianList.{coptic_offset, ethiopian_list}
use Rattle.cal_coptic.specs.laws.EthiopianLaws.{coptic_offset-small, ethiopian_list-plain}
use Rattle.cal_coptic.specs.EthiopianSystem.{ethiopian_system}
use Rattle.cal_coptic.specs.declared.ethiopian.EthiopianEraStyle.{EthiopianEraStyle}
use Rattle.cal_coptic.specs.declared.ethiopian.EthiopianEraStyle.TheVariants.{AmeteMihret, AmeteAlem}
use Rattle.cal_east_asian.specs.laws.ComputedLaws.{computed_year, computed-years}
use Rattle.cal_east_asian.specs.laws.EastAsianStartLaws as east_asian_bounds
use Rattle.cal_east_asian.specs.EastAsianList.{east_asian_list}
use Rattle.cal_east_asian.specs.EastAsianYears.{AreYears}
use Rattle.cal_east_asian.specs.EastAsianRows as east_asian
use Rattle.cal_east_asian.specs.TableAccepted as lunisolar
use Rattle.cal_east_asian.specs.TableYears.{chosen_year}
use Rattle.cal_east_asian.specs.laws.TableYearLaws.{chosen-years}
use Rattle.cal_east_asian.specs.declared.east_asian_table.EastAsianTable.{EastAsianTable}
use Rattle.cal_east_asian.specs.declared.east_asian_traditional_year.EastAsianTraditionalYear.{EastAsianTraditionalYear}
use Rattle.cal_east_asian.specs.declared.sides.Side.{Side}
use Rattle.cal_east_asian.specs.declared.sides.Side.TheVariants as side
use Rattle.cal_gregory.specs.BuddhistEra.{buddhist_offset}
use Rattle.cal_gregory.specs.RocEra.{roc_offset}
use Rattle.cal_hebrew.specs.HebrewList.{hebrew_list}
use Rattle.cal_hebrew.specs.laws.HebrewLaws as hebrew_bounds
use Rattle.cal_hebrew.specs.laws.HebrewMonths.{is_of_kind-hebrew, start_of_year-hebrew}
use Rattle.cal_hijri.specs.HijriList.{hijri_list, Joins, Numbered}
use Rattle.cal_hijri.specs.HijriRows as hijri_rows
use Rattle.cal_hijri.specs.TableAccepted as hijri
use Rattle.cal_hijri.specs.TableFriday.{friday_year}
use Rattle.cal_hijri.specs.TableRules.{table_year, table_system}
use Rattle.cal_hijri.specs.TabularRules.{tabular_year, tabular_system}
use Rattle.cal_hijri.specs.laws.HijriBounds as hijri_bounds
use Rattle.cal_hijri.specs.laws.HijriShapes.{hijri_list-plain}
use Rattle.cal_hijri.specs.laws.TableRuleLaws.{table-numbered, table-joins}
use Rattle.cal_hijri.specs.laws.TabularRuleLaws.{tabular-numbered, tabular-joins}
use Rattle.cal_hijri.specs.declared.hijri_year.HijriYear.{HijriYear}
use Rattle.cal_hijri.specs.declared.tabular_algorithm.TabularAlgorithm.{TabularAlgorithm}
use Rattle.cal_hijri.specs.declared.tabular_algorithm.TabularAlgorithmEpoch.TheVariants.{Friday, Thursday}
use Rattle.cal_hijri.specs.declared.tabular_algorithm.TabularAlgorithmLeapYears.TheVariants.{TypeI, TypeII}
use Rattle.cal_julian.specs.IndianList.{indian_list}
use Rattle.cal_julian.specs.JulianList.{julian_list}
use Rattle.cal_julian.specs.PersianList.{persian_list}
use Rattle.cal_julian.specs.PersianRule.{AreCorrectable}
use Rattle.cal_julian.specs.laws.IndianLaws as indian_bounds
use Rattle.cal_julian.specs.laws.IndianLaws.{indian_list-plain, start_of_year-indian}
use Rattle.cal_julian.specs.laws.JulianLaws as julian_bounds
use Rattle.cal_julian.specs.laws.JulianLaws.{julian_list-plain, start_of_year-julian}
use Rattle.cal_julian.specs.laws.PersianLaws as persian_bounds
use Rattle.cal_julian.specs.laws.PersianLaws.{persian_list-plain, start_of_year-persian}
use Rattle.cal_julian.specs.laws.PersianRuleLaws.{persian_new_year-near}
use Rattle.cal_kinds.specs.declared.any_calendar_kind.AnyCalendarKind.{AnyCalendarKind}
use Rattle.cal_kinds.specs.declared.any_calendar_kind.AnyCalendarKind.TheVariants as kind
use Rattle.cal_rrule.specs.NearDays.{IsNearList}
use Rattle.cal_tables.specs.Kinds.{kind_system, side_system, table_contents}
use Rattle.cal_tables.specs.declared.tables.Tables.{Tables}
use Rattle.cal_types.proofs.ListLemmas.{date-in_year, start_of_year-later}
use Rattle.cal_types.proofs.RenumberedBoundLemmas.{apart-renumbered}
use Rattle.cal_types.proofs.RenumberedLemmas.{day_number-renumbered, renumbered-date}
use Rattle.cal_types.specs.CalendarList.{CalendarList, Date, IsDate, IsOn, day_number, start_of_year, year_length}
use Rattle.cal_types.specs.Month.{MonthParts}
use Rattle.cal_types.specs.PlainMonths.{HasPlainMonths, is_plain_month}
use Rattle.cal_types.specs.Renumbered.{renumbered, shifted_date}
use Rattle.cal_types.specs.RenumberedBounds.{IsShift}

-- a day is near the valid ones
abbrev IsNear : ℤ → Type 0
IsNear n = IsBetween (neg_ℤ (pos 365253000)) (pos 365253000) n

-- a year that starts before these days, and one that starts behind them
record Surrounds (c : CalendarList) (low high : ℤ) : Type 0 where
  before : start_of_year c low ≤ℤ neg_ℤ (pos 365253000)
  behind : pos 365253000 <ℤ start_of_year c high

-- the dates of these days lie between
within-years : (c : CalendarList) (low high : ℤ) → Surrounds c low high → (t : Date) → IsDate c t → IsNear (day_number c t) → (low ≤ℤ t.year) × (t.year <ℤ high)
within-years c low high s t h near = (
  by_lt_z {P = low ≤ℤ t.year} t.year low
      (λ lt. absurd (omega (arith, signed, last, near, start_of_year-later c t.year low lt, s.before))) (λ le. le),
  by_lt_z {P = t.year <ℤ high} t.year high (λ lt. lt)
      (λ le. absurd (omega (arith, signed, first, near, later le, s.behind))),
) where
  first : start_of_year c t.year ≤ℤ day_number c t
  first = omega (arith, signed)

  last : day_number c t <ℤ (start_of_year c t.year +ℤ pos (year_length c t.year))
  last = let within = date-in_year c t h in omega (arith, signed, within, h.day)

  later : high ≤ℤ t.year → start_of_year c high ≤ℤ start_of_year c t.year
  later le =
      by_lt_z {P = start_of_year c high ≤ℤ start_of_year c t.year} high t.year
      (λ lt. omega (arith, signed, start_of_year-later c high t.year lt))
      (λ ge. let same : high ≡ t.year = omega (arith, signed, le, ge) in subst (λ (y : ℤ). start_of_year c high ≤ℤ start_of_year c y) same (omega (arith, signed)))

gregorian_surrounds : Surrounds gregorian_list (neg_ℤ (pos 1010000)) (pos 1010000)
gregorian_surrounds = record {
  before = omega (arith, signed, start_of_year-gregorian (neg_ℤ (pos 1010000)), gregorian_start-bounds (neg_ℤ (pos 1010000)));
  behind = omega (arith, signed, start_of_year-gregorian (pos 1010000), gregorian_start-bounds (pos 1010000));
}

coptic_surrounds : Surrounds coptic_list (neg_ℤ (pos 1010000)) (pos 1010000)
coptic_surrounds = record {
  before = omega (arith, signed, start_of_year-coptic (neg_ℤ (pos 1010000)), coptic_start-bounds (neg_ℤ (pos 1010000)));
  behind = omega (arith, signed, start_of_year-coptic (pos 1010000), coptic_start-bounds (pos 1010000));
}

-- a date of a list that counts the years of another
renumbered-near : (shift : ℤ) → IsShift shift → (c : CalendarList) → Surrounds c (neg_ℤ (pos 1010000)) (pos 1010000) → (n : ℤ) (t : Date) → IsNear n → IsOn (renumbered shift c) n t → IsFieldYear t.year
renumbered-near shift small c s n t near on =
    let day : IsNear (day_number c (shifted_date shift t)) = subst IsNear (sym on.day ∙ day_number-renumbered shift c t) near in
    let within = within-years c (neg_ℤ (pos 1010000)) (pos 1010000) s (shifted_date shift t) (renumbered-date shift c t on.date) day in
    (omega (arith, signed, within.0, small), omega (arith, signed, within.1, small))

-- a date of a list
list-near : (c : CalendarList) → Surrounds c (neg_ℤ (pos 1036000)) (pos 1036000) → (n : ℤ) (t : Date) → IsNear n → IsOn c n t → IsFieldYear t.year
list-near c s n t near on =
    let within = within-years c (neg_ℤ (pos 1036000)) (pos 1036000) s t on.date (subst IsNear (sym on.day) near) in
    (omega (arith, signed, within.0), omega (arith, signed, within.1))

hebrew_surrounds : Surrounds hebrew_list (neg_ℤ (pos 1036000)) (pos 1036000)
hebrew_surrounds = record {
  before = omega (arith, signed, start_of_year-hebrew (neg_ℤ (pos 1036000)), hebrew_start-bounds (neg_ℤ (pos 1036000)));
  behind = omega (arith, signed, start_of_year-hebrew (pos 1036000), hebrew_start-bounds (pos 1036000));
}

indian_surrounds : Surrounds indian_list (neg_ℤ (pos 1036000)) (pos 1036000)
indian_surrounds = record {
  before = omega (arith, signed, start_of_year-indian (neg_ℤ (pos 1036000)), gregorian_start-bounds (neg_ℤ (pos 1036000) +ℤ pos 78));
  behind = omega (arith, signed, start_of_year-indian (pos 1036000), gregorian_start-bounds (pos 1036000 +ℤ pos 78));
}

julian_surrounds : Surrounds julian_list (neg_ℤ (pos 1036000)) (pos 1036000)
julian_surrounds = record {
  before = omega (arith, signed, start_of_year-julian (neg_ℤ (pos 1036000)), julian_start-bounds (neg_ℤ (pos 1036000)));
  behind = omega (arith, signed, start_of_year-julian (pos 1036000), julian_start-bounds (pos 1036000));
}

coptic_wide : Surrounds coptic_list (neg_ℤ (pos 1036000)) (pos 1036000)
coptic_wide = record {
  before = omega (arith, signed, start_of_year-coptic (neg_ℤ (pos 1036000)), coptic_start-bounds (neg_ℤ (pos 1036000)));
  behind = omega (arith, signed, start_of_year-coptic (pos 1036000), coptic_start-bounds (pos 1036000));
}

persian_surrounds : (years : List ℤ) → AreCorrectable years → Surrounds (persian_list years) (neg_ℤ (pos 1036000)) (pos 1036000)
persian_surrounds years known = record {
  before = omega (arith, signed, start_of_year-persian years known (neg_ℤ (pos 1036000)), persian_new_year-near years (neg_ℤ (pos 1036000)), persian_start-bounds (neg_ℤ (pos 1036000)));
  behind = omega (arith, signed, start_of_year-persian years known (pos 1036000), persian_new_year-near years (pos 1036000), persian_start-bounds (pos 1036000));
}

hijri_surrounds : (year_of : ℤ → HijriYear) → Numbered year_of → Joins year_of → Surrounds (hijri_list year_of) (neg_ℤ (pos 1036000)) (pos 1036000)
hijri_surrounds year_of numbered joins = record {
  before = omega (arith, signed, hijri_bounds.start-bounds year_of numbered joins (neg_ℤ (pos 1036000)) (omega (arith, signed), omega (arith, signed)));
  behind = omega (arith, signed, hijri_bounds.start-bounds year_of numbered joins (pos 1036000) (omega (arith, signed), omega (arith, signed)));
}

-- ---- months

both-second : (a b c : Bool) → IsTrue (a && (b && c)) → IsTrue c
both-second true true c h = h
both-second true false c h = cc
both-second false b c h = cc

plain-small : (n : ℕ) (m : MonthParts) → n ≤ 13 → IsTrue (is_plain_month n m) → m.number ≤ 13
plain-small n m few h = let tested = both-second (not m.is_leap) (nat_le 1 m.number) (nat_le m.number n) h in grind (arith, nat_tests)

plain-months : (n : ℕ) (c : CalendarList) → HasPlainMonths n c → n ≤ 13 → (m : MonthParts) → IsTrue (c.is_of_kind m) → m.number ≤ 13
plain-months n c plain few m h = plain-small n m few (subst IsTrue (plain.kind m) h)

hebrew-months : (m : MonthParts) → IsTrue (hebrew_list.is_of_kind m) → m.number ≤ 13
hebrew-months m h = by m.is_leap (subst IsTrue (is_of_kind-hebrew m) h)
  where
    by : (leap : Bool) → IsTrue (if leap then m.number == 5 else (nat_le 1 m.number && nat_le m.number 12)) → m.number ≤ 13
    by true h = grind (arith, nat_tests)
    by false h = let tested = both-second true (nat_le 1 m.number) (nat_le m.number 12) h in grind (arith, nat_tests)

east_asian-months : (year_of : ℤ → EastAsianTraditionalYear) (m : MonthParts) → IsTrue ((east_asian_list year_of).is_of_kind m) → m.number ≤ 13
unfolding east_asian_list
east_asian-months year_of m h = let tested = both-second true (nat_le 1 m.number) (nat_le m.number 12) h in grind (arith, nat_tests)

-- ---- lists

pub offset_near : (offset : ℤ) → IsShift offset → IsNearList (offset_list offset)
offset_near offset small = record {
  years = renumbered-near offset small gregorian_list gregorian_surrounds;
  months = plain-months 12 (offset_list offset) (offset_list-plain offset) (omega arith);
  apart = apart-renumbered offset small gregorian_list gregorian_list-bounded;
}

pub gregorian_near : IsNearList (offset_list (pos 0))
gregorian_near = offset_near (pos 0) (true-offset (pos 0) refl)

pub buddhist_near : IsNearList (offset_list buddhist_offset)
buddhist_near = offset_near buddhist_offset (true-offset buddhist_offset refl)

pub roc_near : IsNearList (offset_list roc_offset)
roc_near = offset_near roc_offset (true-offset roc_offset refl)

pub coptic_near : IsNearList coptic_list
coptic_near = record {
  years = list-near coptic_list coptic_wide;
  months = plain-months 13 coptic_list coptic_list-plain (omega arith);
  apart = coptic_list-bounded.apart;
}

pub ethiopian_near : (style : EthiopianEraStyle) → IsNearList (ethiopian_system style).list
ethiopian_near style =
    let small = coptic_offset-small style in
    record {
      years = renumbered-near (coptic_offset style) small coptic_list coptic_surrounds;
      months = plain-months 13 (ethiopian_list (coptic_offset style)) (ethiopian_list-plain (coptic_offset style)) (omega arith);
      apart = apart-renumbered (coptic_offset style) small coptic_list coptic_list-bounded;
    }

pub julian_near : IsNearList julian_list
julian_near = record {
  years = list-near julian_list julian_surrounds;
  months = plain-months 12 julian_list julian_list-plain (omega arith);
  apart = julian_bounds.months-apart;
}

pub indian_near : IsNearList indian_list
indian_near = record {
  years = list-near indian_list indian_surrounds;
  months = plain-months 12 indian_list indian_list-plain (omega arith);
  apart = indian_bounds.months-apart;
}

pub persian_near : (years : List ℤ) → AreCorrectable years → IsNearList (persian_list years)
persian_near years known = record {
  years = list-near (persian_list years) (persian_surrounds years known);
  months = plain-months 12 (persian_list years) (persian_list-plain years) (omega arith);
  apart = persian_bounds.months-apart years known;
}

pub hebrew_near : IsNearList hebrew_list
hebrew_near = record {
  years = list-near hebrew_list hebrew_surrounds;
  months = hebrew-months;
  apart = hebrew_bounds.months-apart;
}

-- under any rules of the Hijri calendar
pub hijri_near : (year_of : ℤ → HijriYear) → Numbered year_of → Joins year_of → IsNearList (hijri_list year_of)
hijri_near year_of numbered joins = record {
  years = list-near (hijri_list year_of) (hijri_surrounds year_of numbered joins);
  months = plain-months 12 (hijri_list year_of) (hijri_list-plain year_of) (omega arith);
  apart = hijri_bounds.months-apart year_of numbered joins;
}

-- under any rules of a calendar of the Chinese kind
pub east_asian_near : (year_of : ℤ → EastAsianTraditionalYear) → AreYears year_of → IsNearList (east_asian_list year_of)
east_asian_near year_of law = record {
  years = list-near (east_asian_list year_of) (record {
    before = omega (arith, signed, east_asian_bounds.start-near year_of law (neg_ℤ (pos 1036000)) (omega (arith, signed), omega (arith, signed)), gregorian_start-bounds (neg_ℤ (pos 1036000)));
    behind = omega (arith, signed, east_asian_bounds.start-near year_of law (pos 1036000) (omega (arith, signed), omega (arith, signed)), gregorian_start-bounds (pos 1036000));
  });
  months = east_asian-months year_of;
  apart = east_asian_bounds.months-apart year_of law;
}
