-- The valid dates of each kind of calendar are near enough for the limits of adding, where the tables are accepted.
use Rattle.std.proofs.Common.{ℕ, List, [], refl, pos}
use Rattle.cal_base.specs.GregorianList.{gregorian_list}
use Rattle.cal_base.specs.laws.GregorianLaws.{gregorian_list-bounded}
use Rattle.cal_base.specs.laws.OffsetListLaws.{true-offset}
use Rattle.cal_coptic.specs.CopticList.{coptic_list}
use Rattle.cal_coptic.specs.laws.CopticLaws as coptic_bounds
use Rattle.cal_coptic.specs.laws.CopticLaws.{coptic_list-bounded}
use Rattle.cal_coptic.specs.EthiopianList.{coptic_offset}
use Rattle.cal_coptic.specs.laws.EthiopianLaws.{coptic_offset-small}
use Rattle.cal_coptic.specs.EthiopianSystem.{ethiopian_system}
use Rattle.cal_coptic.specs.declared.ethiopian.EthiopianEraStyle.{EthiopianEraStyle}
use Rattle.cal_coptic.specs.declared.ethiopian.EthiopianEraStyle.TheVariants.{AmeteMihret, AmeteAlem}
use Rattle.cal_east_asian.specs.laws.ComputedLaws.{computed_year, computed-years}
use Rattle.cal_east_asian.specs.laws.EastAsianStartLaws as east_asian_bounds
use Rattle.cal_east_asian.specs.TableAccepted as lunisolar
use Rattle.cal_east_asian.specs.TableYears.{chosen_year}
use Rattle.cal_east_asian.specs.laws.TableYearLaws.{chosen-years}
use Rattle.cal_east_asian.specs.declared.east_asian_traditional_year.EastAsianTraditionalYear.{EastAsianTraditionalYear}
use Rattle.cal_east_asian.specs.declared.sides.Side.{Side}
use Rattle.cal_east_asian.specs.declared.sides.Side.TheVariants as side
use Rattle.cal_gregory.specs.BuddhistEra.{buddhist_offset}
use Rattle.cal_gregory.specs.RocEra.{roc_offset}
use Rattle.cal_hebrew.specs.laws.HebrewLaws as hebrew_bounds
use Rattle.cal_hijri.specs.laws.HijriBounds as hijri_bounds
use Rattle.cal_hijri.specs.TableAccepted as hijri
use Rattle.cal_hijri.specs.TableFriday.{friday_year}
use Rattle.cal_hijri.specs.TableRules.{table_year, table_system}
use Rattle.cal_hijri.specs.laws.TableRuleLaws.{table-numbered, table-joins}
use Rattle.cal_hijri.specs.TabularRules.{tabular_year, tabular_system}
use Rattle.cal_hijri.specs.laws.TabularRuleLaws.{tabular-numbered, tabular-joins}
use Rattle.cal_hijri.specs.declared.hijri_year.HijriYear.{HijriYear}
use Rattle.cal_hijri.specs.declared.tabular_algorithm.TabularAlgorithm.{TabularAlgorithm}
use Rattle.cal_hijri.specs.declared.tabular_algorithm.TabularAlgorithmEpoch.TheVariants.{Friday, Thursday}
use Rattle.cal_hijri.specs.declared.tabular_algorithm.TabularAlgorithmLeapYears.TheVariants.{TypeI, TypeII}
use Rattle.cal_julian.proofs.CorrectionLemmas.{accepted-correctable}
use Rattle.cal_julian.specs.laws.IndianLaws as indian_bounds
use Rattle.cal_julian.specs.laws.JulianLaws as julian_bounds
use Rattle.cal_julian.specs.laws.PersianLaws as persian_bounds
use Rattle.cal_kinds.specs.declared.any_calendar_kind.AnyCalendarKind.{AnyCalendarKind}
use Rattle.cal_kinds.specs.declared.any_calendar_kind.AnyCalendarKind.TheVariants as kind
use Rattle.cal_types.proofs.RenumberedBoundLemmas.{ranged-renumbered, apart-renumbered}
use Rattle.cal_types.specs.Rows.{IsRow}
use Rattle.cal_types.specs.SpanLaws.{IsWithinLimits}
use Rattle.cal_tables.specs.Kinds.{kind_system, no_contents, side_system}
use Rattle.table_rows.specs.TableRows.{TableRows, no_rows, contents_of, AreAccepted}
use Rattle.table_rows.specs.declared.table.Table.TheVariants as table

-- a list without rows has no row
no_row : {Y P : Type 0} (i : ℕ) (row : Y) → IsRow [] i row → P
no_row i row h = absurd cc

-- no rows are accepted rows
no_rows_accepted : AreAccepted no_rows
no_rows_accepted table.China = λ i row h. no_row i row h
no_rows_accepted table.Korea = λ i row h. no_row i row h
no_rows_accepted table.Hijri = λ i row h. no_row i row h
no_rows_accepted table.Persian = λ i row h. no_row i row h

tabular_limits : (a : TabularAlgorithm) → IsWithinLimits (tabular_system a)
tabular_limits a = record {
  ranged = hijri_bounds.years-ranged (tabular_year a) (tabular-numbered a) (tabular-joins a);
  apart = hijri_bounds.months-apart (tabular_year a) (tabular-numbered a) (tabular-joins a);
}

table_limits : (rows : List HijriYear) → hijri.IsAccepted friday_year rows → IsWithinLimits (table_system rows)
table_limits rows accepted = record {
  ranged = hijri_bounds.years-ranged (table_year rows) (table-numbered rows accepted) (table-joins rows accepted);
  apart = hijri_bounds.months-apart (table_year rows) (table-numbered rows accepted) (table-joins rows accepted);
}

side_limits : (s : Side) (rows : List EastAsianTraditionalYear) → lunisolar.IsAccepted (computed_year s) rows → IsWithinLimits (side_system s rows)
side_limits s rows accepted =
    let years = chosen-years (computed_year s) rows accepted (computed-years s) in
    record {
      ranged = east_asian_bounds.years-ranged (chosen_year (computed_year s) rows) years;
      apart = east_asian_bounds.months-apart (chosen_year (computed_year s) rows) years;
    }

ethiopian_limits : (style : EthiopianEraStyle) → IsWithinLimits (ethiopian_system style)
ethiopian_limits style = record {
  ranged = ranged-renumbered (coptic_offset style) (coptic_offset-small style) coptic_list coptic_list-bounded;
  apart = apart-renumbered (coptic_offset style) (coptic_offset-small style) coptic_list coptic_list-bounded;
}

-- the calendar of each kind over accepted tables is within the limits
pub kind_limits : (rows : TableRows) → AreAccepted rows → (k : AnyCalendarKind) → IsWithinLimits (kind_system (contents_of rows) k)
kind_limits rows accepted kind.Buddhist = record {
  ranged = ranged-renumbered buddhist_offset (true-offset buddhist_offset refl) gregorian_list gregorian_list-bounded;
  apart = apart-renumbered buddhist_offset (true-offset buddhist_offset refl) gregorian_list gregorian_list-bounded;
}
kind_limits rows accepted kind.Chinese = side_limits side.China rows.china (accepted table.China)
kind_limits rows accepted kind.Coptic = record { ranged = coptic_bounds.years-ranged; apart = coptic_list-bounded.apart }
kind_limits rows accepted kind.Dangi = side_limits side.Korea rows.korea (accepted table.Korea)
kind_limits rows accepted kind.Ethiopian = ethiopian_limits AmeteMihret
kind_limits rows accepted kind.EthiopianAmeteAlem = ethiopian_limits AmeteAlem
kind_limits rows accepted kind.Gregorian = record {
  ranged = ranged-renumbered (pos 0) (true-offset (pos 0) refl) gregorian_list gregorian_list-bounded;
  apart = apart-renumbered (pos 0) (true-offset (pos 0) refl) gregorian_list gregorian_list-bounded;
}
kind_limits rows accepted kind.Hebrew = record { ranged = hebrew_bounds.years-ranged; apart = hebrew_bounds.months-apart }
kind_limits rows accepted kind.Indian = record { ranged = indian_bounds.years-ranged; apart = indian_bounds.months-apart }
kind_limits rows accepted kind.HijriTabularTypeIIFriday = tabular_limits (record { leap_years = TypeII; epoch = Friday })
kind_limits rows accepted kind.HijriSimulatedMecca = table_limits [] (no_rows_accepted table.Hijri)
kind_limits rows accepted kind.HijriTabularTypeIIThursday = tabular_limits (record { leap_years = TypeII; epoch = Thursday })
kind_limits rows accepted kind.HijriUmmAlQura = table_limits rows.hijri (accepted table.Hijri)
kind_limits rows accepted kind.Iso = record {
  ranged = ranged-renumbered (pos 0) (true-offset (pos 0) refl) gregorian_list gregorian_list-bounded;
  apart = apart-renumbered (pos 0) (true-offset (pos 0) refl) gregorian_list gregorian_list-bounded;
}
kind_limits rows accepted kind.Japanese = record {
  ranged = ranged-renumbered (pos 0) (true-offset (pos 0) refl) gregorian_list gregorian_list-bounded;
  apart = apart-renumbered (pos 0) (true-offset (pos 0) refl) gregorian_list gregorian_list-bounded;
}
kind_limits rows accepted kind.JapaneseExtended = record {
  ranged = ranged-renumbered (pos 0) (true-offset (pos 0) refl) gregorian_list gregorian_list-bounded;
  apart = apart-renumbered (pos 0) (true-offset (pos 0) refl) gregorian_list gregorian_list-bounded;
}
kind_limits rows accepted kind.Julian = record { ranged = julian_bounds.years-ranged; apart = julian_bounds.months-apart }
kind_limits rows accepted kind.Persian =
    let known = accepted-correctable rows.persian (accepted table.Persian) in
    record { ranged = persian_bounds.years-ranged rows.persian known; apart = persian_bounds.months-apart rows.persian known }
kind_limits rows accepted kind.Roc = record {
  ranged = ranged-renumbered roc_offset (true-offset roc_offset refl) gregorian_list gregorian_list-bounded;
  apart = apart-renumbered roc_offset (true-offset roc_offset refl) gregorian_list gregorian_list-bounded;
}
kind_limits rows accepted kind.HijriTabularTypeIFriday = tabular_limits (record { leap_years = TypeI; epoch = Friday })
kind_limits rows accepted kind.HijriTabularTypeIThursday = tabular_limits (record { leap_years = TypeI; epoch = Thursday })

-- so is that of each kind without rows
pub plain_limits : (k : AnyCalendarKind) → IsWithinLimits (kind_system no_contents k)
plain_limits k = kind_limits no_rows no_rows_accepted k
