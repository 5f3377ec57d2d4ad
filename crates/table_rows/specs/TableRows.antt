-- The rows of tables, the order in which the tables are tested, and the first fault.
use Rattle.std.specs.Prelude.{ℕ, ℤ, ◌<◌, List, [], ◌∷◌, ◌++◌, Option, Some, None}
use Rattle.std.specs.Option.{unwrap_or}
use Rattle.cal_errors.specs.declared.errors.TableFault.{TableFault}
use Rattle.cal_tables.specs.Kinds.{TableContents}
use Rattle.cal_east_asian.specs.laws.ComputedLaws.{computed_year}
use Rattle.cal_east_asian.specs.TableAccepted as lunisolar
use Rattle.cal_east_asian.specs.declared.east_asian_traditional_year.EastAsianTraditionalYear.{EastAsianTraditionalYear}
use Rattle.cal_east_asian.specs.declared.sides.Side.TheVariants as side
use Rattle.cal_gregory.specs.JapaneseEraList.{ListedEra, eras_up_to_reiwa}
use Rattle.cal_gregory.specs.LastEra.{eras_with_last}
use Rattle.cal_hijri.specs.TableAccepted as hijri
use Rattle.cal_hijri.specs.TableFriday.{friday_year}
use Rattle.cal_hijri.specs.declared.hijri_year.HijriYear.{HijriYear}
use Rattle.cal_julian.specs.PersianAccepted as persian
use Rattle.request_lines.specs.Rows.{EraRow}
use Rattle.table_rows.specs.declared.table.Table.{Table}
use Rattle.table_rows.specs.declared.table.Table.TheVariants.{China, Korea, Hijri, Persian}

-- the rows that came, table by table, and the listed eras of Japan where a row named them
pub record TableRows : Type 0 where
  pub china : List EastAsianTraditionalYear
  pub korea : List EastAsianTraditionalYear
  pub hijri : List HijriYear
  pub persian : List ℤ
  pub eras : Option (List ListedEra)

abbrev pub no_rows : TableRows
no_rows = record { china = []; korea = []; hijri = []; persian = []; eras = None }

-- one more row of a table, behind the others
abbrev pub with_china : TableRows → EastAsianTraditionalYear → TableRows
with_china rows y =
    record {
      china = rows.china ++ y ∷ [];
      korea = rows.korea;
      hijri = rows.hijri;
      persian = rows.persian;
      eras = rows.eras;
    }

abbrev pub with_korea : TableRows → EastAsianTraditionalYear → TableRows
with_korea rows y =
    record {
      china = rows.china;
      korea = rows.korea ++ y ∷ [];
      hijri = rows.hijri;
      persian = rows.persian;
      eras = rows.eras;
    }

abbrev pub with_hijri : TableRows → HijriYear → TableRows
with_hijri rows y =
    record {
      china = rows.china;
      korea = rows.korea;
      hijri = rows.hijri ++ y ∷ [];
      persian = rows.persian;
      eras = rows.eras;
    }

abbrev pub with_persian : TableRows → ℤ → TableRows
with_persian rows y =
    record {
      china = rows.china;
      korea = rows.korea;
      hijri = rows.hijri;
      persian = rows.persian ++ y ∷ [];
      eras = rows.eras;
    }

-- the listed eras of Japan with that of a row, where it may be listed
abbrev pub eras_of_row : EraRow → Option (List ListedEra)
eras_of_row r = eras_with_last (record { year = r.start.year; month = r.start.month; day = r.start.day }) r.code r.index

-- the listed eras of Japan
abbrev pub with_eras : TableRows → List ListedEra → TableRows
with_eras rows eras =
    record { china = rows.china; korea = rows.korea; hijri = rows.hijri; persian = rows.persian; eras = Some eras }

-- what the calendars stand on
abbrev pub contents_of : TableRows → TableContents
contents_of rows =
    record {
      china = rows.china;
      korea = rows.korea;
      hijri = rows.hijri;
      persian = rows.persian;
      eras = unwrap_or rows.eras (eras_up_to_reiwa []);
    }

-- the rows of a table are accepted
abbrev pub IsTableAccepted : TableRows → Table → Type 0
IsTableAccepted rows China = lunisolar.IsAccepted (computed_year side.China) rows.china
IsTableAccepted rows Korea = lunisolar.IsAccepted (computed_year side.Korea) rows.korea
IsTableAccepted rows Hijri = hijri.IsAccepted friday_year rows.hijri
IsTableAccepted rows Persian = persian.AreCorrections rows.persian

-- the first row and part of a table that break
abbrev pub IsTableFault : TableRows → Table → TableFault → Type 0
IsTableFault rows China fault = lunisolar.IsFirstFault (computed_year side.China) rows.china fault
IsTableFault rows Korea fault = lunisolar.IsFirstFault (computed_year side.Korea) rows.korea fault
IsTableFault rows Hijri fault = hijri.IsFirstFault friday_year rows.hijri fault
IsTableFault rows Persian fault = persian.IsFirstFault rows.persian fault

abbrev pub AreAccepted : TableRows → Type 0
AreAccepted rows = (table : Table) → IsTableAccepted rows table

-- the order in which the tables are tested
abbrev pub rank : Table → ℕ
rank China = 0
rank Korea = 1
rank Hijri = 2
rank Persian = 3

-- the first table that isn't accepted, and its fault
pub record IsFirstRefused (rows : TableRows) (table : Table) (fault : TableFault) : Type 0 where
  pub breaks : IsTableFault rows table fault
  pub earlier : (before : Table) → rank before < rank table → IsTableAccepted rows before
