-- The rows that are kept, and what becomes of a row line.
use Rattle.std.specs.Prelude.{◌≡◌, List, ◌∷◌, [], ◌++◌, Option, Some, None}
use Rattle.std.specs.Option.{option_map}
use Rattle.cal_east_asian.specs.EastAsianRows as lunisolar
use Rattle.cal_gregory.specs.JapaneseEraList.{ListedEra}
use Rattle.cal_gregory.specs.JapaneseEras.{listed_eras}
use Rattle.table_rows.specs.RowLines.{TakesMemory, TakesRow}
use Rattle.table_rows.specs.RowLines as outcome
use Rattle.cal_hijri.specs.HijriRows as hijri
use Rattle.request_lines.specs.Rows.{Row}
use Rattle.table_rows.specs.TableRows as rows
use Rattle.table_rows.specs.declared.table.RowFault.TheVariants.{Syntax, Range}
use Rattle.table_rows.specs.declared.rows.TableRows.{TableRows}
use Rattle.table_rows.specs.declared.rows.Taken.{Taken}
use Rattle.table_rows.specs.declared.rows.Taken.TheVariants.{Kept, Refused, NoMemory}

-- the rows that a value stands for
abbrev pub rows_said : TableRows → rows.TableRows
rows_said t = record {
  china = lunisolar.years_of t.china.items;
  korea = lunisolar.years_of t.korea.items;
  hijri = hijri.years_of t.hijri.items;
  persian = t.persian.items;
  eras = option_map listed_eras t.eras;
}

-- a row was put behind others, or there was no memory for it and nothing changes
abbrev pub IsKept : {T : Type 0} → Taken → List T → T → List T → Type 0
IsKept Kept old row new = new ≡ old ++ row ∷ []
IsKept (Refused why) old row new = ⊥
IsKept NoMemory old row new = new ≡ old

-- the year of a row line was put behind others, or the line gives none
abbrev pub IsYearKept : {Y : Type 0} → Taken → Option Y → List Y → List Y → Type 0
IsYearKept taken None old new = (taken ≡ Refused Range) × (new ≡ old)
IsYearKept taken (Some year) old new = IsKept taken old year new

-- the eras of a row are listed, or they aren't: others were listed before, or the row names none
abbrev pub AreErasKept : Taken → Option (List ListedEra) → Option (List ListedEra) → Option (List ListedEra) → Type 0
AreErasKept taken (Some before) read new = (taken ≡ Refused Syntax) × (new ≡ Some before)
AreErasKept taken None None new = (taken ≡ Refused Range) × (new ≡ None)
AreErasKept taken None (Some eras) new = (taken ≡ Kept) × (new ≡ Some eras)

-- a row line was taken: its row is kept; or nothing changes, since it is refused, or its row takes memory and none was
-- left
abbrev pub IsTaken : Taken → rows.TableRows → Option Row → rows.TableRows → Type 0
IsTaken Kept old row new = TakesRow old row (outcome.Kept new)
IsTaken (Refused why) old row new = TakesRow old row (outcome.Faulty why) × (new ≡ old)
IsTaken NoMemory old row new = TakesMemory row × (new ≡ old)
