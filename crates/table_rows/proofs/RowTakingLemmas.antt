-- What becomes of a row line.
use Rattle.std.proofs.Common.{◌≡◌, List, [], ◌∷◌, ◌++◌, Option, Some, None, MatchOption, inl, inr, refl, sym, ap, subst, ◌∙◌}
use Rattle.std.specs.Prelude.{map}
use Rattle.std.specs.Option.{option_map}
use Rattle.std.proofs.lemmas.List.{map-append}
use Rattle.cal_gregory.specs.JapaneseEraList.{ListedEra}
use Rattle.table_rows.specs.RowLines.{TakesEras, TakesYear}
use Rattle.table_rows.specs.RowLines as outcome
use Rattle.request_lines.specs.Rows.{YearRow, EraRow, China, Korea, Hijri, Era}
use Rattle.table_rows.specs.RowYears.{IsHijriYear, IsEastAsianYear}
use Rattle.table_rows.specs.RowsSaid.{AreErasKept, IsKept, IsTaken, IsYearKept}
use Rattle.table_rows.specs.TableRows.{TableRows, eras_of_row}
use Rattle.table_rows.specs.declared.rows.Taken.{Taken}
use Rattle.table_rows.specs.declared.rows.Taken.TheVariants.{Kept, Refused, NoMemory}
use Rattle.cal_east_asian.specs.declared.east_asian_traditional_year.EastAsianTraditionalYear.{EastAsianTraditionalYear}
use Rattle.cal_hijri.specs.declared.hijri_year.HijriYear.{HijriYear}

-- a row's year, over the rows of its table
module _ {Y : Type 0} (IsYear : Y → Type 0) (set : List Y → TableRows) (old : List Y) where
  abbrev keep : Y → TableRows
  keep y = set (old ++ y ∷ [])

  abbrev YearTaken : Taken → List Y → Type 0
  YearTaken Kept items = TakesYear IsYear keep (outcome.Kept (set items))
  YearTaken (Refused why) items = TakesYear IsYear keep (outcome.Faulty why) × (items ≡ old)
  YearTaken NoMemory items = ((y : Y) × IsYear y) × (items ≡ old)

  kept : (t : Taken) (y : Y) (items : List Y) → IsYear y → IsKept t old y items → YearTaken t items
  kept Kept y items is e = inl (y, is, ap (λ (x : List Y). outcome.Kept (set x)) e)
  kept (Refused why) y items is e = absurd e
  kept NoMemory y items is e = ((y, is), e)

  year_taken : (t : Taken) (year : Option Y) (items : List Y) → MatchOption year ((y : Y) → IsYear y → ⊥) IsYear → IsYearKept t year old items → YearTaken t items
  year_taken t None items none (e, same) = subst (λ (x : Taken). YearTaken x items) (sym e) (inr (none, refl), same)
  year_taken t (Some y) items is e = kept t y items is e

-- where a row is kept, so is its year
module _ {R Y : Type 0} (year_of : R → Y) where
  pub as_year : (row : Option R) (No : Type 0) (IsYear : Y → Type 0) → MatchOption row No (λ r. IsYear (year_of r)) → MatchOption (option_map year_of row) No IsYear
  as_year None No IsYear h = h
  as_year (Some r) No IsYear h = h

  one_kept : (t : Taken) (row : R) (old new : List R) → IsKept t old row new → IsKept t (map year_of old) (year_of row) (map year_of new)
  one_kept Kept row old new e = ap (map year_of) e ∙ map-append year_of old (row ∷ [])
  one_kept (Refused why) row old new e = e
  one_kept NoMemory row old new e = ap (map year_of) e

  pub year_kept : (t : Taken) (row : Option R) (old new : List R) → IsYearKept t row old new → IsYearKept t (option_map year_of row) (map year_of old) (map year_of new)
  year_kept t None old new (e, same) = (e, ap (map year_of) same)
  year_kept t (Some row) old new e = one_kept t row old new e

abbrev pub set_china : TableRows → List EastAsianTraditionalYear → TableRows
set_china rows items = record { china = items; korea = rows.korea; hijri = rows.hijri; persian = rows.persian; eras = rows.eras }

abbrev pub set_korea : TableRows → List EastAsianTraditionalYear → TableRows
set_korea rows items = record { china = rows.china; korea = items; hijri = rows.hijri; persian = rows.persian; eras = rows.eras }

abbrev pub set_hijri : TableRows → List HijriYear → TableRows
set_hijri rows items = record { china = rows.china; korea = rows.korea; hijri = items; persian = rows.persian; eras = rows.eras }

abbrev pub set_eras : TableRows → Option (List ListedEra) → TableRows
set_eras rows eras = record { china = rows.china; korea = rows.korea; hijri = rows.hijri; persian = rows.persian; eras = eras }

module _ (rows : TableRows) (r : YearRow) where
  pub china_taken : (t : Taken) (year : Option EastAsianTraditionalYear) (items : List EastAsianTraditionalYear) → MatchOption year ((y : EastAsianTraditionalYear) → IsEastAsianYear r y → ⊥) (IsEastAsianYear r) → IsYearKept t year rows.china items → IsTaken t rows (Some (China r)) (set_china rows items)
  china_taken Kept year items is e = year_taken (IsEastAsianYear r) (set_china rows) rows.china Kept year items is e
  china_taken (Refused why) year items is e = let (takes, same) = year_taken (IsEastAsianYear r) (set_china rows) rows.china (Refused why) year items is e in (takes, ap (set_china rows) same)
  china_taken NoMemory year items is e = let (some, same) = year_taken (IsEastAsianYear r) (set_china rows) rows.china NoMemory year items is e in (some, ap (set_china rows) same)

  pub korea_taken : (t : Taken) (year : Option EastAsianTraditionalYear) (items : List EastAsianTraditionalYear) → MatchOption year ((y : EastAsianTraditionalYear) → IsEastAsianYear r y → ⊥) (IsEastAsianYear r) → IsYearKept t year rows.korea items → IsTaken t rows (Some (Korea r)) (set_korea rows items)
  korea_taken Kept year items is e = year_taken (IsEastAsianYear r) (set_korea rows) rows.korea Kept year items is e
  korea_taken (Refused why) year items is e = let (takes, same) = year_taken (IsEastAsianYear r) (set_korea rows) rows.korea (Refused why) year items is e in (takes, ap (set_korea rows) same)
  korea_taken NoMemory year items is e = let (some, same) = year_taken (IsEastAsianYear r) (set_korea rows) rows.korea NoMemory year items is e in (some, ap (set_korea rows) same)

  pub hijri_taken : (t : Taken) (year : Option HijriYear) (items : List HijriYear) → MatchOption year ((y : HijriYear) → IsHijriYear r y → ⊥) (IsHijriYear r) → IsYearKept t year rows.hijri items → IsTaken t rows (Some (Hijri r)) (set_hijri rows items)
  hijri_taken Kept year items is e = year_taken (IsHijriYear r) (set_hijri rows) rows.hijri Kept year items is e
  hijri_taken (Refused why) year items is e = let (takes, same) = year_taken (IsHijriYear r) (set_hijri rows) rows.hijri (Refused why) year items is e in (takes, ap (set_hijri rows) same)
  hijri_taken NoMemory year items is e = let (some, same) = year_taken (IsHijriYear r) (set_hijri rows) rows.hijri NoMemory year items is e in (some, ap (set_hijri rows) same)

-- the eras of a row
module _ (rows : TableRows) where
  abbrev ErasTaken : Taken → Option (List ListedEra) → Option (List ListedEra) → Option (List ListedEra) → Type 0
  ErasTaken Kept before read new = TakesEras rows before read (outcome.Kept (set_eras rows new))
  ErasTaken (Refused why) before read new = TakesEras rows before read (outcome.Faulty why) × (new ≡ before)
  ErasTaken NoMemory before read new = ⊥

  eras_taken : (t : Taken) (before read new : Option (List ListedEra)) → AreErasKept t before read new → ErasTaken t before read new
  eras_taken t (Some before) read new (e, same) = subst (λ (x : Taken). ErasTaken x (Some before) read new) (sym e) (refl, same)
  eras_taken t None None new (e, same) = subst (λ (x : Taken). ErasTaken x None None new) (sym e) (refl, same)
  eras_taken t None (Some eras) new (e, is) = subst (λ (x : Taken). ErasTaken x None (Some eras) new) (sym e) (ap (λ (x : Option (List ListedEra)). outcome.Kept (set_eras rows x)) is)

pub era_taken : (rows : TableRows) (r : EraRow) (t : Taken) (new : Option (List ListedEra)) → AreErasKept t rows.eras (eras_of_row r) new → IsTaken t rows (Some (Era r)) (set_eras rows new)
era_taken rows r Kept new h = eras_taken rows Kept rows.eras (eras_of_row r) new h
era_taken rows r (Refused why) new h = let (takes, same) = eras_taken rows (Refused why) rows.eras (eras_of_row r) new h in (takes, ap (set_eras rows) same)
era_taken rows r NoMemory new h = absurd (eras_taken rows NoMemory rows.eras (eras_of_row r) new h)
