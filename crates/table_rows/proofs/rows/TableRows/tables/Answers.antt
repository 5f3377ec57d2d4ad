use Rattle.std.proofs.Common.{◌≡◌, rules, List, ℤ, refl, subst}
use Rattle.cal_errors.specs.declared.errors.TableFault.{TableFault}
use Rattle.cal_east_asian.specs.laws.ComputedLaws.{computed_year}
use Rattle.cal_east_asian.specs.TableAccepted as lunisolar
use Rattle.cal_east_asian.specs.EastAsianRows as east_asian_rows
use Rattle.cal_east_asian.specs.declared.east_asian_row.EastAsianRow.{EastAsianRow}
use Rattle.cal_east_asian.specs.RowsAccepted as lunisolar_rows
use Rattle.cal_east_asian.specs.laws.RowNameLaws as lunisolar_laws
use Rattle.cal_east_asian.specs.declared.sides.Side.{Side}
use Rattle.cal_east_asian.specs.declared.sides.Side.TheVariants as side
use Rattle.cal_hijri.specs.TableAccepted as hijri
use Rattle.cal_hijri.specs.RowsAccepted as by_rows
use Rattle.cal_hijri.specs.laws.RowNameLaws as hijri_laws
use Rattle.cal_hijri.specs.TableFriday.{friday_year}
use Rattle.cal_hijri.specs.HijriRows as hijri_rows
use Rattle.cal_hijri.specs.declared.hijri_row.HijriRow.{HijriRow}
use Rattle.cal_julian.specs.PersianAccepted as persian
use Rattle.table_rows.specs.RowsSaid.{rows_said}
use Rattle.table_rows.specs.declared.table.Table.TheVariants.{China, Korea, Hijri, Persian}
use Rattle.table_rows.proofs.TableLemmas.{china_refused, korea_refused, hijri_refused, persian_refused, refused_as, tables_accepted}
use Rattle.table_rows.proofs.rows.TableRows.tables.Goals as goal

-- what holds of rows that name years holds of their years
east_asian_breaks : (s : Side) (xs ys : List EastAsianRow) (fault : TableFault) → xs ≡ ys → east_asian_rows.NameYears ys → lunisolar_rows.IsFirstFault (computed_year s) xs fault → lunisolar.IsFirstFault (computed_year s) (east_asian_rows.years_of ys) fault
east_asian_breaks s xs ys fault same named h = lunisolar_laws.fault-years (computed_year s) ys named fault (subst (λ (rows : List EastAsianRow). lunisolar_rows.IsFirstFault (computed_year s) rows fault) same h)

east_asian_accepted : (s : Side) (xs ys : List EastAsianRow) → xs ≡ ys → lunisolar_rows.IsAccepted (computed_year s) xs → lunisolar.IsAccepted (computed_year s) (east_asian_rows.years_of ys)
east_asian_accepted s xs ys same h = lunisolar_laws.accepted-years (computed_year s) ys (subst (lunisolar_rows.IsAccepted (computed_year s)) same h)

hijri_breaks : (xs ys : List HijriRow) (fault : TableFault) → xs ≡ ys → hijri_rows.NameYears ys → by_rows.IsFirstFault friday_year xs fault → hijri.IsFirstFault friday_year (hijri_rows.years_of ys) fault
hijri_breaks xs ys fault same named h = hijri_laws.fault-years friday_year ys named fault (subst (λ (rows : List HijriRow). by_rows.IsFirstFault friday_year rows fault) same h)

hijri_accepted : (xs ys : List HijriRow) → xs ≡ ys → by_rows.IsAccepted friday_year xs → hijri.IsAccepted friday_year (hijri_rows.years_of ys)
hijri_accepted xs ys same h = hijri_laws.accepted-years friday_year ys (subst (by_rows.IsAccepted friday_year) same h)

pub returns-in-Err : goal.returns-in-Err
returns-in-Err c =
    let rows = rows_said c.args.self.now in
    let breaks = east_asian_breaks side.China _ c.args.self.now.china.items c.in-Err.fault c.deref.ensures.value c.args.self.now.china_named c.in-Err.ensures.first in
    refused_as rows _ China _ c.in-Err.fault c.refusal.ensures.table c.refusal.ensures.fault (china_refused rows c.in-Err.fault breaks)

pub returns-in-Err-try_new : goal.returns-in-Err-try_new
returns-in-Err-try_new c =
    let rows = rows_said c.args.self.now in
    let china = east_asian_accepted side.China _ c.args.self.now.china.items c.deref.ensures.value (c.in-Ok.ensures.exact.0 refl) in
    let breaks = east_asian_breaks side.Korea _ c.args.self.now.korea.items c.in-Err-try_new.fault c.deref-2.ensures.value c.args.self.now.korea_named c.in-Err-try_new.ensures.first in
    refused_as rows _ Korea _ c.in-Err-try_new.fault c.refusal-in-Err-try_new.ensures.table c.refusal-in-Err-try_new.ensures.fault (korea_refused rows c.in-Err-try_new.fault china breaks)

pub returns-in-Err-try_new-2 : goal.returns-in-Err-try_new-2
returns-in-Err-try_new-2 c =
    let rows = rows_said c.args.self.now in
    let china = east_asian_accepted side.China _ c.args.self.now.china.items c.deref.ensures.value (c.in-Ok.ensures.exact.0 refl) in
    let korea = east_asian_accepted side.Korea _ c.args.self.now.korea.items c.deref-2.ensures.value (c.in-Ok-try_new.ensures.exact.0 refl) in
    let breaks = hijri_breaks _ c.args.self.now.hijri.items c.in-Err-try_new-2.fault c.deref-3.ensures.value c.args.self.now.hijri_named c.in-Err-try_new-2.ensures.first in
    refused_as rows _ Hijri _ c.in-Err-try_new-2.fault c.refusal-in-Err-try_new-2.ensures.table c.refusal-in-Err-try_new-2.ensures.fault (hijri_refused rows c.in-Err-try_new-2.fault china korea breaks)

pub returns-in-Err-try_new-3 : goal.returns-in-Err-try_new-3
returns-in-Err-try_new-3 c =
    let rows = rows_said c.args.self.now in
    let china = east_asian_accepted side.China _ c.args.self.now.china.items c.deref.ensures.value (c.in-Ok.ensures.exact.0 refl) in
    let korea = east_asian_accepted side.Korea _ c.args.self.now.korea.items c.deref-2.ensures.value (c.in-Ok-try_new.ensures.exact.0 refl) in
    let years = hijri_accepted _ c.args.self.now.hijri.items c.deref-3.ensures.value (c.in-Ok-try_new-2.ensures.exact.0 refl) in
    let breaks = subst (λ (xs : List ℤ). persian.IsFirstFault xs c.in-Err-try_new-3.fault) c.deref-4.ensures.value c.in-Err-try_new-3.ensures.first in
    refused_as rows _ Persian _ c.in-Err-try_new-3.fault c.refusal-in-Err-try_new-3.ensures.table c.refusal-in-Err-try_new-3.ensures.fault (persian_refused rows c.in-Err-try_new-3.fault china korea years breaks)

pub returns : goal.returns
returns c =
    let rows = rows_said c.args.self.now in
    let china = east_asian_accepted side.China _ c.args.self.now.china.items c.deref.ensures.value (c.in-Ok.ensures.exact.0 refl) in
    let korea = east_asian_accepted side.Korea _ c.args.self.now.korea.items c.deref-2.ensures.value (c.in-Ok-try_new.ensures.exact.0 refl) in
    let years = hijri_accepted _ c.args.self.now.hijri.items c.deref-3.ensures.value (c.in-Ok-try_new-2.ensures.exact.0 refl) in
    let corrected = subst persian.AreCorrections c.deref-4.ensures.value (c.in-Ok-try_new-3.ensures.exact.0 refl) in
    (tables_accepted rows china korea years corrected, search rules)
