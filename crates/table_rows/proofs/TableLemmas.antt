-- The rows of all tables are accepted, or there is a first table that isn't, and its fault.
use Rattle.std.proofs.Common.{◌≡◌, ℤ, List, ◌<◌, ◌⊎◌, inl, inr, refl, sym, subst}
use Rattle.cal_errors.specs.declared.errors.TableFault.{TableFault}
use Rattle.cal_types.specs.laws.FaultLaws.{faults_decided, fault_refuses, one_fault}
use Rattle.cal_tables.specs.Kinds.{TableContents}
use Rattle.cal_east_asian.specs.laws.ComputedLaws.{computed_year}
use Rattle.cal_east_asian.specs.TableAccepted as lunisolar
use Rattle.cal_east_asian.specs.declared.sides.Side.TheVariants as side
use Rattle.cal_east_asian.specs.declared.east_asian_traditional_year.EastAsianTraditionalYear.{EastAsianTraditionalYear}
use Rattle.cal_gregory.specs.JapaneseEraList.{ListedEra}
use Rattle.cal_hijri.specs.declared.hijri_year.HijriYear.{HijriYear}
use Rattle.cal_hijri.specs.TableAccepted as hijri
use Rattle.cal_hijri.specs.TableFriday.{friday_year}
use Rattle.cal_julian.specs.PersianAccepted as persian
use Rattle.table_rows.specs.TableRows.{TableRows, rank, AreAccepted, IsFirstRefused, IsTableAccepted, IsTableFault}
use Rattle.table_rows.specs.declared.table.Table.{Table}
use Rattle.table_rows.specs.declared.table.Table.TheVariants.{China, Korea, Hijri, Persian}
use Rattle.table_rows.proofs.TableOrderLemmas.{all_accepted, before_china, before_korea, before_hijri, before_persian, first_decided, first_refuses, one_first}

module _ (rows : TableRows) where
  table_decided : (t : Table) → IsTableAccepted rows t ⊎ ((f : TableFault) × IsTableFault rows t f)
  table_decided China = faults_decided (lunisolar.meets (computed_year side.China) rows.china) rows.china
  table_decided Korea = faults_decided (lunisolar.meets (computed_year side.Korea) rows.korea) rows.korea
  table_decided Hijri = faults_decided (hijri.meets friday_year rows.hijri) rows.hijri
  table_decided Persian = faults_decided (persian.meets_at rows.persian) rows.persian

  table_refuses : (t : Table) (f : TableFault) → IsTableFault rows t f → IsTableAccepted rows t → ⊥
  table_refuses China f h accepted = fault_refuses (lunisolar.meets (computed_year side.China) rows.china) rows.china f h accepted
  table_refuses Korea f h accepted = fault_refuses (lunisolar.meets (computed_year side.Korea) rows.korea) rows.korea f h accepted
  table_refuses Hijri f h accepted = fault_refuses (hijri.meets friday_year rows.hijri) rows.hijri f h accepted
  table_refuses Persian f h accepted = fault_refuses (persian.meets_at rows.persian) rows.persian f h accepted

  table_unique : (t : Table) (f g : TableFault) → IsTableFault rows t f → IsTableFault rows t g → f ≡ g
  table_unique China f g h k = one_fault (lunisolar.meets (computed_year side.China) rows.china) rows.china f g h k
  table_unique Korea f g h k = one_fault (lunisolar.meets (computed_year side.Korea) rows.korea) rows.korea f g h k
  table_unique Hijri f g h k = one_fault (hijri.meets friday_year rows.hijri) rows.hijri f g h k
  table_unique Persian f g h k = one_fault (persian.meets_at rows.persian) rows.persian f g h k

  made : AreAccepted rows ⊎ ((t : Table) × (f : TableFault) × (IsTableFault rows t f × ((before : Table) → rank before < rank t → IsTableAccepted rows before))) → AreAccepted rows ⊎ ((t : Table) × (f : TableFault) × IsFirstRefused rows t f)
  made (inl accepted) = inl accepted
  made (inr (t, f, (breaks, earlier))) = inr (t, f, record { breaks = breaks; earlier = earlier })

  pub tables_decided : AreAccepted rows ⊎ ((t : Table) × (f : TableFault) × IsFirstRefused rows t f)
  tables_decided = made (first_decided (IsTableAccepted rows) (IsTableFault rows) table_decided)

  pub tables_refuse : (t : Table) (f : TableFault) → IsFirstRefused rows t f → AreAccepted rows → ⊥
  tables_refuse t f h accepted = first_refuses (IsTableAccepted rows) (IsTableFault rows) table_refuses table_unique t f (h.breaks, h.earlier) accepted

  pub tables_unique : (s t : Table) (f g : TableFault) → IsFirstRefused rows s f → IsFirstRefused rows t g → (s ≡ t) × (f ≡ g)
  tables_unique s t f g h k = one_first (IsTableAccepted rows) (IsTableFault rows) table_refuses table_unique s t f g (h.breaks, h.earlier) (k.breaks, k.earlier)

  -- the first fault of a table is that of the first refused one, where those before it are accepted
  pub china_refused : (f : TableFault) → IsTableFault rows China f → IsFirstRefused rows China f
  china_refused f h = record { breaks = h; earlier = before_china (IsTableAccepted rows) (IsTableFault rows) }

  pub korea_refused : (f : TableFault) → IsTableAccepted rows China → IsTableFault rows Korea f → IsFirstRefused rows Korea f
  korea_refused f a h = record { breaks = h; earlier = before_korea (IsTableAccepted rows) (IsTableFault rows) a }

  pub hijri_refused : (f : TableFault) → IsTableAccepted rows China → IsTableAccepted rows Korea → IsTableFault rows Hijri f → IsFirstRefused rows Hijri f
  hijri_refused f a b h = record { breaks = h; earlier = before_hijri (IsTableAccepted rows) (IsTableFault rows) a b }

  pub persian_refused : (f : TableFault) → IsTableAccepted rows China → IsTableAccepted rows Korea → IsTableAccepted rows Hijri → IsTableFault rows Persian f → IsFirstRefused rows Persian f
  persian_refused f a b c h = record { breaks = h; earlier = before_persian (IsTableAccepted rows) (IsTableFault rows) a b c }

  pub tables_accepted : IsTableAccepted rows China → IsTableAccepted rows Korea → IsTableAccepted rows Hijri → IsTableAccepted rows Persian → AreAccepted rows
  tables_accepted a b c d = all_accepted (IsTableAccepted rows) (IsTableFault rows) a b c d

-- the same table and fault
pub refused_as : (rows : TableRows) (s t : Table) (f g : TableFault) → s ≡ t → f ≡ g → IsFirstRefused rows t g → IsFirstRefused rows s f
refused_as rows s t f g e d h = subst (λ (x : Table). IsFirstRefused rows x f) (sym e) (subst (λ (x : TableFault). IsFirstRefused rows t x) (sym d) h)
