-- A table gives years of a calendar, those of equal rows the same, and its reference years are in range.
use Rattle.std.proofs.Common.{◌≡◌, ℕ, Bool, true, false, if◌then◌else◌, refl, ap, ◌∙◌, arith, ℤ, List, [], ◌∷◌}
use Rattle.std.specs.Prelude.{IsTrue, nat_eq, nat_lt}
use Rattle.std.specs.Cmp.{IsEquivalence, and_equiv, int_eq_equiv, on_equiv}
use Rattle.std.specs.Cmp.Lexicographic.{lists_equiv}
use Rattle.std.proofs.lemmas.Cmp.{nat_eq_equiv}
use Rattle.cal_days.specs.Day.{IsFieldYear}
use Rattle.cal_days.proofs.Signed.{signed}
use Rattle.cal_types.proofs.DateTests.{and-left, and-right}
use Rattle.cal_hijri.specs.HijriList.{Joins, Numbered, has_parts_of}
use Rattle.cal_hijri.specs.HijriNames.{AreReferences}
use Rattle.cal_hijri.specs.SameRows.{are_same_rows}
use Rattle.cal_hijri.specs.laws.SameYears.{has_parts_of-same}
use Rattle.cal_hijri.specs.laws.TabularRuleLaws.{known-references, tabular_reference_year-range}
use Rattle.cal_hijri.specs.TableFriday.{friday_year}
use Rattle.cal_hijri.specs.laws.TableFridayLaws.{friday-numbered, friday-joins}
use Rattle.cal_hijri.specs.TableAccepted.{IsAccepted}
use Rattle.cal_hijri.specs.laws.TableLaws.{chosen-numbered, chosen-joins}
use Rattle.cal_hijri.specs.declared.hijri_year.HijriYear.{HijriYear}
use Rattle.cal_hijri.specs.declared.tabular_algorithm.TabularAlgorithmEpoch.TheVariants.{Friday}
use Rattle.cal_hijri.specs.TableRules.{table_year, table_reference_year, table_reference}

pub table-numbered : (rows : List HijriYear) → IsAccepted friday_year rows → Numbered (table_year rows)
table-numbered rows accepted = chosen-numbered friday_year rows accepted friday-numbered

pub table-joins : (rows : List HijriYear) → IsAccepted friday_year rows → Joins (table_year rows)
table-joins rows accepted = chosen-joins friday_year rows accepted friday-joins

either : (b : Bool) (x y : ℤ) → IsFieldYear x → IsFieldYear y → IsFieldYear (if b then x else y)
either true x y h k = h
either false x y h k = k

pub table_reference_year-range : (m d : ℕ) → IsFieldYear (table_reference_year m d)
table_reference_year-range m d =
    let tabular = tabular_reference_year-range Friday m d in
    either (nat_lt d 30) _ _ tabular (either (nat_eq m 2) _ _ (omega (arith, signed), omega (arith, signed)) (either (nat_eq m 3) _ _ (omega (arith, signed), omega (arith, signed))
    (either (nat_eq m 5) _ _ (omega (arith, signed), omega (arith, signed)) (either (nat_eq m 7) _ _ (omega (arith, signed), omega (arith, signed)) (either (nat_eq m 10) _ _ (omega (arith, signed), omega (arith, signed)) tabular)))))

pub table-references : AreReferences table_reference
table-references = known-references table_reference_year table_reference_year-range

pub has_parts_of-equivalence : IsEquivalence has_parts_of
has_parts_of-equivalence = and_equiv (on_equiv (λ (y : HijriYear). y.extended_year) int_eq_equiv) (and_equiv (on_equiv (λ (y : HijriYear). y.first_day) int_eq_equiv) (on_equiv (λ (y : HijriYear). y.long_months) nat_eq_equiv))

pub same_rows-equivalence : IsEquivalence are_same_rows
same_rows-equivalence = lists_equiv has_parts_of-equivalence

-- rows that are equal one by one are the same rows
pub same_rows : (xs ys : List HijriYear) → are_same_rows xs ys ≡ true → xs ≡ ys
same_rows [] [] h = refl
same_rows [] (y ∷ ys) h = absurd (differ h) where
  differ : ◌≡◌ {A = Bool} false true → ⊥
  differ e = cc
same_rows (x ∷ xs) [] h = absurd (differ h) where
  differ : ◌≡◌ {A = Bool} false true → ⊥
  differ e = cc
same_rows (x ∷ xs) (y ∷ ys) h =
    let first = has_parts_of-same x y (and-left (has_parts_of x y) (are_same_rows xs ys) h) in
    let rest = same_rows xs ys (and-right (has_parts_of x y) (are_same_rows xs ys) h) in
    ap (λ (z : HijriYear). z ∷ xs) first ∙ ap (λ (zs : List HijriYear). y ∷ zs) rest

-- and give the same years
pub table-shared : (xs ys : List HijriYear) (y : ℤ) → IsTrue (are_same_rows xs ys) → table_year xs y ≡ table_year ys y
table-shared xs ys y h = ap (λ (rows : List HijriYear). table_year rows y) (same_rows xs ys h)
