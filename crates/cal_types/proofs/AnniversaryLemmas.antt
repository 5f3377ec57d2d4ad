-- Dates that a month and a day name: the tests say what the definitions say, and the month of such a date stands in its spot.
use Rattle.std.proofs.Common.{◌≡◌, ℕ, ◌+◌, ◌*◌, Bool, true, false, cond, nat_eq, Option, Some, None, refl, ap, ◌∙◌, subst, arith, ℤ}
use Rattle.std.proofs.lemmas.Bool.Decides.{nat_tests}
use Rattle.std.proofs.lemmas.Bool.{eqb-true}
use Rattle.cal_types.specs.Month.{MonthParts, month_rank}
use Rattle.cal_types.specs.declared.options.Overflow.TheVariants as overflow
use Rattle.cal_types.specs.CalendarList.{CalendarList, Date, date, IsDate, IsLawful, month_at, spot}
use Rattle.cal_types.proofs.DateTests.{and-left, and-right, true-and}
use Rattle.cal_types.proofs.ListLemmas.{place_of-own, spot-own, on-unique}
use Rattle.cal_types.specs.DayDates.{date_on}
use Rattle.cal_types.specs.Leaping.{overflow_for}
use Rattle.cal_types.specs.Anniversary.{IsNamed, IsAnniversary, is_place, is_named, is_anniversary}
use Rattle.cal_types.specs.declared.leaping.Leaping.{Leaping}
use Rattle.cal_types.specs.declared.leaping.Leaping.TheVariants.{Exact, Constrain}
use Rattle.cal_types.proofs.DayDateLemmas.{date_on-on}

rank_parts : (a b : ℕ) (p q : Bool) → 2 * a + cond p 1 0 ≡ 2 * b + cond q 1 0 → (a ≡ b) × (p ≡ q)
rank_parts a b true true e = (omega arith, refl)
rank_parts a b false false e = (omega arith, refl)
rank_parts a b true false e = absurd (omega arith)
rank_parts a b false true e = absurd (omega arith)

abbrev month_of : ℕ → Bool → MonthParts
month_of number is_leap = record { number = number; is_leap = is_leap }

same_month : (m n : MonthParts) → m.number ≡ n.number → m.is_leap ≡ n.is_leap → m ≡ n
same_month m n f g = ap (λ (k : ℕ). month_of k m.is_leap) f ∙ ap (month_of n.number) g

-- months of one rank are the same
pub rank-injective : (m n : MonthParts) → month_rank m ≡ month_rank n → m ≡ n
rank-injective m n e = let parts = rank_parts m.number n.number m.is_leap n.is_leap e in same_month m n parts.0 parts.1

place_there : (i : ℕ) (o : Option ℕ) → is_place i o ≡ true → o ≡ Some i
place_there i None h = cc
place_there i (Some j) h = let same : j ≡ i = eqb-true j i h in ap (λ (k : ℕ). Some k) same

there_place : (i : ℕ) (o : Option ℕ) → o ≡ Some i → is_place i o ≡ true
there_place i o e = rw e (grind (arith, nat_tests))

-- what passes the test is named, and the other way round
pub named-true : (c : CalendarList) (leaping : Leaping) (m : MonthParts) (d : ℕ) (t : Date) → is_named c leaping m d t ≡ true → IsNamed c leaping m d t
named-true c Exact m d t h = (rank-injective _ _ (eqb-true _ _ (and-left _ _ h)), eqb-true _ _ (and-right (nat_eq (month_rank (month_at c t.year t.month)) (month_rank m)) _ h))
named-true c Constrain m d t h = (place_there _ _ (and-left _ _ h), eqb-true _ _ (and-right (is_place t.month (spot c t.year m overflow.Constrain)) _ h))

same_number : (a b : ℕ) → a ≡ b → nat_eq a b ≡ true
same_number a b e = grind (arith, nat_tests)

pub true-named : (c : CalendarList) (leaping : Leaping) (m : MonthParts) (d : ℕ) (t : Date) → IsNamed c leaping m d t → is_named c leaping m d t ≡ true
true-named c Exact m d t h = true-and _ _ (same_number _ _ (ap month_rank h.0)) (same_number _ _ h.1)
true-named c Constrain m d t h = true-and _ _ (there_place _ _ h.0) (same_number _ _ h.1)

module _ (c : CalendarList) (law : IsLawful c) (leaping : Leaping) (m : MonthParts) (d : ℕ) where
  -- a day that passes the test is an anniversary, and the other way round
  pub anniversary-true : (n : ℤ) → is_anniversary c leaping m d n ≡ true → IsAnniversary c leaping m d n
  unfolding is_anniversary
  anniversary-true n h = record { date = date_on c n; on = date_on-on c law n; named = named-true c leaping m d (date_on c n) h }

  pub true-anniversary : (n : ℤ) → IsAnniversary c leaping m d n → is_anniversary c leaping m d n ≡ true
  unfolding is_anniversary
  true-anniversary n h =
      let same = on-unique c n h.date (date_on c n) h.on (date_on-on c law n) in
      true-named c leaping m d (date_on c n) (subst (IsNamed c leaping m d) same h.named)

-- the month of a named date stands in its spot
pub named-spot : (c : CalendarList) → IsLawful c → (leaping : Leaping) (m : MonthParts) (d : ℕ) (t : Date) → IsDate c t → IsNamed c leaping m d t → spot c t.year m (overflow_for leaping) ≡ Some t.month
named-spot c law Exact m d t date h =
    spot-own c t.year m overflow.Reject t.month (rw h.0 at (place_of-own c t.year t.month (law.rises t.year) date.place))
named-spot c law Constrain m d t date h = h.0
