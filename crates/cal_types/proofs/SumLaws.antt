-- A sum has one answer.
use Rattle.std.proofs.Common.{◌≡◌, ℕ, ◌+◌, ◌*◌, Bool, true, false, min, ◌&&◌, nat_lt, Option, Some, None, MatchOption, Result, Ok, Err, sym, ap, subst, ◌∙◌, ℤ, ◌+ℤ◌}
use Rattle.std.specs.Bool.{MatchBool}
use Rattle.cal_types.specs.declared.options.Overflow.{Overflow}
use Rattle.cal_types.specs.declared.duration.DateDuration.{DateDuration}
use Rattle.cal_errors.specs.declared.errors.DateAddError.{DateAddError}
use Rattle.cal_errors.specs.declared.errors.DateAddError.TheVariants as fault
use Rattle.cal_days.specs.Day.{is_valid_day, is_field_year}
use Rattle.cal_types.specs.CalendarList.{CalendarList, Date, date, month_at, month_length, spot, day_number, IsOn, IsMonthsAfter}
use Rattle.cal_types.specs.Adding.{is_addable, is_reject, IsSum, IsSumFromMonth, IsValidOn}
use Rattle.cal_types.specs.Difference.{toward}
use Rattle.cal_types.proofs.ListLemmas.{on-unique, month_number-injective}

abbrev ok : Date → Result Date DateAddError
ok t = Ok t

valid_on-unique : (c : CalendarList) (n : ℤ) (b : Bool) (r s : Result Date DateAddError) → MatchBool b ((t : Date) × IsOn c n t × (r ≡ Ok t)) (r ≡ Err fault.Overflow) → MatchBool b ((t : Date) × IsOn c n t × (s ≡ Ok t)) (s ≡ Err fault.Overflow) → r ≡ s
valid_on-unique c n true r s (t, h, p) (u, k, q) = p ∙ (ap ok (on-unique c n t u h k) ∙ sym q)
valid_on-unique c n false r s p q = p ∙ sym q

from_month-unique : (c : CalendarList) (y : ℤ) (i d : ℕ) (u : DateDuration) (o : Overflow) (r s : Result Date DateAddError) → IsSumFromMonth c y i d u o r → IsSumFromMonth c y i d u o s → r ≡ s
from_month-unique c y i d u o r s p q = by_day (is_reject o && nat_lt last d) p q where
  last : ℕ
  last = month_length c y i

  n : ℤ
  n = day_number c (date y i (min d last)) +ℤ toward u.is_negative (7 * u.weeks + u.days)

  by_day : (b : Bool) → MatchBool b (r ≡ Err (fault.InvalidDay last)) (IsValidOn c n r) → MatchBool b (s ≡ Err (fault.InvalidDay last)) (IsValidOn c n s) → r ≡ s
  by_day true p q = p ∙ sym q
  by_day false p q = valid_on-unique c n (is_valid_day n) r s p q

pub sum-unique : (c : CalendarList) (shift : ℤ) (t : Date) (u : DateDuration) (o : Overflow) (r s : Result Date DateAddError) → IsSum c shift t u o r → IsSum c shift t u o s → r ≡ s
sum-unique c shift t u o r s p q = by_year (is_addable u && is_field_year (y +ℤ shift)) p q where
  y : ℤ
  y = t.year +ℤ toward u.is_negative u.years

  Reached : Result Date DateAddError → ℕ → Type 0
  Reached x i = (z : ℤ) × (j : ℕ) × IsMonthsAfter c y i (toward u.is_negative u.months) z j × IsSumFromMonth c z j t.day u o x

  by_spot : (m : Option ℕ) → MatchOption m (r ≡ Err fault.MonthNotInYear) (Reached r) → MatchOption m (s ≡ Err fault.MonthNotInYear) (Reached s) → r ≡ s
  by_spot None p q = p ∙ sym q
  by_spot (Some i) (z, j, m, p) (x, k, n, q) =
      let same = month_number-injective c z j x k m.place n.place (m.moved ∙ sym n.moved) in
      let there = subst (λ (a : ℤ). IsSumFromMonth c a k t.day u o s) (sym same.0) q in
      let here = subst (λ (b : ℕ). IsSumFromMonth c z b t.day u o s) (sym same.1) there in
      from_month-unique c z j t.day u o r s p here

  by_year : (b : Bool) → MatchBool b (MatchOption (spot c y (month_at c t.year t.month) o) (r ≡ Err fault.MonthNotInYear) (Reached r)) (r ≡ Err fault.Overflow) → MatchBool b (MatchOption (spot c y (month_at c t.year t.month) o) (s ≡ Err fault.MonthNotInYear) (Reached s)) (s ≡ Err fault.Overflow) → r ≡ s
  by_year true p q = by_spot (spot c y (month_at c t.year t.month) o) p q
  by_year false p q = p ∙ sym q
