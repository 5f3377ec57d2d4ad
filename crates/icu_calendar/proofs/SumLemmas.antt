-- What follows from a sum that is a date, or a refusal.
use Rattle.std.proofs.Common.{◌≡◌, ℕ, ◌<◌, Bool, true, false, ◌&&◌, nat_lt, min, ◌+◌, ◌*◌, Option, Some, None, MatchOption, Result, Ok, Err, refl, arith, ℤ, ◌+ℤ◌}
use Rattle.std.specs.Bool.{MatchBool}
use Rattle.std.proofs.lemmas.Bool.Decides.{nat_tests}
use Rattle.cal_types.specs.declared.options.Overflow.{Overflow}
use Rattle.cal_types.specs.declared.options.Overflow.TheVariants.{Reject}
use Rattle.cal_types.specs.declared.duration.DateDuration.{DateDuration}
use Rattle.cal_errors.specs.declared.errors.DateAddError.{DateAddError}
use Rattle.cal_errors.specs.declared.errors.DateAddError.TheVariants as fault
use Rattle.cal_days.specs.Day.{is_field_year, is_valid_day}
use Rattle.cal_types.specs.CalendarList.{CalendarList, Date, date, month_at, month_length, day_number, spot, IsMonthsAfter, IsOn}
use Rattle.cal_types.specs.Adding.{is_addable, IsSum, IsSumFromMonth, IsValidOn}
use Rattle.cal_types.specs.Difference.{toward}
use Rattle.cal_types.proofs.SumLaws.{sum-unique}

abbrev Sum : Type 0
Sum = Result Date DateAddError

abbrev ok : Date → Sum
ok t = Ok t

abbrev err : DateAddError → Sum
err e = Err e

same_ok : {t u : Date} → ok t ≡ ok u → t ≡ u
same_ok e = cc

no_both : {P : Type 0} {t : Date} {e : DateAddError} → err e ≡ ok t → P
no_both e = cc

module _ (c : CalendarList) (shift : ℤ) (t : Date) (d : DateDuration) (o : Overflow) where
  -- a sum that is a date is that one
  pub sum-date : (u v : Date) → IsSum c shift t d o (ok u) → IsSum c shift t d o (ok v) → u ≡ v
  sum-date u v p q = same_ok (sum-unique c shift t d o (ok u) (ok v) p q)

  -- and it isn't refused
  pub sum-not_refused : {P : Type 0} (e : DateAddError) (u : Date) → IsSum c shift t d o (err e)
      → IsSum c shift t d o (ok u) → P
  sum-not_refused e u p q = no_both (sum-unique c shift t d o (err e) (ok u) p q)

abbrev lacking : ℕ → Sum
lacking last = Err (fault.InvalidDay last)

same_last : {m n : ℕ} → lacking m ≡ lacking n → m ≡ n
same_last e = cc

-- the refusals of a day say the last day of a month that lacks it
module _ (c : CalendarList) (u : DateDuration) (last : ℕ) where
  by_day_number : {P : Type 0} (n : ℤ) (b : Bool)
      → MatchBool b ((t : Date) × IsOn c n t × (lacking last ≡ ok t)) (lacking last ≡ err fault.Overflow) → P
  by_day_number n true (t, h, e) = cc
  by_day_number n false e = cc

  from_month-lacks : (y : ℤ) (i d : ℕ) → IsSumFromMonth c y i d u Reject (lacking last) → last < d
  from_month-lacks y i d p = by_day (nat_lt most d) refl p where
    most : ℕ
    most = month_length c y i

    n : ℤ
    n = day_number c (date y i (min d most)) +ℤ toward u.is_negative (7 * u.weeks + u.days)

    by_day : (b : Bool) → nat_lt most d ≡ b
        → MatchBool b (lacking last ≡ lacking most) (IsValidOn c n (lacking last)) → last < d
    by_day true passed p = let same = same_last p in grind (arith, nat_tests)
    by_day false passed p = by_day_number n (is_valid_day n) p

  pub sum-lacks : (shift : ℤ) (t : Date) → IsSum c shift t u Reject (lacking last) → last < t.day
  sum-lacks shift t p = by_year (is_addable u && is_field_year (y +ℤ shift)) p where
    y : ℤ
    y = t.year +ℤ toward u.is_negative u.years

    Reached : ℕ → Type 0
    Reached i = (z : ℤ) × (j : ℕ) × IsMonthsAfter c y i (toward u.is_negative u.months) z j × IsSumFromMonth c z j t.day u Reject (lacking last)

    by_spot : (m : Option ℕ) → MatchOption m (lacking last ≡ err fault.MonthNotInYear) Reached → last < t.day
    by_spot None e = cc
    by_spot (Some i) (z, j, m, e) = from_month-lacks z j t.day e

    by_year : (b : Bool) → MatchBool b (MatchOption (spot c y (month_at c t.year t.month) Reject) (lacking last ≡ err fault.MonthNotInYear) Reached) (lacking last ≡ err fault.Overflow) → last < t.day
    by_year true p = by_spot (spot c y (month_at c t.year t.month) Reject) p
    by_year false e = cc
