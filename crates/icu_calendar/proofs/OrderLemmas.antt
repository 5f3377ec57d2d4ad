-- Dates of a list are the same where their day numbers are.
use Rattle.std.proofs.Common.{◌≡◌, IsTrue, Bool, true, sym, ap, subst, ◌∙◌, arith, ℤ}
use Rattle.std.specs.Ordering.{int_eq}
use Rattle.std.specs.Cmp.{int_eq_equiv}
use Rattle.std.proofs.lemmas.Int.{ints}
use Rattle.cal_days.specs.Day.{IsValidDay}
use Rattle.cal_types.specs.CalendarList.{CalendarList, Date, day_number, IsDate, IsOn, IsValidDate}
use Rattle.cal_types.proofs.ListLemmas.{day_number-injective, on-unique}
use Rattle.icu_calendar.specs.Clamping.{clamped_day}

same_number : (y z : ℤ) → int_eq y z ≡ true → y ≡ z
same_number y z e = grind (arith, ints)

-- a test of two dates that is that of their days holds where they are the same
pub same_date-equal : (c : CalendarList) (t u : Date) (equal : Bool) → equal ≡ int_eq (day_number c t) (day_number c u)
    → t ≡ u → IsTrue equal
same_date-equal c t u equal days same =
    days ∙ (ap (λ (v : Date). int_eq (day_number c t) (day_number c v)) (sym same) ∙ int_eq_equiv.refl (day_number c t))

-- and there alone
pub equal-same_date : (c : CalendarList) (t u : Date) (equal : Bool) → equal ≡ int_eq (day_number c t) (day_number c u)
    → IsDate c t → IsDate c u → IsTrue equal → t ≡ u
equal-same_date c t u equal days dated other e = day_number-injective c t u dated other (same_number _ _ (sym days ∙ e))

-- the date of a date's day is that date
pub on_same_day : (c : CalendarList) (n : ℤ) (t u : Date) → IsDate c t → n ≡ day_number c t → IsOn c n u → u ≡ t
on_same_day c n t u dated day h = on-unique c n u t h (record { date = dated; day = sym day })

pub clamped-valid : (n : ℤ) → IsValidDay n → clamped_day n ≡ n
clamped-valid n h = grind (arith, ints)

-- which is valid, so that it isn't clamped
pub on_its_day : (c : CalendarList) (n : ℤ) (t u : Date) → IsValidDate c t → n ≡ day_number c t → IsOn c (clamped_day n) u → u ≡ t
on_its_day c n t u h day on =
    let valid : IsValidDay n = subst IsValidDay (sym day) h.valid in
    on_same_day c n t u h.date day (subst (λ (m : ℤ). IsOn c m u) (clamped-valid n valid) on)
