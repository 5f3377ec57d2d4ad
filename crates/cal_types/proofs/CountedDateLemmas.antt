-- Dates that keep the year of the list from which a calendar counts its years: they are the same days.
use Rattle.std.proofs.Common.{◌≡◌, sym, ap, subst, ◌∙◌, arith, ℤ, ◌+ℤ◌, ◌-ℤ◌}
use Rattle.std.specs.Ordering.{int_cmp, int_eq}
use Rattle.cal_days.proofs.Signed.{signed}
use Rattle.cal_types.specs.CalendarList.{CalendarList, Date, date, day_number, IsDate, IsOn, IsValidDate}
use Rattle.cal_types.specs.DateOrder.{date_eq, date_cmp}
use Rattle.cal_types.specs.Renumbered.{renumbered, shifted_date, counted_date}
use Rattle.cal_types.proofs.OrderLemmas.{dates-equal, dates-ordered}
use Rattle.cal_types.proofs.RenumberedLemmas.{day_number-renumbered, renumbered-date, on-renumbered, valid-renumbered, renumbered-valid}

-- what is added leads back
pub shifted_year : (shift y : ℤ) → y -ℤ shift +ℤ shift ≡ y
shifted_year shift y = omega (arith, signed)

pub counted_year : (shift y : ℤ) → y +ℤ shift -ℤ shift ≡ y
counted_year shift y = omega (arith, signed)

pub stored_year : (shift y : ℤ) → y ≡ y -ℤ shift +ℤ shift
stored_year shift y = omega (arith, signed)

pub shifted-counted : (shift : ℤ) (t : Date) → shifted_date shift (counted_date shift t) ≡ t
shifted-counted shift t = ap (λ (y : ℤ). date y t.month t.day) (shifted_year shift t.year)

module _ (shift : ℤ) (c : CalendarList) where
  -- it is a date of the renumbered list where it is one of the given list
  pub date-counted : (t : Date) → IsDate (renumbered shift c) (counted_date shift t) → IsDate c t
  date-counted t h = subst (IsDate c) (shifted-counted shift t) (renumbered-date shift c (counted_date shift t) h)

  pub counted-valid : (t : Date) → IsValidDate c t → IsValidDate (renumbered shift c) (counted_date shift t)
  counted-valid t h = valid-renumbered shift c (counted_date shift t) (subst (IsValidDate c) (sym (shifted-counted shift t)) h)

  pub valid-counted : (t : Date) → IsValidDate (renumbered shift c) (counted_date shift t) → IsValidDate c t
  valid-counted t h = subst (IsValidDate c) (shifted-counted shift t) (renumbered-valid shift c (counted_date shift t) h)

  -- with the same day number
  pub day_number-counted : (t : Date) → day_number (renumbered shift c) (counted_date shift t) ≡ day_number c t
  day_number-counted t = day_number-renumbered shift c (counted_date shift t) ∙ ap (day_number c) (shifted-counted shift t)

  pub counted-on : (n : ℤ) (t : Date) → IsOn c n t → IsOn (renumbered shift c) n (counted_date shift t)
  counted-on n t h = on-renumbered shift c n (counted_date shift t) (subst (IsOn c n) (sym (shifted-counted shift t)) h)

  -- dates are equal and ordered as their day numbers, by the years that they keep
  pub counted-equal : (t u : Date) → IsDate c t → IsDate c u → date_eq t u ≡ int_eq (day_number (renumbered shift c) (counted_date shift t)) (day_number (renumbered shift c) (counted_date shift u))
  counted-equal t u h k = rw (day_number-counted t, day_number-counted u) (dates-equal c t u h k)

  pub counted-ordered : (t u : Date) → IsDate c t → IsDate c u → date_cmp t u ≡ int_cmp (day_number (renumbered shift c) (counted_date shift t)) (day_number (renumbered shift c) (counted_date shift u))
  counted-ordered t u h k = rw (day_number-counted t, day_number-counted u) (dates-ordered c t u h k)
