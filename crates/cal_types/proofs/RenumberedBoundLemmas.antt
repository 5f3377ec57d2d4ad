-- The bounds of a renumbered list, which follow from those of the given one.
use Rattle.std.proofs.Common.{◌≤◌, arith, sym, subst, unsigned_abs, ℤ, pos, neg_ℤ, ◌+ℤ◌, ◌-ℤ◌}
use Rattle.cal_days.specs.Day.{IsBetween, IsFieldYear, IsRuleYear, IsValidDay, IsCoveredYear}
use Rattle.cal_days.proofs.Signed.{signed}
use Rattle.cal_types.specs.CalendarList.{CalendarList, Date, day_number, month_number, IsDate, IsValidDate}
use Rattle.cal_types.specs.Renumbered.{renumbered, shifted_date}
use Rattle.cal_types.specs.RenumberedBounds.{IsShift, IsBounded}
use Rattle.cal_types.proofs.RenumberedLemmas.{day_number-renumbered, month_number-renumbered, renumbered-date, renumbered-valid}

module _ (shift : ℤ) (small : IsShift shift) (c : CalendarList) (bounds : IsBounded c) where
  -- the days of rule years are far from the ends of the number types
  pub near-renumbered : (t : Date) → IsRuleYear t.year → IsDate (renumbered shift c) t → IsBetween (neg_ℤ (pos 4000000000)) (pos 4000000000) (day_number (renumbered shift c) t)
  near-renumbered t rule h =
      subst (IsBetween (neg_ℤ (pos 4000000000)) (pos 4000000000)) (sym (day_number-renumbered shift c t))
      (bounds.near (shifted_date shift t) (omega (arith, signed, small, rule), omega (arith, signed, small, rule)) (renumbered-date shift c t h))

  -- the years of valid days are small, and so are the years that they are counted from
  pub ranged-renumbered : (t : Date) → IsValidDate (renumbered shift c) t → IsFieldYear t.year × IsFieldYear (t.year +ℤ shift)
  ranged-renumbered t h =
      let year = bounds.ranged (shifted_date shift t) (renumbered-valid shift c t h) in
      ((omega (arith, signed, small, year), omega (arith, signed, small, year)), (omega (arith, signed, year), omega (arith, signed, year)))

  -- dates with valid days lie at most 27040000 months apart: as many as 2080000 years of 13 months have
  pub apart-renumbered : (t u : Date) → IsValidDate (renumbered shift c) t → IsValidDate (renumbered shift c) u → unsigned_abs (month_number (renumbered shift c) u.year u.month -ℤ month_number (renumbered shift c) t.year t.month) ≤ 27040000
  apart-renumbered t u h k =
      rw (month_number-renumbered shift c u.year u.month, month_number-renumbered shift c t.year t.month)
      (bounds.apart (shifted_date shift t) (shifted_date shift u) (renumbered-valid shift c t h) (renumbered-valid shift c u k))

  -- the days of years from -980000 to 980000 are valid
  pub covered-renumbered : (t : Date) → IsCoveredYear t.year → IsDate (renumbered shift c) t → IsValidDay (day_number (renumbered shift c) t)
  covered-renumbered t year h =
      subst IsValidDay (sym (day_number-renumbered shift c t))
      (bounds.covered (shifted_date shift t) (omega (arith, signed, small, year), omega (arith, signed, small, year)) (renumbered-date shift c t h))
