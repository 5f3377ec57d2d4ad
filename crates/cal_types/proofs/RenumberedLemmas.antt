-- A renumbered list is the given list with its years shifted.
use Rattle.std.proofs.Common.{◌≡◌, ℕ, refl, sym, ap, subst, ◌∙◌, arith, ℤ, pos, ◌+ℤ◌, ◌-ℤ◌}
use Rattle.cal_types.specs.Month.{MonthParts}
use Rattle.cal_types.specs.declared.options.Overflow.{Overflow}
use Rattle.cal_types.specs.declared.options.Overflow.TheVariants.{Constrain, Reject}
use Rattle.cal_days.specs.Sums.{span}
use Rattle.cal_days.specs.Day.{IsValidDay}
use Rattle.cal_types.specs.CalendarList.{CalendarList, Date, year_length, month_count, month_at, month_length, start_of_year, days_before, day_number, HasPlace, IsDate, IsValidDate, IsOn, month_number, place_of, spot, IsLawful}
use Rattle.cal_types.specs.Renumbered.{renumbered, shifted_date}
use Rattle.cal_types.proofs.ListLemmas.{start_of_year-anchor, start_of_year-next, start_of_year-unique}
use Rattle.cal_days.proofs.Signed.{signed}
use Rattle.cal_days.proofs.SumLemmas.{span-same, span-next, span-unique}

module _ (shift : ℤ) (c : CalendarList) where
  pub year_length-renumbered : (y : ℤ) → year_length (renumbered shift c) y ≡ year_length c (y +ℤ shift)
  unfolding renumbered
  year_length-renumbered y = refl

  pub month_count-renumbered : (y : ℤ) → month_count (renumbered shift c) y ≡ month_count c (y +ℤ shift)
  unfolding renumbered
  month_count-renumbered y = refl

  pub month_length-renumbered : (y : ℤ) (i : ℕ) → month_length (renumbered shift c) y i ≡ month_length c (y +ℤ shift) i
  unfolding renumbered
  month_length-renumbered y i = refl

  pub days_before-renumbered : (y : ℤ) (i : ℕ) → days_before (renumbered shift c) y i ≡ days_before c (y +ℤ shift) i
  unfolding renumbered days_before
  days_before-renumbered y i = refl

  start-anchor : start_of_year c ((renumbered shift c).anchor_year +ℤ shift) ≡ (renumbered shift c).anchor_day
  unfolding renumbered
  start-anchor =
      let same : c.anchor_year -ℤ shift +ℤ shift ≡ c.anchor_year = omega (arith, signed) in
      ap (start_of_year c) same ∙ start_of_year-anchor c

  start-next : (y : ℤ) → start_of_year c (y +ℤ pos 1 +ℤ shift) ≡ start_of_year c (y +ℤ shift) +ℤ pos (year_length (renumbered shift c) y)
  unfolding renumbered
  start-next y =
      let same : y +ℤ pos 1 +ℤ shift ≡ y +ℤ shift +ℤ pos 1 = omega (arith, signed) in
      ap (start_of_year c) same ∙ start_of_year-next c (y +ℤ shift)

  -- a year starts where it starts in the given list
  pub start_of_year-renumbered : (y : ℤ) → start_of_year (renumbered shift c) y ≡ start_of_year c (y +ℤ shift)
  start_of_year-renumbered y = start_of_year-unique (renumbered shift c) (λ z. start_of_year c (z +ℤ shift)) start-anchor start-next y

  -- and so a date has the day number that it has there
  pub day_number-renumbered : (t : Date) → day_number (renumbered shift c) t ≡ day_number c (shifted_date shift t)
  day_number-renumbered t = omega (arith, signed, start_of_year-renumbered t.year, days_before-renumbered t.year t.month)

  span-anchor : span (month_count c) c.anchor_year ((renumbered shift c).anchor_year +ℤ shift) ≡ pos 0
  unfolding renumbered
  span-anchor =
      let same : c.anchor_year -ℤ shift +ℤ shift ≡ c.anchor_year = omega (arith, signed) in
      ap (span (month_count c) c.anchor_year) same ∙ span-same (month_count c) c.anchor_year

  months-next : (y : ℤ) → span (month_count c) c.anchor_year (y +ℤ pos 1 +ℤ shift) ≡ span (month_count c) c.anchor_year (y +ℤ shift) +ℤ pos (month_count (renumbered shift c) y)
  unfolding renumbered
  months-next y =
      let same : y +ℤ pos 1 +ℤ shift ≡ y +ℤ shift +ℤ pos 1 = omega (arith, signed) in
      ap (span (month_count c) c.anchor_year) same ∙ span-next (month_count c) c.anchor_year (y +ℤ shift)

  -- a month has the number that it has in the given list
  pub month_number-renumbered : (y : ℤ) (i : ℕ) → month_number (renumbered shift c) y i ≡ month_number c (y +ℤ shift) i
  unfolding month_number
  month_number-renumbered y i =
      omega (arith, signed, span-anchor, span-unique (month_count (renumbered shift c)) (renumbered shift c).anchor_year (λ z. span (month_count c) c.anchor_year (z +ℤ shift)) months-next y)

  -- a place of a year is one of the given list's year, and the other way round
  pub renumbered-place : (y : ℤ) (i : ℕ) → HasPlace (renumbered shift c) y i → HasPlace c (y +ℤ shift) i
  renumbered-place y i h = (h.0, omega (arith, h.1, month_count-renumbered y))

  pub place-renumbered : (y : ℤ) (i : ℕ) → HasPlace c (y +ℤ shift) i → HasPlace (renumbered shift c) y i
  place-renumbered y i h = (h.0, omega (arith, h.1, month_count-renumbered y))

  -- a date is one of the given list, and the other way round
  pub renumbered-date : (t : Date) → IsDate (renumbered shift c) t → IsDate c (shifted_date shift t)
  renumbered-date t h = record { place = renumbered-place t.year t.month h.place; day = (h.day.0, omega (arith, h.day.1, month_length-renumbered t.year t.month)) }

  pub date-renumbered : (t : Date) → IsDate c (shifted_date shift t) → IsDate (renumbered shift c) t
  date-renumbered t h = record { place = place-renumbered t.year t.month h.place; day = (h.day.0, omega (arith, h.day.1, month_length-renumbered t.year t.month)) }

  -- so is the date of a day number
  pub renumbered-on : (n : ℤ) (t : Date) → IsOn (renumbered shift c) n t → IsOn c n (shifted_date shift t)
  renumbered-on n t h = record { date = renumbered-date t h.date; day = sym (day_number-renumbered t) ∙ h.day }

  pub on-renumbered : (n : ℤ) (t : Date) → IsOn c n (shifted_date shift t) → IsOn (renumbered shift c) n t
  on-renumbered n t h = record { date = date-renumbered t h.date; day = day_number-renumbered t ∙ h.day }

  -- and a date with a valid day
  pub renumbered-valid : (t : Date) → IsValidDate (renumbered shift c) t → IsValidDate c (shifted_date shift t)
  renumbered-valid t h = record { date = renumbered-date t h.date; valid = subst IsValidDay (day_number-renumbered t) h.valid }

  pub valid-renumbered : (t : Date) → IsValidDate c (shifted_date shift t) → IsValidDate (renumbered shift c) t
  valid-renumbered t h = record { date = date-renumbered t h.date; valid = subst IsValidDay (sym (day_number-renumbered t)) h.valid }

  -- the renumbered list is a calendar's where the given one is
  pub renumbered-lawful : IsLawful c → IsLawful (renumbered shift c)
  unfolding renumbered spot place_of
  renumbered-lawful law = record {
    count = λ y. law.count (y +ℤ shift);
    lengths = λ y i h. law.lengths (y +ℤ shift) i h;
    rises = λ y i j h k lt. law.rises (y +ℤ shift) i j h k lt;
    kind = λ y i h. law.kind (y +ℤ shift) i h;
    stands = λ y m h. law.stands (y +ℤ shift) m h;
  }
