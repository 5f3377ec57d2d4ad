-- What belonging to a calendar of Gregorian years says, and what follows from it for order.
use Rattle.std.proofs.Common.{◌≡◌, ℕ, List, true, false, sym, ap, subst, ◌∙◌, arith, ℤ, pos, neg_ℤ, ◌+ℤ◌, ◌-ℤ◌}
use Rattle.std.specs.Prelude.{IsTrue}
use Rattle.std.specs.Ordering.{int_cmp, int_eq}
use Rattle.cal_days.specs.Day.{is_field_year}
use Rattle.cal_days.proofs.RangeLemmas.{is_between-true, true-is_between}
use Rattle.cal_days.proofs.Signed.{signed}
use Rattle.cal_types.specs.CalendarList.{date, day_number, IsOn, IsValidDate, is_valid_date}
use Rattle.cal_types.specs.Renumbered.{shifted_date}
use Rattle.cal_types.specs.DateOrder.{date_eq, date_cmp}
use Rattle.cal_types.proofs.DateTests.{is_valid_date-true, true-is_valid_date, not_true, same_truth}
use Rattle.cal_types.proofs.OrderLemmas.{dates-equal, dates-ordered}
use Rattle.cal_types.proofs.RenumberedBoundLemmas.{ranged-renumbered}
use Rattle.cal_types.proofs.RenumberedLemmas.{day_number-renumbered, valid-renumbered, renumbered-valid}
use Rattle.cal_arith.specs.Given.{IsGiven}
use Rattle.cal_arith.specs.Dates.{Belongs}
use Rattle.cal_arith.specs.declared.dates.Ymd.{Ymd}
use Rattle.cal_base.specs.GregorianList.{gregorian_list}
use Rattle.cal_base.specs.laws.GregorianLaws.{gregorian_list-bounded, iso_year-valid}
use Rattle.cal_base.specs.OffsetList.{offset_list, offset_years, IsOffset}
use Rattle.cal_base.specs.laws.OffsetListLaws.{iso_year-extended}
use Rattle.cal_base.specs.OffsetSystem.{offset_date, kept_belongs}
use Rattle.cal_base.specs.KeptDates.{kept_date}
use Rattle.cal_base.specs.declared.numbered_year.NumberedYear.{NumberedYear}

-- the ISO date again
pub shifted-offset : (offset : ℤ) (p : Ymd NumberedYear) → shifted_date offset (offset_date offset p) ≡ kept_date p
shifted-offset offset p =
    let same : p.year.number -ℤ offset +ℤ offset ≡ p.year.number = omega (arith, signed) in
    ap (λ (y : ℤ). date y p.month p.day) same

pub kept-valid : (p : Ymd NumberedYear) → IsTrue (kept_belongs p) → IsValidDate gregorian_list (kept_date p)
kept-valid p h = is_valid_date-true gregorian_list (kept_date p) h

-- the day number is that of the ISO date
pub day_number-kept : (offset : ℤ) (p : Ymd NumberedYear) → day_number (offset_list offset) (offset_date offset p) ≡ day_number gregorian_list (kept_date p)
day_number-kept offset p = day_number-renumbered offset gregorian_list (offset_date offset p) ∙ ap (day_number gregorian_list) (shifted-offset offset p)

-- what belongs is a date of the list
pub kept-dated : (offset : ℤ) (p : Ymd NumberedYear) → IsTrue (kept_belongs p) → IsValidDate (offset_list offset) (offset_date offset p)
kept-dated offset p h = valid-renumbered offset gregorian_list (offset_date offset p) (subst (IsValidDate gregorian_list) (sym (shifted-offset offset p)) (kept-valid p h))

-- and what is, belongs
pub dated-kept : (offset : ℤ) (p : Ymd NumberedYear) → IsValidDate (offset_list offset) (offset_date offset p) → IsTrue (kept_belongs p)
dated-kept offset p h = true-is_valid_date gregorian_list (kept_date p) (subst (IsValidDate gregorian_list) (shifted-offset offset p) (renumbered-valid offset gregorian_list (offset_date offset p) h))

-- the same for the arithmetic of dates
pub kept-belongs : (offset : ℤ) → IsOffset offset → (p : Ymd NumberedYear) → IsTrue (kept_belongs p) → Belongs (offset_years offset) p
kept-belongs offset small p h =
    let valid = kept-dated offset p h in
    let year = (ranged-renumbered offset small gregorian_list gregorian_list-bounded (offset_date offset p) valid).0 in
    record {
      year = record { same = iso_year-extended offset p.year; range = (omega (arith, signed, year), omega (arith, signed, year)) };
      date = valid.date;
      valid = valid.valid;
    }

pub belongs-kept : (offset : ℤ) (p : Ymd NumberedYear) → Belongs (offset_years offset) p → IsTrue (kept_belongs p)
belongs-kept offset p h = dated-kept offset p (record { date = h.date; valid = h.valid })

-- dates that belong are equal and ordered as their day numbers
pub kept-equal : (offset : ℤ) (p q : Ymd NumberedYear) → IsTrue (kept_belongs p) → IsTrue (kept_belongs q) → date_eq (kept_date p) (kept_date q) ≡ int_eq (day_number (offset_list offset) (offset_date offset p)) (day_number (offset_list offset) (offset_date offset q))
kept-equal offset p q h k =
    rw (day_number-kept offset p, day_number-kept offset q)
    (dates-equal gregorian_list (kept_date p) (kept_date q) (kept-valid p h).date (kept-valid q k).date)

pub kept-ordered : (offset : ℤ) (p q : Ymd NumberedYear) → IsTrue (kept_belongs p) → IsTrue (kept_belongs q) → date_cmp (kept_date p) (kept_date q) ≡ int_cmp (day_number (offset_list offset) (offset_date offset p)) (day_number (offset_list offset) (offset_date offset q))
kept-ordered offset p q h k =
    rw (day_number-kept offset p, day_number-kept offset q)
    (dates-ordered gregorian_list (kept_date p) (kept_date q) (kept-valid p h).date (kept-valid q k).date)

-- whatever year the two calendars count from, a date has the same day number
pub kept-shared : (offset other : ℤ) (p : Ymd NumberedYear) → day_number (offset_list other) (offset_date other p) ≡ day_number (offset_list offset) (offset_date offset p)
kept-shared offset other p = day_number-kept other p ∙ sym (day_number-kept offset p)

-- and is on that day
pub kept-on : (offset other : ℤ) (p : Ymd NumberedYear) → IsTrue (kept_belongs p) → IsOn (offset_list other) (day_number (offset_list offset) (offset_date offset p)) (offset_date other p)
kept-on offset other p h = record { date = (kept-dated other p h).date; day = kept-shared offset other p }

-- a year that fields may not name has no valid day
pub field_year-needed : (y : ℤ) (i d : ℕ) → is_field_year y ≡ false → is_valid_date gregorian_list (date y i d) ≡ false
field_year-needed y i d out = not_true (is_valid_date gregorian_list (date y i d)) refuted where
  refuted : is_valid_date gregorian_list (date y i d) ≡ true → ⊥
  refuted h =
      let year = iso_year-valid (date y i d) (is_valid_date-true gregorian_list (date y i d) h) in
      let named : is_field_year y ≡ true = true-is_between (neg_ℤ (pos 1040000)) (pos 1040000) y (omega (arith, signed, year), omega (arith, signed, year)) in
      cc

-- a kept date belongs where its date in extended years is one of the list
pub belongs-offset : (offset : ℤ) (p : Ymd NumberedYear) → is_valid_date (offset_list offset) (offset_date offset p) ≡ kept_belongs p
belongs-offset offset p =
    same_truth (kept_belongs p) (is_valid_date (offset_list offset) (offset_date offset p)) (
      λ h. true-is_valid_date (offset_list offset) (offset_date offset p) (kept-dated offset p h),
      λ h. dated-kept offset p (is_valid_date-true (offset_list offset) (offset_date offset p) h),
    )

-- a year that fields may name is given
pub given-named : (offset : ℤ) → IsOffset offset → (year : NumberedYear) → is_field_year year.number ≡ true → IsGiven (offset_years offset) year
given-named offset small year h =
    let named = is_between-true (neg_ℤ (pos 1040000)) (pos 1040000) year.number h in
    record { same = iso_year-extended offset year; range = (omega (arith, signed, small, named), omega (arith, signed, small, named)) }
