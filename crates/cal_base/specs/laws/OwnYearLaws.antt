-- What the test of an own date says, and what compatible calendars share.
use Rattle.std.proofs.Common.{◌≡◌, ◌↔◌, Bool, true, false, sym, ap, ◌∙◌, arith, ℕ, ◌+◌, ◌-◌, ℤ, pos, neg_ℤ, ◌+ℤ◌}
use Rattle.std.specs.Prelude.{◌&&◌, ◌==◌, IsTrue, List, length, take, sum_by, slice_index_or, nat_le}
use Rattle.std.specs.Ordering.{nat_cmp, int_cmp, int_eq, ordering_then}
use Rattle.std.specs.declared.cmp.Ordering.{Ordering}
use Rattle.cal_days.specs.Day.{IsFieldYear, IsValidDay, is_field_year, is_valid_day, IsCoveredYear}
use Rattle.cal_days.proofs.RangeLemmas.{true-is_between}
use Rattle.cal_days.proofs.Signed.{signed}
use Rattle.cal_types.specs.CalendarList.{Entry, no_entry, days_of, Date, date, day_number, days_before, start_of_year, IsDate, IsLawful, IsValidDate, is_date, is_valid_date}
use Rattle.cal_types.proofs.DateTests.{and-left, and-right, not_true, true-and, is_valid_date-true, true-is_valid_date}
use Rattle.cal_types.proofs.ListLemmas.{first-date}
use Rattle.cal_arith.specs.Given.{CalendarYears, IsGiven}
use Rattle.cal_arith.specs.Dates.{Belongs, date_of}
use Rattle.cal_arith.specs.declared.dates.Ymd.{Ymd}
use Rattle.cal_arith.proofs.OrderLemmas.{kept-equal, kept-ordered}
use Rattle.cal_base.specs.OwnYears.{IsOwnYear, IsSharedYear, is_own_date}

module _ {Y : Type 0} (years : CalendarYears Y) (ranged : (t : Date) → IsValidDate years.list t → IsFieldYear t.year × IsFieldYear (t.year +ℤ years.offset)) (has_year : Y → Bool) (tested : (y : Y) → IsTrue (has_year y) ↔ (years.year_of (years.extended y) ≡ y)) where
  -- an own date is a date of the list
  pub own_dated : (d : Ymd Y) → IsTrue (is_own_date years has_year d) → IsValidDate years.list (date_of years d)
  own_dated d h = is_valid_date-true years.list (date_of years d) (and-right (has_year d.year) (is_valid_date years.list (date_of years d)) h)

  -- its year is an own year, since years of valid days are field years
  pub own_year : (d : Ymd Y) → IsTrue (is_own_date years has_year d) → IsOwnYear years d.year
  own_year d h =
      let field = (ranged (date_of years d) (own_dated d h)).0 in
      let same = (tested d.year).0 (and-left (has_year d.year) (is_valid_date years.list (date_of years d)) h) in
      record { given = record { same = same; range = (omega (arith, signed, field), omega (arith, signed, field)) }; field = field }

  -- it belongs by the arithmetic of dates
  pub own_belongs : (d : Ymd Y) → IsTrue (is_own_date years has_year d) → Belongs years d
  own_belongs d h = let valid = own_dated d h in record { year = (own_year d h).given; date = valid.date; valid = valid.valid }

  -- and what belongs is an own date
  pub belongs_own : (d : Ymd Y) → Belongs years d → IsTrue (is_own_date years has_year d)
  belongs_own d h =
      true-and (has_year d.year) (is_valid_date years.list (date_of years d)) ((tested d.year).1 h.year.same)
      (true-is_valid_date years.list (date_of years d) (record { date = h.date; valid = h.valid }))

  -- a date of a year that isn't the calendar's own is none
  pub not_own : (d : Ymd Y) (test : Bool) → test ≡ (has_year d.year && is_field_year (years.extended d.year)) → test ≡ false → test ≡ is_own_date years has_year d
  not_own d test same out = out ∙ sym (not_true (is_own_date years has_year d) refuted) where
    refuted : is_own_date years has_year d ≡ true → ⊥
    refuted h =
        let own = own_year d h in
        let its_year = (tested d.year).1 own.given.same in
        let named = true-is_between (neg_ℤ (pos 1040000)) (pos 1040000) (years.extended d.year) own.field in
        let in_it = true-and (has_year d.year) (is_field_year (years.extended d.year)) its_year named in
        cc

  module _ (stored : Y → ℤ) (stored_from : (y : Y) → IsGiven years y → stored y ≡ years.extended y +ℤ years.offset) (p q : Ymd Y) (h : IsTrue (is_own_date years has_year p)) (k : IsTrue (is_own_date years has_year q)) where
    -- own dates are equal where their day numbers are
    pub days_equal : (eq : Y → Y → Bool) → ((x y : Y) → eq x y ≡ int_eq (stored x) (stored y)) → (eq p.year q.year && (p.month == q.month && p.day == q.day)) ≡ int_eq (day_number years.list (date_of years p)) (day_number years.list (date_of years q))
    days_equal = kept-equal years stored p q (stored_from p.year (own_year p h).given) (stored_from q.year (own_year q k).given) (own_dated p h).date (own_dated q k).date

    -- and are ordered as these
    pub days_ordered : (cmp : Y → Y → Ordering) → ((x y : Y) → cmp x y ≡ int_cmp (stored x) (stored y)) → ordering_then (cmp p.year q.year) (ordering_then (nat_cmp p.month q.month) (nat_cmp p.day q.day)) ≡ int_cmp (day_number years.list (date_of years p)) (day_number years.list (date_of years q))
    days_ordered = kept-ordered years stored p q (stored_from p.year (own_year p h).given) (stored_from q.year (own_year q k).given) (own_dated p h).date (own_dated q k).date

-- the days of a year before a month's place and a day, by its months
abbrev days_in : List Entry → ℕ → ℕ → ℕ
days_in es i d = sum_by days_of (take (i - 1) es) + (d - 1)

-- whether months have a place and a day
abbrev has_day : List Entry → ℕ → ℕ → Bool
has_day es i d = (nat_le 1 i && nat_le i (length es)) && (nat_le 1 d && nat_le d (slice_index_or es (i - 1) no_entry).days)

module _ {Y : Type 0} (years other : CalendarYears Y) (d : Ymd Y) (share : IsSharedYear years other d.year) where
  -- a date of a shared year has the same day number in both calendars
  pub shared_day : day_number other.list (date_of other d) ≡ day_number years.list (date_of years d)
  unfolding days_before
  shared_day =
      ap (λ (z : ℤ). z +ℤ pos (days_in (other.list.entries (other.extended d.year)) d.month d.day)) share.start
      ∙ ap (λ (es : List Entry). start_of_year years.list (years.extended d.year) +ℤ pos (days_in es d.month d.day)) share.months

  -- and is a valid date in both or in neither
  shared_valid : is_valid_date other.list (date_of other d) ≡ is_valid_date years.list (date_of years d)
  shared_valid =
      ap (λ (es : List Entry). has_day es d.month d.day && is_valid_day (day_number other.list (date_of other d))) share.months
      ∙ ap (λ (z : ℤ). is_date years.list (date_of years d) && is_valid_day z) shared_day

  -- an own date is one of each calendar that shares its year
  pub own_shared : (has_year also : Y → Bool) → IsTrue (also d.year) ↔ (other.year_of (other.extended d.year) ≡ d.year) → IsTrue (is_own_date years has_year d) → IsTrue (is_own_date other also d)
  own_shared has_year also law h =
      true-and (also d.year) (is_valid_date other.list (date_of other d)) (law.1 share.given.same)
      (shared_valid ∙ and-right (has_year d.year) (is_valid_date years.list (date_of years d)) h)

-- what leads to stored years is a field year, since a date of year 0 is valid
pub offset_field : {Y : Type 0} (years : CalendarYears Y) → IsLawful years.list → ((t : Date) → IsCoveredYear t.year → IsDate years.list t → IsValidDay (day_number years.list t)) → ((t : Date) → IsValidDate years.list t → IsFieldYear t.year × IsFieldYear (t.year +ℤ years.offset)) → IsFieldYear years.offset
offset_field years lawful covered ranged =
    let first = first-date years.list (pos 0) lawful in
    let valid : IsValidDate years.list (date (pos 0) 1 1) = record { date = first; valid = covered (date (pos 0) 1 1) (omega (arith, signed), omega (arith, signed)) first } in
    let field = (ranged (date (pos 0) 1 1) valid).1 in
    (omega (arith, signed, field), omega (arith, signed, field))
