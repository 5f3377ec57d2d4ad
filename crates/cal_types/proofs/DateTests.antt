-- What the test of a date says.
use Rattle.std.proofs.Common.{◌≡◌, ◌&&◌, ◌↔◌, Bool, true, false, IsTrue, refl, sym, arith}
use Rattle.std.proofs.lemmas.Bool.Decides.{nat_tests}
use Rattle.cal_days.specs.Day.{is_valid_day}
use Rattle.cal_days.proofs.RangeLemmas.{is_between-true, true-is_between}
use Rattle.cal_types.specs.CalendarList.{CalendarList, Date, IsDate, IsValidDate, is_date, is_valid_date, day_number}

pub is_date-true : (c : CalendarList) (t : Date) → is_date c t ≡ true → IsDate c t
is_date-true c t h = record {
  place = (grind (arith, nat_tests), grind (arith, nat_tests));
  day = (grind (arith, nat_tests), grind (arith, nat_tests));
}

pub true-is_date : (c : CalendarList) (t : Date) → IsDate c t → is_date c t ≡ true
true-is_date c t h = grind (arith, nat_tests, h.place, h.day)

pub and-left : (a b : Bool) → (a && b) ≡ true → a ≡ true
and-left true b h = refl
and-left false b h = h

pub and-right : (a b : Bool) → (a && b) ≡ true → b ≡ true
and-right true b h = h
and-right false b h = absurd (no h) where
  no : ◌≡◌ {A = Bool} false true → ⊥
  no e = cc

pub true-and : (a b : Bool) → a ≡ true → b ≡ true → (a && b) ≡ true
true-and true b h k = k
true-and false b h k = h

pub is_valid_date-true : (c : CalendarList) (t : Date) → is_valid_date c t ≡ true → IsValidDate c t
is_valid_date-true c t h = record {
  date = is_date-true c t (and-left (is_date c t) (is_valid_day (day_number c t)) h);
  valid = is_between-true _ _ _ (and-right (is_date c t) (is_valid_day (day_number c t)) h);
}

pub true-is_valid_date : (c : CalendarList) (t : Date) → IsValidDate c t → is_valid_date c t ≡ true
true-is_valid_date c t h = true-and (is_date c t) (is_valid_day (day_number c t)) (true-is_date c t h.date) (true-is_between _ _ _ h.valid)

-- two tests that hold together are the same
pub same_truth : (a b : Bool) → IsTrue a ↔ IsTrue b → b ≡ a
same_truth true b h = h.0 refl
same_truth false true h = sym (h.1 refl)
same_truth false false h = refl

pub not_true : (b : Bool) → (b ≡ true → ⊥) → b ≡ false
not_true true refuted = absurd (refuted refl)
not_true false refuted = refl
