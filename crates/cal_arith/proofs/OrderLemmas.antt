-- Dates whose years have stored numbers are equal and ordered as their day numbers.
use Rattle.std.proofs.Common.{◌≡◌, Bool, sym, ap, ◌∙◌, arith, ℤ, ◌+ℤ◌}
use Rattle.std.specs.Prelude.{◌==◌, ◌&&◌}
use Rattle.std.specs.Ordering.{nat_cmp, int_cmp, int_eq, is_eq, ordering_then}
use Rattle.std.specs.Cmp.{int_cmp_is}
use Rattle.std.specs.declared.cmp.Ordering.{Ordering}
use Rattle.std.specs.declared.cmp.Ordering.TheVariants.{Less, Equal, Greater}
use Rattle.std.proofs.lemmas.Int.{by_lt_z}
use Rattle.cal_days.proofs.Signed.{signed}
use Rattle.cal_types.specs.CalendarList.{IsDate, day_number}
use Rattle.cal_types.proofs.OrderLemmas.{dates-equal, dates-ordered}
use Rattle.cal_arith.specs.declared.dates.Ymd.{Ymd}
use Rattle.cal_arith.specs.Given.{CalendarYears}
use Rattle.cal_arith.specs.Dates.{date_of}

-- numbers that are shifted alike keep their order
pub int_cmp-shifted : (a b n : ℤ) → int_cmp (a +ℤ n) (b +ℤ n) ≡ int_cmp a b
int_cmp-shifted a b n =
    by_lt_z {P = int_cmp (a +ℤ n) (b +ℤ n) ≡ int_cmp a b} a b
    (λ lt. sym (int_cmp_is (a +ℤ n) (b +ℤ n) Less (omega (arith, signed))) ∙ int_cmp_is a b Less lt) (λ ge.
    by_lt_z {P = int_cmp (a +ℤ n) (b +ℤ n) ≡ int_cmp a b} b a
    (λ lt. sym (int_cmp_is (a +ℤ n) (b +ℤ n) Greater (omega (arith, signed))) ∙ int_cmp_is a b Greater lt)
    (λ le. sym (int_cmp_is (a +ℤ n) (b +ℤ n) Equal (omega (arith, signed))) ∙ int_cmp_is a b Equal (omega (arith, signed))))

-- and are the same where they were
pub int_eq-shifted : (a b n : ℤ) → int_eq (a +ℤ n) (b +ℤ n) ≡ int_eq a b
int_eq-shifted a b n = ap is_eq (int_cmp-shifted a b n)

module _ {Y : Type 0} (years : CalendarYears Y) (stored : Y → ℤ) (p q : Ymd Y) (p_stored : stored p.year ≡ years.extended p.year +ℤ years.offset) (q_stored : stored q.year ≡ years.extended q.year +ℤ years.offset) (p_date : IsDate years.list (date_of years p)) (q_date : IsDate years.list (date_of years q)) where
  -- kept dates are equal where their day numbers are
  pub kept-equal : (eq : Y → Y → Bool) → ((x y : Y) → eq x y ≡ int_eq (stored x) (stored y)) → (eq p.year q.year && (p.month == q.month && p.day == q.day)) ≡ int_eq (day_number years.list (date_of years p)) (day_number years.list (date_of years q))
  kept-equal eq same =
      let numbers : eq p.year q.year ≡ int_eq (years.extended p.year) (years.extended q.year) = same p.year q.year ∙ (ap (λ (z : ℤ). int_eq z (stored q.year)) p_stored ∙ (ap (int_eq (years.extended p.year +ℤ years.offset)) q_stored ∙ int_eq-shifted (years.extended p.year) (years.extended q.year) years.offset)) in
      ap (λ (b : Bool). b && (p.month == q.month && p.day == q.day)) numbers ∙ dates-equal years.list (date_of years p) (date_of years q) p_date q_date

  -- and are ordered as these
  pub kept-ordered : (cmp : Y → Y → Ordering) → ((x y : Y) → cmp x y ≡ int_cmp (stored x) (stored y)) → ordering_then (cmp p.year q.year) (ordering_then (nat_cmp p.month q.month) (nat_cmp p.day q.day)) ≡ int_cmp (day_number years.list (date_of years p)) (day_number years.list (date_of years q))
  kept-ordered cmp same =
      let numbers : cmp p.year q.year ≡ int_cmp (years.extended p.year) (years.extended q.year) = same p.year q.year ∙ (ap (λ (z : ℤ). int_cmp z (stored q.year)) p_stored ∙ (ap (int_cmp (years.extended p.year +ℤ years.offset)) q_stored ∙ int_cmp-shifted (years.extended p.year) (years.extended q.year) years.offset)) in
      ap (λ (o : Ordering). ordering_then o (ordering_then (nat_cmp p.month q.month) (nat_cmp p.day q.day))) numbers ∙ dates-ordered years.list (date_of years p) (date_of years q) p_date q_date
