-- A date whose year has the same first day and the same months in another list is the same there.
use Rattle.std.proofs.Common.{◌≡◌, ◌∙◌, ◌-◌, ◌≤◌, true, false, List, length, ap, subst, arith}
use Rattle.std.specs.Prelude.{not, slice_index_or, sum_by, take}
use Rattle.std.proofs.lemmas.Int.{ints}
use Rattle.std.proofs.lemmas.Bool.Decides.{nat_tests}
use Rattle.cal_days.proofs.Signed.{signed}
use Rattle.cal_types.specs.CalendarList.{CalendarList, Date, Entry, IsDate, IsOn, day_number, days_before, days_of, no_entry}
use Rattle.cal_types.specs.DateOrder.{date_eq}
use Rattle.cal_types.specs.SameYear.{HaveSameYear}
use Rattle.cal_types.proofs.ListLemmas.{on-unique}

module _ (c d : CalendarList) (t : Date) (same : HaveSameYear c d t.year) where
  date-there : IsDate c t → IsDate d t
  date-there h = record {
    place = subst (λ (months : List Entry). (1 ≤ t.month) × (t.month ≤ length months)) same.months h.place;
    day = subst (λ (months : List Entry). (1 ≤ t.day) × (t.day ≤ (slice_index_or months (t.month - 1) no_entry).days)) same.months h.day;
  }

  days-there : days_before c t.year t.month ≡ days_before d t.year t.month
  unfolding days_before
  days-there = ap (λ (months : List Entry). sum_by days_of (take (t.month - 1) months)) same.months

  day-there : day_number d t ≡ day_number c t
  day-there = omega (arith, signed, same.first_day, days-there)

  pub stays : (u : Date) → IsDate c t → IsOn d (day_number c t) u → u ≡ t
  stays u h on = on-unique d (day_number c t) u t on (record { date = date-there h; day = day-there })

own-date : (t : Date) → date_eq t t ≡ true
own-date t = grind (arith, nat_tests, ints)

-- so it isn't moved
pub not-moved : (t u : Date) → u ≡ t → not (date_eq t u) ≡ false
not-moved t u e = ap (λ (v : Date). not (date_eq t v)) e ∙ ap not (own-date t)
