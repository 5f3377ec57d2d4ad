-- The fields of a date of a list resolve to the date.
use Rattle.std.proofs.Common.{◌≡◌, ◌&&◌, nat_le, true, Some, Ok, Err, refl, ap, ◌∙◌, arith}
use Rattle.std.proofs.lemmas.Bool.Decides.{nat_tests}
use Rattle.cal_days.specs.Day.{IsFieldYear, is_field_year, is_valid_day}
use Rattle.cal_days.proofs.RangeLemmas.{true-is_between}
use Rattle.cal_types.specs.Bag.{Bag, year_month_day}
use Rattle.cal_types.specs.declared.options.Overflow.TheVariants.{Reject}
use Rattle.cal_types.specs.declared.options.MissingFieldsStrategy.TheVariants as missing
use Rattle.cal_errors.specs.declared.errors.DateFromFieldsError.{DateFromFieldsError}
use Rattle.cal_types.specs.CalendarList.{CalendarList, Date, IsLawful, IsValidDate, day_number, month_at, month_length, place_of, spot}
use Rattle.cal_types.specs.YearNames.{YearNames}
use Rattle.cal_types.specs.Resolving.{Resolved, resolve}
use Rattle.cal_types.proofs.ListLemmas.{place_of-own}

module _ (c : CalendarList) (law : IsLawful c) (names : YearNames) (t : Date) (h : IsValidDate c t) (ranged : IsFieldYear t.year) where
  fields_resolve : resolve c names (year_month_day t.year (month_at c t.year t.month) t.day) Reject missing.Reject ≡ Ok t
  unfolding resolve spot
  fields_resolve =
      let year : is_field_year t.year ≡ true = true-is_between _ _ _ ranged in
      let kind : c.is_of_kind (month_at c t.year t.month) ≡ true = law.kind t.year t.month h.date.place in
      let place : place_of c t.year (month_at c t.year t.month) ≡ Some t.month = place_of-own c t.year t.month (law.rises t.year) h.date.place in
      let day : (nat_le 1 t.day && nat_le t.day (month_length c t.year t.month)) ≡ true = grind (arith, nat_tests, h.date.day) in
      let valid : is_valid_day (day_number c t) ≡ true = true-is_between _ _ _ h.valid in
      rw (year, kind, place, day, valid) refl

  module _ (bag : Bag) (fields : bag ≡ year_month_day t.year (month_at c t.year t.month) t.day) where
    resolves : (r : Resolved Date) → r ≡ resolve c names bag Reject missing.Reject → r ≡ Ok t
    resolves r e = e ∙ (ap (λ (b : Bag). resolve c names b Reject missing.Reject) fields ∙ fields_resolve)

    -- so they name no other date
    pub fields-name : (u : Date) → Ok u ≡ resolve c names bag Reject missing.Reject → u ≡ t
    fields-name u e = let same = resolves (Ok u) e in cc

    -- and they aren't refused
    pub fields-not_refused : (fault : DateFromFieldsError) → Err fault ≡ resolve c names bag Reject missing.Reject → ⊥
    fields-not_refused fault e = let same = resolves (Err fault) e in cc
