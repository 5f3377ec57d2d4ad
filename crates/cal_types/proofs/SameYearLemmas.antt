-- Two lists that have the same years, but for some.
use Rattle.std.proofs.Common.{◌≡◌, List, ap, subst, arith, ℤ, pos, neg_ℤ, ◌+ℤ◌, ◌≤ℤ◌, ◌<ℤ◌}
use Rattle.std.specs.Prelude.{sum_by}
use Rattle.std.proofs.lemmas.Int.{by_lt_z}
use Rattle.cal_days.specs.Day.{IsRuleYear}
use Rattle.cal_days.proofs.Signed.{signed, by_years}
use Rattle.cal_types.specs.CalendarList.{CalendarList, Entry, days_of, start_of_year, year_length}
use Rattle.cal_types.specs.SameYear.{HaveSameYear}
use Rattle.cal_types.proofs.ListLemmas.{start_of_year-next}

module _ (c d : CalendarList) (a : ℤ) (here : start_of_year c a ≡ start_of_year d a) where
  abbrev Same : ℤ → Type 0
  Same y = start_of_year c y ≡ start_of_year d y

  -- years from a on start on the same days where they have the same lengths
  starts-from : ((y : ℤ) → a ≤ℤ y → year_length c y ≡ year_length d y) → (y : ℤ) → a ≤ℤ y → Same y
  starts-from lengths =
      by_years (λ y. a ≤ℤ y → Same y) a (λ h. here)
      (λ y known h.
      by_lt_z {P = Same (y +ℤ pos 1)} y a
      (λ lt. let same : a ≡ y +ℤ pos 1 = omega (arith, signed) in subst Same same here)
      (λ le. omega (arith, signed, start_of_year-next c y, start_of_year-next d y, known le, lengths y le)))
      (λ y known h. omega (arith, signed, start_of_year-next c y, start_of_year-next d y, known (omega (arith, signed)), lengths y h))

  -- and so do years up to a
  starts-to : ((y : ℤ) → y <ℤ a → year_length c y ≡ year_length d y) → (y : ℤ) → y ≤ℤ a → Same y
  starts-to lengths =
      by_years (λ y. y ≤ℤ a → Same y) a (λ h. here)
      (λ y known h. omega (arith, signed, start_of_year-next c y, start_of_year-next d y, known (omega (arith, signed)), lengths y (omega (arith, signed))))
      (λ y known h.
      by_lt_z {P = Same y} y a
      (λ lt. omega (arith, signed, start_of_year-next c y, start_of_year-next d y, known (omega (arith, signed)), lengths y lt))
      (λ le. let same : a ≡ y = omega (arith, signed) in subst Same same here))

-- years that are free have the same first day and the same months, where rule years start on the same days and all years far away are free
module _ (c d : CalendarList) (IsFree : ℤ → Type 0) (starts : (y : ℤ) → IsRuleYear y → IsFree y → start_of_year c y ≡ start_of_year d y) (entries : (y : ℤ) → IsFree y → c.entries y ≡ d.entries y)
    (above : (y : ℤ) → pos 8000000 ≤ℤ y → IsFree y) (below : (y : ℤ) → y ≤ℤ neg_ℤ (pos 8000000) → IsFree y) where
  lengths : (y : ℤ) → IsFree y → year_length c y ≡ year_length d y
  lengths y free = ap (λ (months : List Entry). sum_by days_of months) (entries y free)

  first_day-same : (y : ℤ) → IsFree y → start_of_year c y ≡ start_of_year d y
  first_day-same y free =
      let low = neg_ℤ (pos 8000000) in
      let high = pos 8000000 in
      by_lt_z {P = start_of_year c y ≡ start_of_year d y} y low
      (λ lt.
      starts-to c d low (starts low (omega (arith, signed), omega (arith, signed)) (below low (omega (arith, signed))))
      (λ z far. lengths z (below z (omega (arith, signed)))) y (omega (arith, signed)))
      (λ le.
      by_lt_z {P = start_of_year c y ≡ start_of_year d y} high y
      (λ lt.
      starts-from c d high (starts high (omega (arith, signed), omega (arith, signed)) (above high (omega (arith, signed))))
      (λ z far. lengths z (above z far)) y (omega (arith, signed)))
      (λ ge. starts y (omega (arith, signed), omega (arith, signed)) free))

  pub same-year : (y : ℤ) → IsFree y → HaveSameYear c d y
  same-year y free = record { first_day = first_day-same y free; months = entries y free }
