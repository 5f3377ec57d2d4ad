-- Over an accepted table the chosen years are numbered, join and keep their leap months.
use Rattle.std.proofs.Common.{◌≡◌, ℕ, ◌+◌, ◌≤◌, ⊎_elim, true, ◌||◌, nat_lt, int_le, List, length, sym, subst, arith, ℤ, pos, ◌+ℤ◌, ◌-ℤ◌}
use Rattle.cal_days.specs.Day.{IsRuleYear}
use Rattle.std.proofs.lemmas.Option.{slice_get_cases}
use Rattle.cal_days.proofs.Signed.{signed, by_lt}
use Rattle.cal_types.proofs.DateTests.{and-left, and-right}
use Rattle.cal_types.specs.Rows.{AreConsecutive, AreJoined}
use Rattle.cal_types.specs.laws.RowLaws.{or_right, consecutive, is_last, number-at, row_below}
use Rattle.cal_types.specs.laws.RowPlaces.{by_year, chosen-number}
use Rattle.cal_types.specs.laws.RowJoins.{chosen-join}
use Rattle.cal_east_asian.specs.EastAsianYears.{end_day, AreYears}
use Rattle.cal_east_asian.specs.TableYears.{number_of, chosen_year, IsRow, HasNoRow}
use Rattle.cal_east_asian.specs.TableAccepted.{row_before, start_of, is_next, leap_by_years, leaps_after, IsAccepted}
use Rattle.cal_east_asian.specs.declared.east_asian_traditional_year.EastAsianTraditionalYear.{EastAsianTraditionalYear}
use Rattle.cal_errors.specs.declared.errors.TablePart.TheVariants.{Year, Join, End, Leap}

-- the test of three years depends on these years alone
three_same : (a b : ℤ → EastAsianTraditionalYear) (y : ℤ) → a y ≡ b y → a (y -ℤ pos 1) ≡ b (y -ℤ pos 1) → a (y -ℤ pos 2) ≡ b (y -ℤ pos 2) → leap_by_years b y ≡ true → leap_by_years a y ≡ true
three_same a b y e f h known = rw (e, f, h) known

module _ (year_of : ℤ → EastAsianTraditionalYear) (rows : List EastAsianTraditionalYear) (accepted : IsAccepted year_of rows) where
  pub accepted-consecutive : AreConsecutive number_of rows
  accepted-consecutive = consecutive number_of (pos 1912) rows (λ i row h. and-left (is_next (row_before rows i) row) (int_le row.related_iso (pos 9999)) (accepted i row h Year))

  -- there are at most as many rows as years from 1912 to 9999
  pub accepted-few : length rows ≤ 8088
  accepted-few =
      by_lt {P = length rows ≤ 8088} 8088 (length rows)
      (λ more.
      ⊎_elim {C = length rows ≤ 8088}
      (λ late.
      row_below {P = length rows ≤ 8088} rows 0 8088 late.0 late.2 (omega arith)
      (λ first here.
      let least = and-left (is_next (row_before rows 0) first) (int_le first.related_iso (pos 9999)) (accepted 0 first here Year) in
      let most = and-right (is_next (row_before rows 8088) late.0) (int_le late.0.related_iso (pos 9999)) (accepted 8088 late.0 late.2 Year) in
      absurd (omega (arith, signed, least, most, number-at number_of rows accepted-consecutive first here 8088 late.0 late.2))))
      (λ past. past.0)
      ((slice_get_cases rows 8088).1))
      (λ few. few)

  accepted-joined : AreJoined number_of start_of end_day year_of rows
  accepted-joined = record { starts = λ i row h. accepted i row h Join; last = λ i row h. accepted i row h End }

  -- after the last row the triples of years have leap months
  last-leaps : (y : ℤ) (i : ℕ) (row : EastAsianTraditionalYear) → IsRow rows i row → row.related_iso ≡ y → HasNoRow rows (y +ℤ pos 1) → leaps_after (chosen_year year_of rows) row ≡ true
  last-leaps y i row h e none =
      let last = is_last number_of rows accepted-consecutive i row h (subst (λ (z : ℤ). HasNoRow rows (z +ℤ pos 1)) (sym e) none) in
      let years = chosen_year year_of rows in
      or_right (nat_lt (i + 1) (length rows)) (leaps_after years row) (and-right (leap_by_years years row.related_iso) (nat_lt (i + 1) (length rows) || leaps_after years row) (accepted i row h Leap)) last

  chosen_year-numbered : AreYears year_of → (y : ℤ) → IsRuleYear y → (chosen_year year_of rows y).related_iso ≡ y
  chosen_year-numbered years y rule = chosen-number number_of year_of rows accepted-consecutive y (years.numbered y rule)

  chosen_year-joins : AreYears year_of → (y : ℤ) → IsRuleYear y → IsRuleYear (y +ℤ pos 1) → (chosen_year year_of rows (y +ℤ pos 1)).new_year ≡ end_day (chosen_year year_of rows y)
  chosen_year-joins years y rule next = chosen-join number_of start_of end_day year_of rows accepted-consecutive accepted-joined y (years.joins y rule next)

  chosen_year-leaps : AreYears year_of → (y : ℤ) → IsRuleYear (y -ℤ pos 2) → IsRuleYear y → leap_by_years (chosen_year year_of rows) y ≡ true
  chosen_year-leaps computed y first rule =
      let years = chosen_year year_of rows in
      let P : Type 0 = leap_by_years years y ≡ true in
      by_year number_of year_of rows accepted-consecutive {P = P} y
      (λ i row h e c. subst (λ (z : ℤ). leap_by_years years z ≡ true) e (and-left (leap_by_years years row.related_iso) (nat_lt (i + 1) (length rows) || leaps_after years row) (accepted i row h Leap)))
      (λ none c.
      let back : y -ℤ pos 1 +ℤ pos 1 ≡ y = omega (arith, signed) in
      by_year number_of year_of rows accepted-consecutive {P = P} (y -ℤ pos 1)
      (λ i row h e d.
      let after = last-leaps (y -ℤ pos 1) i row h e (subst (HasNoRow rows) (sym back) none) in
      let same : row.related_iso +ℤ pos 1 ≡ y = omega (arith, signed) in
      subst (λ (z : ℤ). leap_by_years years z ≡ true) same (and-left (leap_by_years years (row.related_iso +ℤ pos 1)) (leap_by_years years (row.related_iso +ℤ pos 2)) after))
      (λ no d.
      let back2 : y -ℤ pos 2 +ℤ pos 1 ≡ y -ℤ pos 1 = omega (arith, signed) in
      by_year number_of year_of rows accepted-consecutive {P = P} (y -ℤ pos 2)
      (λ i row h e f.
      let after = last-leaps (y -ℤ pos 2) i row h e (subst (HasNoRow rows) (sym back2) no) in
      let same : row.related_iso +ℤ pos 2 ≡ y = omega (arith, signed) in
      subst (λ (z : ℤ). leap_by_years years z ≡ true) same (and-right (leap_by_years years (row.related_iso +ℤ pos 1)) (leap_by_years years (row.related_iso +ℤ pos 2)) after))
      (λ last f. three_same years year_of y c d f (computed.leaps y first rule))))

  pub chosen-years : AreYears year_of → AreYears (chosen_year year_of rows)
  chosen-years computed = record { numbered = chosen_year-numbered computed; joins = chosen_year-joins computed; leaps = chosen_year-leaps computed }
