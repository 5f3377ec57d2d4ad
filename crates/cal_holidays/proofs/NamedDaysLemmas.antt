-- The list of a book's holidays is that of the days that its rules name.
use Rattle.std.proofs.Common.{◌≡◌, ◌<◌, ◌≤◌, ◌&&◌, ◌||◌, ℕ, zero, suc, Bool, true, false, List, length, Option, Some, None, refl, sym, ap, subst, ◌∙◌, arith, ℤ, pos, ◌+ℤ◌, ◌-ℤ◌, ◌≤ℤ◌}
use Rattle.std.specs.List.{list_any}
use Rattle.std.specs.Prelude.{nat_eq, slice_get}
use Rattle.std.proofs.lemmas.Bool.{eqb-true}
use Rattle.std.proofs.lemmas.Bool.Decides.{nat_tests}
use Rattle.std.proofs.lemmas.Option.{slice_get_within}
use Rattle.cal_anniversary.proofs.FallingOnLemmas.{falls-true, true-falls}
use Rattle.cal_days.specs.Day.{IsValidDay, is_valid_day}
use Rattle.cal_days.specs.Division.{floor_mod}
use Rattle.cal_days.specs.Easter.{IsSundayAfter}
use Rattle.cal_days.specs.Sums.{years_up}
use Rattle.cal_days.proofs.DivisionLemmas.{floor_parts}
use Rattle.cal_days.proofs.RangeLemmas.{is_between-true, true-is_between}
use Rattle.cal_days.proofs.Signed.{by_bool, signed}
use Rattle.cal_tables.specs.Kinds.{TableContents, kind_system}
use Rattle.cal_tables.proofs.KindLemmas.{kind_lawful}
use Rattle.cal_types.specs.Anniversary.{is_anniversary}
use Rattle.cal_types.specs.CalendarList.{CalendarList, Date, IsLawful, month_at, month_length}
use Rattle.cal_types.specs.DayDates.{date_on}
use Rattle.cal_types.specs.Month.{MonthParts, month_rank}
use Rattle.cal_types.specs.declared.leaping.Leaping.TheVariants.{Exact}
use Rattle.cal_types.specs.declared.weekday.Weekday.{Weekday}
use Rattle.cal_types.proofs.AnniversaryLemmas.{rank-injective}
use Rattle.cal_types.proofs.DateTests.{and-left, and-right, true-and}
use Rattle.cal_types.proofs.DayDateLemmas.{date_on-on}
use Rattle.cal_types.proofs.ListLemmas.{on-unique}
use Rattle.cal_holidays.specs.BookNames.{holidays_in, names_if, names_in_book}
use Rattle.cal_holidays.specs.Merging.{Stretch}
use Rattle.cal_holidays.specs.NamedDays.{AreHolidays, IsEasterOf, IsInWeek, IsInYear, IsNthWeekday, IsSpanDay, MovesTo, Names, NamesBy, NamesIn, NamesInBook, OwnDay}
use Rattle.cal_holidays.specs.Naming.{easter_list, easter_moon, has_weekday, is_date_in, is_easter, is_month, is_nth, is_nth_day, is_own, is_own_on, is_yes, names_by, names_day, names_in, recurs_on, repeats_on, repeats_own, seven, week_end, year_on}
use Rattle.cal_holidays.specs.Observing.{IsKept, is_kept, move_on}
use Rattle.cal_holidays.specs.RepeatedDays.{RepeatsOn}
use Rattle.cal_holidays.specs.Rules.{DayRule, Easter, Fixed, Kept, NamedRule, Nth, Observed, Recurring, Repeated, Rule, Span, Yearly, rule_calendar}
use Rattle.cal_holidays.specs.declared.holiday_rule.SpanWeek.{SpanWeek}
use Rattle.cal_holidays.specs.declared.holiday_rule.SpanWeek.TheVariants.{From, UpTo}
use Rattle.cal_holidays.proofs.EasterLemmas.{easter-of, easter_year, of-easter, sunday_tested, tested_sunday}
use Rattle.cal_holidays.proofs.NthLemmas.{nth-true, true-nth}
use Rattle.cal_holidays.specs.declared.rule_years.RuleYears.{RuleYears}
use Rattle.cal_holidays.proofs.ObservingLemmas.{kept-true, true-kept}
use Rattle.cal_holidays.proofs.PairLemmas.{listed-has, listed-of, listed-rises}

-- ---- one of seven

no_true : false ≡ true → ⊥
no_true e = cc

or-by : (a b : Bool) → a ≡ false → (a || b) ≡ true → b ≡ true
or-by true b e h = cc
or-by false b e h = h

-- one of seven numbers passes a test
one_of : (test : ℕ → Bool) → list_any test seven ≡ true → (k : ℕ) × (k < 7) × (test k ≡ true)
one_of test h =
    by_bool {P = (k : ℕ) × (k < 7) × (test k ≡ true)} (test 0) (λ e. (0, omega arith, e)) (λ e0. let h1 = or-by (test 0) _ e0 h in
    by_bool {P = (k : ℕ) × (k < 7) × (test k ≡ true)} (test 1) (λ e. (1, omega arith, e)) (λ e1. let h2 = or-by (test 1) _ e1 h1 in
    by_bool {P = (k : ℕ) × (k < 7) × (test k ≡ true)} (test 2) (λ e. (2, omega arith, e)) (λ e2. let h3 = or-by (test 2) _ e2 h2 in
    by_bool {P = (k : ℕ) × (k < 7) × (test k ≡ true)} (test 3) (λ e. (3, omega arith, e)) (λ e3. let h4 = or-by (test 3) _ e3 h3 in
    by_bool {P = (k : ℕ) × (k < 7) × (test k ≡ true)} (test 4) (λ e. (4, omega arith, e)) (λ e4. let h5 = or-by (test 4) _ e4 h4 in
    by_bool {P = (k : ℕ) × (k < 7) × (test k ≡ true)} (test 5) (λ e. (5, omega arith, e)) (λ e5. let h6 = or-by (test 5) _ e5 h5 in
    by_bool {P = (k : ℕ) × (k < 7) × (test k ≡ true)} (test 6) (λ e. (6, omega arith, e)) (λ e6. absurd (no_true (or-by (test 6) _ e6 h6)))))))))

or-left : (a b : Bool) → a ≡ true → (a || b) ≡ true
or-left true b e = refl
or-left false b e = cc

or-right : (a b : Bool) → b ≡ true → (a || b) ≡ true
or-right true b e = refl
or-right false b e = e

of_one : (test : ℕ → Bool) (k : ℕ) → k < 7 → test k ≡ true → list_any test seven ≡ true
of_one test zero lt e = or-left (test 0) _ e
of_one test (suc zero) lt e = or-right (test 0) _ (or-left (test 1) _ e)
of_one test (suc (suc zero)) lt e = or-right (test 0) _ (or-right (test 1) _ (or-left (test 2) _ e))
of_one test (suc (suc (suc zero))) lt e = or-right (test 0) _ (or-right (test 1) _ (or-right (test 2) _ (or-left (test 3) _ e)))
of_one test (suc (suc (suc (suc zero)))) lt e = or-right (test 0) _ (or-right (test 1) _ (or-right (test 2) _ (or-right (test 3) _ (or-left (test 4) _ e))))
of_one test (suc (suc (suc (suc (suc zero))))) lt e =
    or-right (test 0) _ (or-right (test 1) _ (or-right (test 2) _ (or-right (test 3) _ (or-right (test 4) _ (or-left (test 5) _ e)))))
of_one test (suc (suc (suc (suc (suc (suc zero)))))) lt e =
    or-right (test 0) _ (or-right (test 1) _ (or-right (test 2) _ (or-right (test 3) _ (or-right (test 4) _ (or-right (test 5) _ (or-left (test 6) _ e))))))
of_one test (suc (suc (suc (suc (suc (suc (suc k))))))) lt e = absurd (omega arith)

-- ---- weekdays of months

module _ (c : CalendarList) (law : IsLawful c) (m : MonthParts) (nth : ℤ) (w : Weekday) (n : ℤ) where
  nth-named : is_nth c m nth w n ≡ true → IsNthWeekday c m nth w n
  nth-named h =
      let t = date_on c n in
      let on = date_on-on c law n in
      let rest = and-right (has_weekday w n) _ h in
      record {
        date = t;
        on = on;
        month = rank-injective _ _ (eqb-true _ _ (and-left (is_month (month_at c t.year t.month) m) _ rest));
        weekday_is = eqb-true _ _ (and-left (has_weekday w n) _ h);
        place = nth-true nth (month_length c t.year t.month) t.day on.date.day.0 (and-right (is_month (month_at c t.year t.month) m) _ rest);
      }

  named-nth : IsNthWeekday c m nth w n → is_nth c m nth w n ≡ true
  named-nth is =
      let t = is.date in
      let same = on-unique c n t (date_on c n) is.on (date_on-on c law n) in
      let month : is_month (month_at c t.year t.month) m ≡ true = let ranks = ap month_rank is.month in grind (arith, nat_tests, ranks) in
      let day = true-nth nth (month_length c t.year t.month) t.day is.on.date.day.0 is.place in
      let weekday : has_weekday w n ≡ true = let e = is.weekday_is in grind (arith, nat_tests, e) in
      subst (λ (u : Date). (has_weekday w n && (is_month (month_at c u.year u.month) m && is_nth_day nth (month_length c u.year u.month) u.day)) ≡ true) same
      (true-and _ _ weekday (true-and _ _ month day))

-- ---- own days

module _ (c : CalendarList) (law : IsLawful c) where
  in-year : (n : ℤ) → IsInYear c (year_on c n) n
  in-year n = (date_on c n, date_on-on c law n, refl)

  year-in : (y n : ℤ) → IsInYear c y n → year_on c n ≡ y
  year-in y n (t, on, year) = ap (λ (u : Date). u.year) (on-unique c n (date_on c n) t (date_on-on c law n) on) ∙ year

  in-week : (week : SpanWeek) (n : ℤ) (k : ℕ) → k < 7 → IsInWeek week (week_end week n k) n
  in-week From n k lt = (omega (arith, signed), omega (arith, signed, lt))
  in-week UpTo n k lt = (omega (arith, signed, lt), omega (arith, signed))

  week-in : (week : SpanWeek) (day n : ℤ) → IsInWeek week day n → (k : ℕ) × (k < 7) × (week_end week n k ≡ day)
  week-in From day n h = (years_up (n -ℤ day), omega (arith, signed, h.0, h.1), omega (arith, signed, h.0))
  week-in UpTo day n h = (years_up (day -ℤ n), omega (arith, signed, h.0, h.1), omega (arith, signed, h.1))

  -- a rule's own day by its test, where years are tested, too
  own-true : (rule : Rule) (kept : ℤ → Bool) (n : ℤ) → is_own c rule kept n ≡ true → (y : ℤ) × OwnDay c rule y n × (kept y ≡ true)
  own-true (Fixed kind m d leaping) kept n h =
      (year_on c n, (true-falls c law leaping m d n (and-left (is_anniversary c leaping m d n) _ h), in-year n), and-right (is_anniversary c leaping m d n) _ h)
  own-true (Easter julian offset) kept n h =
      let y = year_on (easter_list julian) (n -ℤ offset) in
      (y, easter-of julian y (n -ℤ offset) (tested_sunday (easter_moon julian y) (n -ℤ offset) (and-left (is_easter julian (n -ℤ offset)) _ h)), and-right (is_easter julian (n -ℤ offset)) _ h)
  own-true (Nth kind m nth w) kept n h =
      (year_on c n, (nth-named c law m nth w n (and-left (is_nth c m nth w n) _ h), in-year n), and-right (is_nth c m nth w n) _ h)
  own-true (Span kind m d week w) kept n h =
      let found = one_of (λ k. is_date_in c m d kept (week_end week n k)) (and-right (has_weekday w n) _ h) in
      let day = week_end week n found.0 in
      let dated = and-right (is_valid_day day) _ found.2 in (
        year_on c day,
        record {
          day = day;
          falls = true-falls c law Exact m d day (and-left (is_anniversary c Exact m d day) _ dated);
          valid = is_between-true _ _ day (and-left (is_valid_day day) _ found.2);
          year = in-year day;
          weekday_is = eqb-true _ _ (and-left (has_weekday w n) _ h);
          within = in-week week n found.0 found.1;
        },
        and-right (is_anniversary c Exact m d day) _ dated,
      )

  true-own : (rule : Rule) (kept : ℤ → Bool) (y n : ℤ) → OwnDay c rule y n → kept y ≡ true → is_own c rule kept n ≡ true
  true-own (Fixed kind m d leaping) kept y n h k =
      true-and _ _ (falls-true c law leaping m d n h.0) (ap kept (year-in y n h.1) ∙ k)
  true-own (Easter julian offset) kept y n h k =
      let e = n -ℤ offset in
      let sunday = of-easter julian y e h in
      let year = easter_year julian y e sunday in
      let is : is_easter julian e ≡ true = sunday_tested (easter_moon julian (year_on (easter_list julian) e)) e (subst (λ (z : ℤ). IsSundayAfter (easter_moon julian z) e) (sym year) sunday) in
      true-and _ _ is (ap kept year ∙ k)
  true-own (Nth kind m nth w) kept y n h k =
      true-and _ _ (named-nth c law m nth w n h.0) (ap kept (year-in y n h.1) ∙ k)
  true-own (Span kind m d week w) kept y n h k =
      let weekday : has_weekday w n ≡ true = let e = h.weekday_is in grind (arith, nat_tests, e) in
      let at = week-in week h.day n h.within in
      let falls = falls-true c law Exact m d h.day h.falls in
      let year = ap kept (year-in y h.day h.year) ∙ k in
      let is : is_date_in c m d kept h.day ≡ true = true-and _ _ (true-is_between _ _ h.day h.valid) (true-and _ _ falls year) in
      true-and _ _ weekday (of_one (λ i. is_date_in c m d kept (week_end week n i)) at.0 at.1 (ap (is_date_in c m d kept) at.2 ∙ is))

  -- a rule names a day by its test
  pub rule-in : (kept : Observed) (n : ℤ) → names_in c kept n ≡ true → NamesIn c kept n
  rule-in kept n h =
      let found = one_of (λ d. is_own_on c kept (n -ℤ move_on kept.moves d) d) h in
      let d = found.0 in
      let own = n -ℤ move_on kept.moves d in
      let rest = and-right (nat_eq (floor_mod own 7) d) _ found.2 in
      let weekday : floor_mod own 7 ≡ d = eqb-true _ _ (and-left (nat_eq (floor_mod own 7) d) _ found.2) in
      let is = own-true kept.rule (is_kept kept.years) own (and-right (is_valid_day own) _ rest) in (
        is.0,
        kept-true kept.years is.0 is.2,
        record {
          own = own;
          is_own = is.1;
          valid = is_between-true _ _ own (and-left (is_valid_day own) _ rest);
          moved = omega (arith, signed, ap (move_on kept.moves) weekday);
        },
      )

  pub in-rule : (kept : Observed) (n : ℤ) → NamesIn c kept n → names_in c kept n ≡ true
  in-rule kept n (y, is, t) =
      let d = floor_mod t.own 7 in
      let own : n -ℤ move_on kept.moves d ≡ t.own = omega (arith, signed, t.moved) in
      let weekday : nat_eq (floor_mod t.own 7) d ≡ true = grind (arith, nat_tests) in
      let there = true-own kept.rule (is_kept kept.years) y t.own t.is_own (true-kept kept.years y is) in
      let passes : is_own_on c kept t.own d ≡ true = true-and _ _ weekday (true-and _ _ (true-is_between _ _ t.own t.valid) there) in
      of_one (λ k. is_own_on c kept (n -ℤ move_on kept.moves k) k) d (floor_parts t.own 7 (omega arith)).1 (ap (λ (z : ℤ). is_own_on c kept z d) own ∙ passes)

-- ---- recurrence rules

yes-is : {A : Type 0} (d : Dec A) → is_yes d ≡ true → A
yes-is (yes a) e = a
yes-is (no never) e = absurd cc

is-yes : {A : Type 0} (d : Dec A) → A → is_yes d ≡ true
is-yes (yes a) b = refl
is-yes (no never) b = absurd (never b)

module _ (c : CalendarList) (law : IsLawful c) (r : Repeated) (years : RuleYears) (moves : List (Option ℤ)) where
  -- a recurrence rule names a day by its test
  pub repeats-by : (n : ℤ) → repeats_on c law r years moves n ≡ true → RepeatsOn c r years moves n
  repeats-by n h =
      let found = one_of (λ d. repeats_own c law r years (n -ℤ move_on moves d) d) h in
      let d = found.0 in
      let own = n -ℤ move_on moves d in
      let rest = and-right (nat_eq (floor_mod own 7) d) _ found.2 in
      let weekday : floor_mod own 7 ≡ d = eqb-true _ _ (and-left (nat_eq (floor_mod own 7) d) _ found.2) in
      record {
        own = own;
        occurs = yes-is _ (and-left (recurs_on c law r own) _ rest);
        year = year_on c own;
        in_year = in-year c law own;
        kept = kept-true years (year_on c own) (and-right (recurs_on c law r own) _ rest);
        moved = omega (arith, signed, ap (move_on moves) weekday);
      }

  pub by-repeats : (n : ℤ) → RepeatsOn c r years moves n → repeats_on c law r years moves n ≡ true
  by-repeats n h =
      let d = floor_mod h.own 7 in
      let own : n -ℤ move_on moves d ≡ h.own = omega (arith, signed, h.moved) in
      let weekday : nat_eq (floor_mod h.own 7) d ≡ true = grind (arith, nat_tests) in
      let year : is_kept years (year_on c h.own) ≡ true = ap (is_kept years) (year-in c law h.year h.own h.in_year) ∙ true-kept years h.year h.kept in
      let passes : repeats_own c law r years h.own d ≡ true = true-and _ _ weekday (true-and _ _ (is-yes _ h.occurs) year) in
      of_one (λ k. repeats_own c law r years (n -ℤ move_on moves k) k) d (floor_parts h.own 7 (omega arith)).1 (ap (λ (z : ℤ). repeats_own c law r years z d) own ∙ passes)

-- ---- rules

rule-by : (t : TableContents) (rule : DayRule) (years : RuleYears) (moves : List (Option ℤ)) (n : ℤ) → names_by t rule years moves n ≡ true → NamesBy t rule years moves n
rule-by t (Yearly rule) years moves n h =
    rule-in (kind_system t (rule_calendar rule)).list (kind_lawful t (rule_calendar rule)) (record { rule = rule; years = years; moves = moves }) n h
rule-by t (Recurring r) years moves n h = repeats-by (kind_system t r.calendar).list (kind_lawful t r.calendar) r years moves n h

by-rule : (t : TableContents) (rule : DayRule) (years : RuleYears) (moves : List (Option ℤ)) (n : ℤ) → NamesBy t rule years moves n → names_by t rule years moves n ≡ true
by-rule t (Yearly rule) years moves n h =
    in-rule (kind_system t (rule_calendar rule)).list (kind_lawful t (rule_calendar rule)) (record { rule = rule; years = years; moves = moves }) n h
by-rule t (Recurring r) years moves n h = by-repeats (kind_system t r.calendar).list (kind_lawful t r.calendar) r years moves n h

rule-named : (t : TableContents) (kept : Kept) (n : ℤ) → names_day t kept n ≡ true → Names t kept n
rule-named t kept n h = rule-by t kept.rule kept.years kept.moves n h

named-rule : (t : TableContents) (kept : Kept) (n : ℤ) → Names t kept n → names_day t kept n ≡ true
named-rule t kept n h = by-rule t kept.rule kept.years kept.moves n h

module _ (t : TableContents) (rules : List NamedRule) where
  book-by : (r : ℕ) (n : ℤ) (o : Option NamedRule) → slice_get rules r ≡ o → names_in_book t rules r n ≡ names_if t o n
  book-by r n o e = ap (λ (p : Option NamedRule). names_if t p n) e

  book-named : (r : ℕ) (n : ℤ) (o : Option NamedRule) → slice_get rules r ≡ o → names_in_book t rules r n ≡ true → NamesInBook t rules r n
  book-named r n None e h = let no = sym (book-by r n None e) ∙ h in absurd cc
  book-named r n (Some named) e h = (named, e, rule-named t named.kept n (sym (book-by r n (Some named) e) ∙ h))

  named-book : (r : ℕ) (n : ℤ) → NamesInBook t rules r n → names_in_book t rules r n ≡ true
  named-book r n (named, e, h) = book-by r n (Some named) e ∙ named-rule t named.kept n h

  -- the holidays of a stretch of days
  pub holidays-meant : (first last : ℤ) (first_rule : ℕ) → first ≤ℤ last → AreHolidays t rules first last first_rule (holidays_in t rules first last first_rule)
  holidays-meant first last first_rule order =
      let s : Stretch = record { first = first; last = last; first_rule = first_rule } in
      record {
        rising = listed-rises (length rules) (names_in_book t rules) s;
        exact = λ n r. (
          λ has.
              let parts = listed-of (length rules) (names_in_book t rules) s order n r has in
              (book-named r n (slice_get rules r) refl parts.1, (parts.0.from, parts.0.until), parts.0.on_first),
          λ h.
              listed-has (length rules) (names_in_book t rules) s n r
              (record { from = h.1.0; until = h.1.1; on_first = h.2; rule = slice_get_within rules r h.0.0 h.0.1 })
              (named-book r n h.0),
        );
      }
