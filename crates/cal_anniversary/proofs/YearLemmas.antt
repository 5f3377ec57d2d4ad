-- The anniversary of a year is what the year's fields resolve to.
use Rattle.std.proofs.Common.{◌≡◌, ℕ, ◌≤◌, ◌&&◌, min, max, Bool, true, false, cond, nat_le, Option, Some, None, Ok, Err, refl, sym, ap, ◌∙◌, subst, arith, inl, ℤ, pos, ◌+ℤ◌, ◌<ℤ◌}
use Rattle.std.proofs.lemmas.Bool.Decides.{nat_tests}
use Rattle.std.proofs.lemmas.Int.{by_lt_z}
use Rattle.cal_days.specs.Day.{IsBetween, IsFieldYear, IsValidDay, is_field_year}
use Rattle.cal_days.proofs.Signed.{signed}
use Rattle.cal_days.proofs.RangeLemmas.{true-is_between}
use Rattle.cal_types.specs.Bag.{Bag, year_month_day}
use Rattle.cal_types.specs.Month.{MonthParts}
use Rattle.cal_types.specs.declared.options.Overflow.{Overflow}
use Rattle.cal_types.specs.declared.options.Overflow.TheVariants as overflow
use Rattle.cal_types.specs.declared.options.MissingFieldsStrategy.TheVariants as missing
use Rattle.cal_errors.specs.declared.errors.DateFromFieldsError.{DateFromFieldsError}
use Rattle.cal_errors.specs.declared.errors.DateFromFieldsError.TheVariants.{InvalidDay}
use Rattle.cal_types.specs.CalendarList.{CalendarList, Date, date, IsDate, IsOn, IsLawful, month_at, month_length, day_number, spot}
use Rattle.cal_types.specs.YearNames.{YearNames}
use Rattle.cal_types.specs.Resolving.{Resolved, resolve, after, resolved_place, resolved_in_month, resolved_day, valid_date, same_place}
use Rattle.cal_types.proofs.ListLemmas.{place_of-some, spot-place, day_number-rises}
use Rattle.cal_types.proofs.ResolvingLemmas.{after-ok, valid_date-ok, resolve-date}
use Rattle.cal_types.specs.Leaping.{overflow_for}
use Rattle.cal_types.specs.Anniversary.{IsNamed}
use Rattle.cal_anniversary.specs.Asking.{IsAsked}
use Rattle.cal_anniversary.specs.YearlyDays.{IsOfYear, HasNone}
use Rattle.cal_types.specs.declared.leaping.Leaping.{Leaping}
use Rattle.cal_types.specs.declared.leaping.Leaping.TheVariants.{Exact, Constrain}
use Rattle.cal_types.proofs.AnniversaryLemmas.{rank-injective, named-spot}

-- a year, a month and a day resolve to the day of the month's spot
resolve-year : (c : CalendarList) (names : YearNames) (y : ℤ) (m : MonthParts) (d : ℕ) (o : Overflow) → is_field_year y ≡ true → c.is_of_kind m ≡ true → resolve c names (year_month_day y m d) o missing.Reject ≡ after (after (resolved_place (spot c y m o)) (λ (i : ℕ). same_place None i)) (λ (i : ℕ). resolved_in_month c y i o d)
unfolding resolve
resolve-year c names y m d o field kind = rw (field, kind) refl

place_found : (r : Option ℕ) (i : ℕ) → resolved_place r ≡ Ok i → r ≡ Some i
place_found None i h = cc
place_found (Some j) i h = cc

tested_day : (last d day : ℕ) → resolved_day last overflow.Reject d ≡ Ok day → day ≡ d
tested_day last d day h = tested (nat_le 1 d && nat_le d last) h where
  tested : (b : Bool) → ◌≡◌ {A = Resolved ℕ} (cond b (Ok d) (Err (InvalidDay last))) (Ok day) → day ≡ d
  tested true e = cc
  tested false e = cc

same_ok : (x y : ℕ) → ◌≡◌ {A = Resolved ℕ} (Ok x) (Ok y) → x ≡ y
same_ok x y e = cc

module _ (c : CalendarList) (law : IsLawful c) where
  -- a day of the month's spot is named
  spot-named : (leaping : Leaping) (m : MonthParts) (d : ℕ) (y : ℤ) (i day : ℕ) → 1 ≤ d → spot c y m (overflow_for leaping) ≡ Some i → resolved_day (month_length c y i) (overflow_for leaping) d ≡ Ok day → IsNamed c leaping m d (date y i day)
  unfolding spot
  spot-named Exact m d y i day some there e = (rank-injective (month_at c y i) m (place_of-some c y m i there).1, tested_day (month_length c y i) d day e)
  spot-named Constrain m d y i day some there e =
      let clamped = same_ok (max 1 (min d (month_length c y i))) day e in
      let length = (law.lengths y i (spot-place c y m overflow.Constrain i there)).0 in
      (there, omega arith)

  -- what the fields of a year resolve to is named
  resolved-named : (names : YearNames) (leaping : Leaping) (m : MonthParts) (d : ℕ) (y : ℤ) (t : Date) → IsAsked c m d → IsFieldYear y → resolve c names (year_month_day y m d) (overflow_for leaping) missing.Reject ≡ Ok t → IsNamed c leaping m d t × (t.year ≡ y)
  resolved-named names leaping m d y t asked field e =
      let o = overflow_for leaping in
      let steps = sym (resolve-year c names y m d o (true-is_between _ _ y field) asked.kind) ∙ e in
      let of_place = after-ok (after (resolved_place (spot c y m o)) (λ (i : ℕ). same_place None i)) (λ (i : ℕ). resolved_in_month c y i o d) t steps in
      let i = of_place.0 in
      let found = after-ok (resolved_place (spot c y m o)) (λ (j : ℕ). same_place None j) i of_place.1 in
      let there = place_found (spot c y m o) i (found.1 ∙ ap (λ (j : ℕ). Ok j) (same_ok found.0 i found.2)) in
      let of_day = after-ok (resolved_day (month_length c y i) o d) (λ (day : ℕ). valid_date c (date y i day)) t of_place.2 in
      let same = (valid_date-ok c (date y i of_day.0) t of_day.2).0 in
      subst (λ (u : Date). IsNamed c leaping m d u × (u.year ≡ y)) {x = date y i of_day.0} same (spot-named leaping m d y i of_day.0 asked.day.0 there of_day.1, refl {a = y})

  named-day : (leaping : Leaping) (m : MonthParts) (d : ℕ) (t : Date) → 1 ≤ d → IsDate c t → IsNamed c leaping m d t → resolved_day (month_length c t.year t.month) (overflow_for leaping) d ≡ Ok t.day
  named-day Exact m d t some is h =
      let test : (nat_le 1 d && nat_le d (month_length c t.year t.month)) ≡ true = grind (arith, nat_tests, h.1, is.day) in
      rw test (ap (λ (k : ℕ). Ok k) (sym h.1))
  named-day Constrain m d t some is h =
      let clamped : max 1 (min d (month_length c t.year t.month)) ≡ t.day = omega (arith, h.1, is.day) in
      ap (λ (k : ℕ). Ok k) clamped

  -- the fields of a year resolve to the named date, where its day is valid
  named-resolves : (names : YearNames) (leaping : Leaping) (m : MonthParts) (d : ℕ) (t : Date) → IsAsked c m d → IsFieldYear t.year → IsDate c t → IsNamed c leaping m d t → resolve c names (year_month_day t.year m d) (overflow_for leaping) missing.Reject ≡ valid_date c t
  named-resolves names leaping m d t asked field is named =
      let o = overflow_for leaping in
      let steps = resolve-year c names t.year m d o (true-is_between _ _ t.year field) asked.kind in
      let spots = ap (λ (r : Option ℕ). after (after (resolved_place r) (λ (i : ℕ). same_place None i)) (λ (i : ℕ). resolved_in_month c t.year i o d)) (named-spot c law leaping m d t is named) in
      let days = ap (λ (r : Resolved ℕ). after r (λ (day : ℕ). valid_date c (date t.year t.month day))) (named-day leaping m d t asked.day.0 is named) in
      steps ∙ (spots ∙ days)

  -- an answer is the year's anniversary
  pub resolved-of_year : (names : YearNames) (leaping : Leaping) (m : MonthParts) (d : ℕ) (y : ℤ) (bag : Bag) (o : Overflow) (t : Date) (n : ℤ) → IsAsked c m d → IsFieldYear y → bag ≡ year_month_day y m d → o ≡ overflow_for leaping → resolve c names bag o missing.Reject ≡ Ok t → n ≡ day_number c t → IsOfYear c leaping m d y n
  resolved-of_year names leaping m d y bag o t n asked field same_bag same_overflow e day =
      let is = resolve-date c law names bag o missing.Reject t e in
      let fields = ap (λ (b : Bag). resolve c names b (overflow_for leaping) missing.Reject) (sym same_bag) ∙ (ap (λ (p : Overflow). resolve c names bag p missing.Reject) (sym same_overflow) ∙ e) in
      let named = resolved-named names leaping m d y t asked field fields in
      record {
        date = t;
        on = record { date = is.0; day = sym day };
        valid = subst IsValidDay (sym day) is.1;
        named = named.0;
        year = named.1;
      }

  valid-ok : (t : Date) → IsValidDay (day_number c t) → valid_date c t ≡ Ok t
  valid-ok t valid = rw (true-is_between _ _ (day_number c t) valid) refl

  -- and where there is none, the year has no anniversary
  pub refused-none : (names : YearNames) (leaping : Leaping) (m : MonthParts) (d : ℕ) (y : ℤ) (bag : Bag) (o : Overflow) (fault : DateFromFieldsError) → IsAsked c m d → IsFieldYear y → bag ≡ year_month_day y m d → o ≡ overflow_for leaping → resolve c names bag o missing.Reject ≡ Err fault → (n : ℤ) → IsOfYear c leaping m d y n → ⊥
  refused-none names leaping m d y bag o fault asked field same_bag same_overflow e n of_year =
      let t = of_year.date in
      let valid = valid-ok t (subst IsValidDay (sym of_year.on.day) of_year.valid) in
      let resolved = named-resolves names leaping m d t asked (subst IsFieldYear (sym of_year.year) field) of_year.on.date of_year.named ∙ valid in
      let years = ap (λ (z : ℤ). year_month_day z m d) of_year.year ∙ sym same_bag in
      let fields = ap (λ (b : Bag). resolve c names b (overflow_for leaping) missing.Reject) years ∙ (ap (λ (p : Overflow). resolve c names bag p missing.Reject) (sym same_overflow) ∙ e) in
      contradiction (sym resolved ∙ fields) where
        contradiction : {u : Date} {f : DateFromFieldsError} → ◌≡◌ {A = Resolved Date} (Ok u) (Err f) → ⊥
        contradiction g = cc

  same_some : (i j : ℕ) → ◌≡◌ {A = Option ℕ} (Some i) (Some j) → i ≡ j
  same_some i j e = cc

  day_of : (leaping : Leaping) (m : MonthParts) (d : ℕ) (t u : Date) → t.year ≡ u.year → t.month ≡ u.month → IsNamed c leaping m d t → IsNamed c leaping m d u → t.day ≡ u.day
  day_of Exact m d t u years months h k = h.1 ∙ sym k.1
  day_of Constrain m d t u years months h k =
      h.1 ∙ (ap (λ (y : ℤ). min d (month_length c y t.month)) years ∙ (ap (λ (i : ℕ). min d (month_length c u.year i)) months ∙ sym k.1))

  -- a year has at most one anniversary
  pub one_of_year : (leaping : Leaping) (m : MonthParts) (d : ℕ) (y n k : ℤ) → IsOfYear c leaping m d y n → IsOfYear c leaping m d y k → n ≡ k
  one_of_year leaping m d y n k p q =
      let t = p.date in let u = q.date in
      let years = p.year ∙ sym q.year in
      let spots = ap (λ (z : ℤ). spot c z m (overflow_for leaping)) years in
      let months = same_some t.month u.month (sym (named-spot c law leaping m d t p.on.date p.named) ∙ (spots ∙ named-spot c law leaping m d u q.on.date q.named)) in
      let days = day_of leaping m d t u years months p.named q.named in
      let same : date t.year t.month t.day ≡ date u.year u.month u.day = ap (λ (z : ℤ). date z t.month t.day) years ∙ (ap (λ (i : ℕ). date u.year i t.day) months ∙ ap (date u.year u.month) days) in
      sym p.on.day ∙ (ap (day_number c) same ∙ q.on.day)

  -- a later year's day comes later
  pub years_rise : (n k : ℤ) (t u : Date) → IsOn c n t → IsOn c k u → t.year <ℤ u.year → n <ℤ k
  years_rise n k t u p q lt = omega (arith, signed, day_number-rises c t u p.date q.date (inl lt), p.day, q.day)

-- a year without an anniversary in the window joins the years before it
pub none-next : (c : CalendarList) (leaping : Leaping) (m : MonthParts) (d : ℕ) (from to first y next : ℤ) → next ≡ y +ℤ pos 1 → HasNone c leaping m d from to first y → ((n : ℤ) → IsBetween from to n → IsOfYear c leaping m d y n → ⊥) → HasNone c leaping m d from to first next
none-next c leaping m d from to first y next e none here z n low high within there =
    by_lt_z {P = ⊥} z y
    (λ lt. none z n low lt within there)
    (λ ge. let same : z ≡ y = omega (arith, signed) in here n within (subst (λ (v : ℤ). IsOfYear c leaping m d v n) same there))

-- a year whose anniversary isn't in the window has none there
pub none-outside : (c : CalendarList) → IsLawful c → (leaping : Leaping) (m : MonthParts) (d : ℕ) (from to y n : ℤ) → IsOfYear c leaping m d y n → (IsBetween from to n → ⊥) → (k : ℤ) → IsBetween from to k → IsOfYear c leaping m d y k → ⊥
none-outside c law leaping m d from to y n there outside k within h = outside (subst (IsBetween from to) (one_of_year c law leaping m d y k n h there) within)
