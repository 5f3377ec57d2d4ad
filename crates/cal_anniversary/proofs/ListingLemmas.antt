-- What an iterator of anniversaries keeps from one call to the next.
use Rattle.std.proofs.Common.{◌≡◌, [], ◌∷◌, Option, Some, sym, ap, ◌∙◌, subst, arith, ℤ, pos, ◌+ℤ◌, ◌≤ℤ◌}
use Rattle.std.specs.Prelude.{ℕ, option_map, slice_get}
use Rattle.std.proofs.lemmas.Int.{by_lt_z}
use Rattle.cal_days.specs.Day.{IsBetween, IsFieldYear}
use Rattle.cal_days.proofs.Signed.{signed}
use Rattle.cal_types.specs.Anniversary.{anniversaries_between}
use Rattle.cal_types.specs.Month.{MonthParts}
use Rattle.cal_types.specs.MonthParts.{month_parts}
use Rattle.cal_types.specs.CalendarList.{CalendarList, Date, IsLawful, IsOn}
use Rattle.cal_anniversary.specs.Asking.{IsAsked}
use Rattle.cal_anniversary.specs.Found.{IsFirstFound}
use Rattle.cal_anniversary.specs.Listing.{AreInYears, AreYearsOf, IsListing, days_left}
use Rattle.cal_types.specs.WindowDays.{IsAfter}
use Rattle.cal_anniversary.specs.YearlyDays.{IsFirst, HasNone}
use Rattle.cal_types.specs.declared.leaping.Leaping.{Leaping}
use Rattle.cal_types.specs.declared.window.Window.{Window}
use Rattle.cal_anniversary.specs.declared.yearly_day.Found.{Found}
use Rattle.cal_anniversary.specs.declared.yearly_day.YearlyDay.{YearlyDay}
use Rattle.cal_anniversary.proofs.WindowLemmas.{first-found, first-left, none-left, years-left}
use Rattle.cal_anniversary.proofs.YearLemmas.{years_rise}

module _ (c : CalendarList) (law : IsLawful c) (asked : YearlyDay) where
  years-of : (before : Option Window) (w : Window) (first last from to : ℤ) → before ≡ Some w → IsListing c asked before first last → from ≡ first → to ≡ last → AreInYears c asked.leaping (month_parts asked.month) asked.day from to (Some w)
  years-of before w first last from to e keeps f t =
      let years = subst (AreInYears c asked.leaping (month_parts asked.month) asked.day first last) e keeps.years in
      subst (λ (z : ℤ). AreInYears c asked.leaping (month_parts asked.month) asked.day z to (Some w)) (sym f) (subst (λ (z : ℤ). AreInYears c asked.leaping (month_parts asked.month) asked.day first z (Some w)) (sym t) years)

  -- what an iterator keeps once it has given the first one
  pub listing-after : (before : Option Window) (w : Window) (first last from to n y next : ℤ) (rest : Option Window) → before ≡ Some w → IsListing c asked before first last → from ≡ first → to ≡ last → IsFirst c asked.leaping (month_parts asked.month) asked.day w.first w.last from to n y → IsAfter w n rest → next ≡ y +ℤ pos 1 → IsListing c asked rest next last
  listing-after before w first last from to n y next rest e keeps f t is left step =
      let years = years-of before w first last from to e keeps f t in
      let after = years-left c law asked.leaping (month_parts asked.month) asked.day w from to n y rest years is left in
      record {
        accepted = keeps.accepted;
        low = omega (arith, signed, keeps.low, is.years);
        high = keeps.high;
        years = subst (λ (z : ℤ). AreInYears c asked.leaping (month_parts asked.month) asked.day z last rest) (sym step) (subst (λ (z : ℤ). AreInYears c asked.leaping (month_parts asked.month) asked.day (y +ℤ pos 1) z rest) t after);
      }

  -- the list before and after it
  pub list-after : (before : Option Window) (w : Window) (first last from to n y : ℤ) (rest : Option Window) → before ≡ Some w → IsListing c asked before first last → from ≡ first → to ≡ last → IsFirst c asked.leaping (month_parts asked.month) asked.day w.first w.last from to n y → IsAfter w n rest → days_left c asked before ≡ n ∷ days_left c asked rest
  list-after before w first last from to n y rest e keeps f t is left =
      ap (days_left c asked) e ∙ first-left c law asked.leaping (month_parts asked.month) asked.day w from to n y rest (years-of before w first last from to e keeps f t) is left

  -- the list where there is none
  pub list-none : (before : Option Window) (w : Window) (first last from to : ℤ) → before ≡ Some w → IsListing c asked before first last → from ≡ first → to ≡ last → HasNone c asked.leaping (month_parts asked.month) asked.day w.first w.last from (to +ℤ pos 1) → days_left c asked before ≡ []
  list-none before w first last from to e keeps f t none =
      ap (days_left c asked) e ∙ none-left c law asked.leaping (month_parts asked.month) asked.day w from to (years-of before w first last from to e keeps f t) none

-- the years of a window's first and last day
pub years-of_window : (c : CalendarList) → IsLawful c → (w : Window) (from to first last : ℤ) (t u : Date) → IsOn c from t → IsOn c to u → from ≡ w.first → to ≡ w.last → IsFieldYear t.year → IsFieldYear u.year → first ≡ t.year → last ≡ u.year → AreYearsOf c w first last
years-of_window c law w from to first last t u on_first on_last e f field_first field_last year last_year = record {
  low = omega (arith, signed, field_first.0, year);
  high = omega (arith, signed, field_last.1, last_year);
  years = λ leaping m d v y n h within there.
      let same : w ≡ v = cc in
      let inside = subst (λ (x : Window). IsBetween x.first x.last n) (sym same) within in (
        by_lt_z {P = first ≤ℤ y} y first
            (λ before. absurd (omega (arith, signed, years_rise c law n from there.date t there.on on_first (omega (arith, signed, year, there.year)), inside.0, e)))
            (λ le. le),
        by_lt_z {P = y ≤ℤ last} last y
            (λ after. absurd (omega (arith, signed, years_rise c law to n u there.date on_last there.on (omega (arith, signed, last_year, there.year)), inside.1, f)))
            (λ le. le),
      );
}

-- the same of two numbers that are said to be these years
years-at : (c : CalendarList) (leaping : Leaping) (m : MonthParts) (d : ℕ) (w : Window) (first last from to : ℤ) → AreYearsOf c w first last → from ≡ first → to ≡ last → AreInYears c leaping m d from to (Some w)
years-at c leaping m d w first last from to are f t =
    subst (λ (z : ℤ). AreInYears c leaping m d z to (Some w)) (sym f) (subst (λ (z : ℤ). AreInYears c leaping m d first z (Some w)) (sym t) (are.years leaping m d))

-- what an iterator keeps before it has given any
pub listing-new : (c : CalendarList) (asked : YearlyDay) (w : Window) (first last from to : ℤ) → IsAsked c (month_parts asked.month) asked.day → AreYearsOf c w first last → from ≡ first → to ≡ last → IsListing c asked (Some w) from to
listing-new c asked w first last from to accepted are f t = record {
  accepted = accepted;
  low = omega (arith, signed, are.low, f);
  high = omega (arith, signed, are.high, t);
  years = years-at c asked.leaping (month_parts asked.month) asked.day w first last from to are f t;
}

-- what the search of these years finds is the first of the list
pub found-first : (c : CalendarList) → IsLawful c → (leaping : Leaping) (m : MonthParts) (d : ℕ) (w : Window) (first last from to : ℤ) (found : Option Found) → AreYearsOf c w first last → from ≡ first → to ≡ last → IsFirstFound c leaping m d w.first w.last from to found → option_map (λ f. f.day) found ≡ slice_get (anniversaries_between c leaping m d w.first w.last) 0
found-first c law leaping m d w first last from to found are f t is =
    first-found c law leaping m d w from to found (years-at c leaping m d w first last from to are f t) is
