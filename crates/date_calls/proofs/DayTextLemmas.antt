-- The ISO years of valid days, and what a written text says.
use Rattle.std.proofs.Common.{◌≡◌, ◌∙◌, ◌++◌, ℕ, Bool, true, false, cond, List, ◌∷◌, Option, Some, None, Result, Ok, Err, MatchResult, MatchBool, refl, sym, ap, subst, arith, ℤ, pos, negsuc, neg_ℤ, ◌+ℤ◌, ◌≤ℤ◌, int_lt, int_le, unsigned_abs}
use Rattle.std.proofs.lemmas.Int.{by_lt_z, ints}
use Rattle.std.proofs.lemmas.List.{append_assoc}
use Rattle.cal_base.specs.GregorianList.{gregorian_list}
use Rattle.cal_base.specs.IsoSystem.{iso_list, iso_system}
use Rattle.cal_base.specs.laws.GregorianLaws.{start_of_year-gregorian}
use Rattle.cal_days.proofs.RangeLemmas.{is_between-true}
use Rattle.cal_days.proofs.Signed.{signed}
use Rattle.cal_days.specs.Day.{IsBetween, IsValidDay, is_valid_day}
use Rattle.cal_days.specs.Division.{floor_div}
use Rattle.cal_days.specs.Gregorian.{gregorian_start, leap_days_through}
use Rattle.cal_types.proofs.ListLemmas.{date-in_year, start_of_year-later}
use Rattle.cal_types.proofs.RenumberedLemmas.{start_of_year-renumbered}
use Rattle.cal_types.specs.CalendarList.{Date, IsOn, start_of_year}
use Rattle.icu_calendar.specs.DateText.{FourDigits, HasForm, IsName, Minus, Plus, YearForm, annotation, two_digits, year_of, year_text}
use Rattle.date_calls.specs.Calls.{IsLeftWith}
use Rattle.date_calls.specs.Dates.{IsShown}
use Rattle.date_calls.specs.DayTexts.{IsTextOf, PutsText, TellsText, WritesText, allowed, behind_date, form_of, is_named, name_of_code, plain_text, text_name}
use Rattle.date_calls.specs.declared.dates.CalendarDate.{CalendarDate}

-- the list's years start where the Gregorian rule says
iso_start : (y : ℤ) → start_of_year iso_list y ≡ gregorian_start y
iso_start y =
    let same : y +ℤ pos 0 ≡ y = omega (arith, signed) in
    start_of_year-renumbered (pos 0) gregorian_list y ∙ (start_of_year-gregorian (y +ℤ pos 0) ∙ ap gregorian_start same)

first_start : gregorian_start (neg_ℤ (pos 999999)) ≡ neg_ℤ (pos 365242499)
unfolding gregorian_start leap_days_through floor_div
first_start = refl

start_past : gregorian_start (pos 1000000) ≡ pos 365242135
unfolding gregorian_start leap_days_through floor_div
start_past = refl

-- a valid day is in none of the years before, and in none of those after
not_before : (n : ℤ) (t : Date) → IsOn iso_list n t → IsValidDay n → neg_ℤ (pos 999999) ≤ℤ t.year
not_before n t on valid =
    by_lt_z {P = neg_ℤ (pos 999999) ≤ℤ t.year} t.year (neg_ℤ (pos 999999))
    (λ lt. let first = iso_start (neg_ℤ (pos 999999)) ∙ first_start in
    omega (arith, signed, first, start_of_year-later iso_list t.year (neg_ℤ (pos 999999)) lt, date-in_year iso_list t on.date, on.date.day, on.day, valid))
    (λ le. le)

not_after : (n : ℤ) (t : Date) → IsOn iso_list n t → IsValidDay n → t.year ≤ℤ pos 999999
not_after n t on valid =
    by_lt_z {P = t.year ≤ℤ pos 999999} t.year (pos 1000000)
    (λ lt. omega (arith, signed, lt))
    (λ le. let past = iso_start (pos 1000000) ∙ start_past in
    by_lt_z {P = t.year ≤ℤ pos 999999} (pos 1000000) t.year
    (λ lt. omega (arith, signed, past, start_of_year-later iso_list (pos 1000000) t.year lt, on.day, valid))
    (λ ge. let same : t.year ≡ pos 1000000 = omega (arith, signed, le, ge) in
    omega (arith, signed, past, ap (start_of_year iso_list) same, on.day, valid)))

pub iso_year : (n : ℤ) (t : Date) → IsOn iso_list n t → IsValidDay n → IsBetween (neg_ℤ (pos 999999)) (pos 999999) t.year
iso_year n t on valid = (not_before n t on valid, not_after n t on valid)

-- the number of a year has the form that the year is written in
abbrev IsFormed : ℤ → YearForm → Type 0
IsFormed y form = HasForm form (unsigned_abs y) × (y ≡ year_of form (unsigned_abs y))

by_size : (n : ℕ) → IsBetween (neg_ℤ (pos 999999)) (pos 999999) (pos n) → (b : Bool) → int_le (pos n) (pos 9999) ≡ b → IsFormed (pos n) (cond b FourDigits Plus)
by_size n h true small = (grind (arith, ints, small), refl)
by_size n h false large = (omega (arith, signed, h.1), refl)

formed : (y : ℤ) → IsBetween (neg_ℤ (pos 999999)) (pos 999999) y → IsFormed y (form_of y)
formed (pos n) h =
    let plus : int_lt (pos n) (pos 0) ≡ false = grind (arith, ints) in
    subst (IsFormed (pos n)) (sym (ap (λ b. cond b Minus (cond (int_le (pos n) (pos 9999)) FourDigits Plus)) plus))
    (by_size n h (int_le (pos n) (pos 9999)) refl)
formed (negsuc n) h = ((omega arith, omega (arith, signed, h.0)), refl)

ok-same : {A E : Type 0} (a b : A) (r : Result A E) → r ≡ Ok a → r ≡ Ok b → a ≡ b
ok-same a b r is e = cc

-- a name that is allowed is a name
named : (name : Option (List ℕ)) → is_named name ≡ true → IsName name
named None h = tt
named (Some name) h = h

name-allowed : (o : Option (Option (List ℕ))) (name : Option (List ℕ)) → allowed o ≡ Ok name → IsName name
name-allowed None name e = absurd cc
name-allowed (Some given) name e = by (is_named given) refl e
  where
    by : (b : Bool) → is_named given ≡ b → cond {A = Result (Option (List ℕ)) ℕ} b (Ok given) (Err 21) ≡ Ok name → IsName name
    by true is e = subst IsName (ok-same given name (Ok given) refl e) (named given is)
    by false is e = absurd cc

-- the text of a date
pub text-of : (n : ℤ) (parts : CalendarDate) (name : Option (List ℕ)) → IsValidDay n → IsShown iso_system n parts → IsName name → IsTextOf n name (plain_text parts.extended_year parts.ordinal_month parts.day ++ annotation false name)
text-of n parts name valid shown name_is =
    let t = shown.date in
    let f = formed t.year (iso_year n t shown.on valid) in
    let behind = 45 ∷ two_digits t.month ++ (45 ∷ two_digits t.day) in
    let parts_are : plain_text parts.extended_year parts.ordinal_month parts.day ≡ plain_text t.year t.month t.day =
    ap (λ y. plain_text y parts.ordinal_month parts.day) shown.says.extended_year
    ∙ ap (λ m. plain_text t.year m parts.day) shown.says.ordinal_month
    ∙ ap (plain_text t.year t.month) shown.says.day in
    record {
      date = t;
      on = shown.on;
      text = record {
        form = form_of t.year;
        number = unsigned_abs t.year;
        fits = f.0;
        year = f.1;
        exists = shown.on.date;
        critical = false;
        named = name_is;
        text =
            ap (λ s. s ++ annotation false name) parts_are
            ∙ append_assoc (year_text (form_of t.year) (unsigned_abs t.year)) behind (annotation false name);
      };
      form = refl;
      uncritical = refl;
    }

-- what is written of a valid day
pub writes : (calendar : ℕ) (day : ℤ) (behind : List ℕ) (parts : CalendarDate) (code written : ℕ) (before now : List ℕ) → Ok behind ≡ behind_date (text_name calendar) → true ≡ is_valid_day day → IsShown iso_system day parts → PutsText (plain_text parts.extended_year parts.ordinal_month parts.day ++ behind) code written before now → WritesText calendar day code written before now
writes calendar day behind parts code written before now marked valid shown puts = by (text_name calendar) refl marked
  where
    by : (r : Result (Option (List ℕ)) ℕ) → text_name calendar ≡ r → Ok behind ≡ behind_date r → MatchResult r (λ name. MatchBool (is_valid_day day) (TellsText day name code written before now) (IsLeftWith 4 code written before now)) (λ why. IsLeftWith why code written before now)
    by (Err why) is e = absurd cc
    by (Ok name) is e =
        let date = plain_text parts.extended_year parts.ordinal_month parts.day in
        let of = text-of day parts name (is_between-true (neg_ℤ (pos 365242499)) (pos 365242134) day (sym valid)) shown (name-allowed (name_of_code calendar) name is) in
        subst (λ b. MatchBool b (TellsText day name code written before now) (IsLeftWith 4 code written before now)) valid (record {
          text = date ++ behind;
          is = subst (λ s. IsTextOf day name (date ++ s)) (sym (ok-same behind (annotation false name) (Ok behind) refl e)) of;
          puts = puts;
        })
