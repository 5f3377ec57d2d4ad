-- A text that is written of a day is read as the day and its calendar.
use Rattle.std.specs.Prelude.{◌≡◌, ℕ, ℤ, pos, neg_ℤ, zero, suc, ◌+◌, ⊤, List, [], ◌∷◌, Option, Some, None, Result, Ok, Err, MatchResult}
use Rattle.std.specs.List.{slice_get}
use Rattle.std.proofs.Common.{◌∙◌, refl, sym, ap, subst, arith}
use Rattle.cal_base.specs.IsoSystem.{iso_list}
use Rattle.cal_julian.specs.JulianList.{julian_list}
use Rattle.cal_types.specs.CalendarList.{Date, day_number}
use Rattle.icu_calendar.proofs.NumberLemmas.{year_of-range}
use Rattle.icu_calendar.proofs.RecordLemmas.{numbered-ok}
use Rattle.icu_calendar.specs.DateText.{IsDateText}
use Rattle.icu_calendar.specs.RecordDates.{IsShownIn, ParseFault, dated}
use Rattle.cal_days.specs.Day.{IsBetween}
use Rattle.date_calls.specs.DayTexts.{IsTextOf, allowed, text_name, text_names}
use Rattle.date_calls.specs.Texts.{IsDayIn, IsTextTold, ReadsText, code_of_name}

-- a name that is written for a code is read as the code
abbrev IsReadAs : ℕ → Result (Option (List ℕ)) ℕ → Type 0
IsReadAs code (Ok name) = code_of_name name ≡ Some code
IsReadAs code (Err why) = ⊤

-- the names from a code on are each read as their code
abbrev AreRead : ℕ → List (Option (List ℕ)) → Type 0
AreRead code [] = ⊤
AreRead code (name ∷ names) = IsReadAs code (allowed (Some name)) × AreRead (suc code) names

names_read : AreRead 0 text_names
names_read = (refl, (refl, (refl, (refl, (refl, (refl, (refl, (refl, (refl, (refl, (tt, (refl, (refl, (refl, (refl, (refl, (refl, (refl, (refl, (refl, tt))))))))))))))))))))

one_read : (first place : ℕ) (names : List (Option (List ℕ))) → AreRead first names → IsReadAs (first + place) (allowed (slice_get names place))
one_read first place [] h = tt
one_read first zero (name ∷ names) h = subst (λ code. IsReadAs code (allowed (Some name))) (omega arith) h.0
one_read first (suc place) (name ∷ names) h = subst (λ code. IsReadAs code (allowed (slice_get names place))) (omega arith) (one_read (suc first) place names h.1)

name-read : (code : ℕ) (name : Option (List ℕ)) → text_name code ≡ Ok name → code_of_name name ≡ Some code
name-read code name is =
    let read : IsReadAs code (text_name code) = subst (λ k. IsReadAs k (text_name code)) (omega arith) (one_read 0 code text_names names_read) in
    subst (IsReadAs code) is read

-- the day of the text
shown-day : (t : Date) (name : Option (List ℕ)) (answer : Result Date ParseFault) (found : Option ℤ) → IsShownIn julian_list (Ok t) answer → MatchResult answer (λ u. found ≡ Some (day_number julian_list u)) (λ _. found ≡ None) → found ≡ Some (day_number iso_list t)
shown-day t name (Ok u) found shown is = is ∙ ap Some shown.day
shown-day t name (Err e) found shown is = absurd shown

day-read : (bytes : List ℕ) (t : Date) (name : Option (List ℕ)) (found : Option ℤ) → IsDateText bytes t name → IsDayIn bytes found → found ≡ Some (day_number iso_list t)
day-read bytes t name found text h =
    let year = subst (IsBetween (neg_ℤ (pos 999999)) (pos 999999)) (sym text.year) (year_of-range text.form text.number text.fits) in
    let shown = subst (λ r. IsShownIn julian_list (dated None r) h.answer) (numbered-ok t year text.exists) (h.answers.read t name text) in
    shown-day t name h.answer found shown h.is

-- what is read where there are both
both-told : (code : ℕ) (day : ℤ) (found : Option ℤ) (named : Option ℕ) (told calendar_before calendar : ℕ) (day_before day_now : ℤ) → found ≡ Some day → named ≡ Some code → IsTextTold found named told calendar_before calendar day_before day_now → (told ≡ 0) × (calendar ≡ code) × (day_now ≡ day)
both-told code day found named told calendar_before calendar day_before day_now is_day is_code h =
    subst (λ n. IsTextTold (Some day) n told calendar_before calendar day_before day_now) is_code
    (subst (λ d. IsTextTold d named told calendar_before calendar day_before day_now) is_day h)

pub read-back : (code : ℕ) (day : ℤ) (name : Option (List ℕ)) (bytes : List ℕ) (told calendar_before calendar : ℕ) (day_before day_now : ℤ) → text_name code ≡ Ok name → IsTextOf day name bytes → ReadsText bytes told calendar_before calendar day_before day_now → (told ≡ 0) × (calendar ≡ code) × (day_now ≡ day)
read-back code day name bytes told calendar_before calendar day_before day_now is text h =
    let found = day-read bytes text.date name h.found text.text h.day_in ∙ ap Some text.on.day in
    let named = h.calendar_in.is ∙ ap code_of_name (h.calendar_in.named text.date name text.text) ∙ name-read code name is in
    both-told code day h.found h.named told calendar_before calendar day_before day_now found named h.told
