-- Texts of dates: a text of the form is read, and what is read is of the form.
use Rattle.std.proofs.Common.{◌≡◌, ℕ, ◌<◌, ◌++◌, Bool, true, false, cond, List, ◌∷◌, Option, Some, None, Result, Err, refl, sym, ap, ◌∙◌, subst, arith, ℤ, pos}
use Rattle.std.specs.Prelude.{is_ok}
use Rattle.std.specs.Option.{option_map, option_and_then}
use Rattle.cal_errors.specs.declared.algorithm.CalendarAlgorithm.{CalendarAlgorithm}
use Rattle.cal_types.specs.CalendarList.{CalendarList, Date, IsDate, date}
use Rattle.cal_base.specs.IsoSystem.{iso_list}
use Rattle.cal_base.specs.laws.OffsetListLaws.{offset_list-lawful}
use Rattle.icu_calendar.specs.DateText.{two_digits, year_text, annotation, IsDateText}
use Rattle.icu_calendar.specs.RecordDates.{RecordParts, ParseFault, NotOfForm, AnswersText, IsShownIn, numbered_date, record_date}
use Rattle.icu_calendar.specs.DateTextReading.{Read, year_read, part_read, existing, date_read, annotation_read, text_read}
use Rattle.icu_calendar.proofs.OptionLemmas.{and_then-inverts, map-inverts, some_pair}
use Rattle.icu_calendar.proofs.NumberLemmas.{YearWritten, year-written, year-read, part-written, part-read, year_of-range}
use Rattle.icu_calendar.proofs.NameLemmas.{annotation-written, annotation-read}
use Rattle.icu_calendar.proofs.RecordLemmas.{numbered-ok, numbered-exists}

-- months and days have two digits
small_month : (t : Date) → IsDate iso_list t → t.month < 100
small_month t h = omega (arith, h.place, (offset_list-lawful (pos 0)).count t.year)

small_day : (t : Date) → IsDate iso_list t → t.day < 100
small_day t h = omega (arith, h.day, (offset_list-lawful (pos 0)).lengths t.year t.month h.place)

-- a text of the form has one record
pub text-written : (bytes : List ℕ) (t : Date) (name : Option (List ℕ)) → IsDateText bytes t name → text_read bytes ≡ Some (record { date = Some t; calendar = name })
unfolding text_read date_read
text-written bytes t name h =
    let end = annotation h.critical name in
    let after_month = 45 ∷ two_digits t.day ++ end in
    let after_year = 45 ∷ two_digits t.month ++ after_month in
    let year : year_read (year_text h.form h.number ++ after_year) ≡ Some (t.year, after_year) = year-written h.form h.number after_year h.fits ∙ ap (λ (y : ℤ). Some (y, after_year)) (sym h.year) in
    let month = part-written t.month after_month (small_month t h.exists) in
    let day = part-written t.day end (small_day t h.exists) in
    let found = numbered-ok t (rw h.year (year_of-range h.form h.number h.fits)) h.exists in
    let named = annotation-written h.critical name h.named in
    rw (h.text, year, month, day, found, named) refl

-- a date that was read
record DateWritten (text : List ℕ) (t : Date) (rest : List ℕ) : Type 0 where
  year : YearWritten text t.year (45 ∷ two_digits t.month ++ (45 ∷ two_digits t.day ++ rest))
  exists : IsDate iso_list t

existing-read : (t u : Date) (s rest : List ℕ) → existing t s ≡ Some (u, rest) → (t ≡ u) × (s ≡ rest) × IsDate iso_list t
existing-read t u s rest e = by (is_ok (numbered_date t)) refl e
  where
    by : (b : Bool) → is_ok (numbered_date t) ≡ b → cond {A = Read Date} b (Some (t, s)) None ≡ Some (u, rest) → (t ≡ u) × (s ≡ rest) × IsDate iso_list t
    by false is e = absurd cc
    by true is e = let parts = some_pair t u s rest e in (parts.0, parts.1, (numbered-exists t is).date)

date-read : (text rest : List ℕ) (t : Date) → date_read text ≡ Some (t, rest) → DateWritten text t rest
unfolding date_read
date-read text rest t e =
    let year = and_then-inverts (λ y. option_and_then (λ m. option_and_then (λ d. existing (date y.0 m.0 d.0) d.1) (part_read m.1)) (part_read y.1)) (year_read text) (t, rest) e in
    let y = year.0 in
    let month = and_then-inverts (λ m. option_and_then (λ d. existing (date y.0 m.0 d.0) d.1) (part_read m.1)) (part_read y.1) (t, rest) year.2 in
    let m = month.0 in
    let day = and_then-inverts (λ d. existing (date y.0 m.0 d.0) d.1) (part_read m.1) (t, rest) month.2 in
    let d = day.0 in
    let there = existing-read (date y.0 m.0 d.0) t d.1 rest day.2 in
    let month_text = (part-read y.1 m.1 m.0 month.1).0 in
    let day_text = (part-read m.1 d.1 d.0 day.1).0 in
    let rests : y.1 ≡ 45 ∷ two_digits m.0 ++ (45 ∷ two_digits d.0 ++ rest) = month_text ∙ ap (λ (s : List ℕ). 45 ∷ two_digits m.0 ++ s) (day_text ∙ ap (λ (s : List ℕ). 45 ∷ two_digits d.0 ++ s) there.1) in
    let written = subst (λ (s : List ℕ). YearWritten text y.0 s) rests (year-read text y.1 y.0 year.1) in
    subst (λ (u : Date). DateWritten text u rest) there.0 (record { year = written; exists = there.2 })

-- a record that was read has a date, and the text is of the form
pub record TextRead (bytes : List ℕ) (r : RecordParts) : Type 0 where
  pub date : Date
  pub name : Option (List ℕ)
  pub is : r ≡ record { date = Some date; calendar = name }
  pub text : IsDateText bytes date name

pub text-read : (bytes : List ℕ) (r : RecordParts) → text_read bytes ≡ Some r → TextRead bytes r
unfolding text_read
text-read bytes r e =
    let front = and_then-inverts (λ t. option_map (λ name. record { date = Some t.0; calendar = name }) (annotation_read t.1)) (date_read bytes) r e in
    let t = front.0.0 in
    let rest = front.0.1 in
    let back = map-inverts (λ name. record { date = Some t; calendar = name }) (annotation_read rest) r front.2 in
    let written = date-read bytes rest t front.1 in
    let named = annotation-read rest back.0 back.1 in
    record {
      date = t;
      name = back.0;
      is = sym back.2;
      text = record {
        form = written.year.form;
        number = written.year.number;
        fits = written.year.fits;
        year = written.year.year;
        exists = written.exists;
        critical = named.0;
        named = named.1;
        text = written.year.written ∙ ap (λ (s : List ℕ). year_text written.year.form written.year.number ++ (45 ∷ two_digits t.month ++ (45 ∷ two_digits t.day ++ s))) named.2;
      };
    }

-- the answer to a text that was read, and to one that wasn't
pub answers-read : (c : CalendarList) (algorithm : Option CalendarAlgorithm) (bytes : List ℕ) (r : RecordParts) (answer : Result Date ParseFault) → text_read bytes ≡ Some r → IsShownIn c (record_date algorithm r) answer → AnswersText c algorithm bytes answer
answers-read c algorithm bytes r answer e shown =
    let of_text = text-read bytes r e in
    record {
      read = λ t name h.
          let same : ◌≡◌ {A = Option RecordParts} (Some r) (Some (record { date = Some t; calendar = name })) = sym e ∙ text-written bytes t name h in
          let is : r ≡ record { date = Some t; calendar = name } = cc in
          subst (λ (p : RecordParts). IsShownIn c (record_date algorithm p) answer) is shown;
      refused = λ none. absurd (none of_text.date of_text.name of_text.text);
    }

pub answers-not_read : (c : CalendarList) (algorithm : Option CalendarAlgorithm) (bytes : List ℕ) → text_read bytes ≡ None → AnswersText c algorithm bytes (Err NotOfForm)
answers-not_read c algorithm bytes e = record {
  read = λ t name h. let never : ◌≡◌ {A = Option RecordParts} None (Some (record { date = Some t; calendar = name })) = sym e ∙ text-written bytes t name h in absurd cc;
  refused = λ none. refl;
}
