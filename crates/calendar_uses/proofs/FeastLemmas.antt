-- The day of a date that was read from a text, and the year of a date.
use Rattle.std.proofs.Common.{◌≡◌, ℕ, List, Option, Some, None, Result, Ok, Err, refl, sym, ap, ◌∙◌, ℤ, pos}
use Rattle.std.specs.Prelude.{IsTrue, is_ok}
use Rattle.icu_calendar.specs.Day.{IsFieldYear}
use Rattle.icu_calendar.specs.Year.{extended_year_of}
use Rattle.icu_calendar.specs.declared.YearInfo.{YearInfo}
use Rattle.icu_calendar.specs.declared.GregorianDateInner.{GregorianDateInner}
use Rattle.icu_calendar.specs.CommonEraLaws.{common_era-named}
use Rattle.icu_calendar.specs.GregorianSystem.{gregorian_belongs, gregorian_date, gregorian_system}
use Rattle.icu_calendar.specs.OffsetListLaws.{offset_list-ranged, true-offset}
use Rattle.icu_calendar.specs.OffsetSystemLaws.{kept-dated}
use Rattle.icu_calendar.specs.declared.CalendarAlgorithm.{CalendarAlgorithm}
use Rattle.icu_calendar.specs.CalendarList.{CalendarList, Date, day_number}
use Rattle.icu_calendar.specs.IsoSystem.{iso_list}
use Rattle.icu_calendar.specs.RangeParts.{RangeParts}
use Rattle.icu_calendar.specs.RecordDates.{IsShownIn, ParseFault, calendar_fault, dated, numbered_date, recorded}
use Rattle.icu_calendar.proofs.RecordLemmas.{numbered-exists, numbered-ok}

-- numbers that are a date are that date
same_numbers : (iso t : Date) → numbered_date iso ≡ Ok t → t ≡ iso
same_numbers iso t e =
    let there = numbered-exists iso (ap is_ok e) in
    let same : Ok t ≡ Ok iso = sym e ∙ numbered-ok iso there.year there.date in
    cc

shown : (c : CalendarList) (iso t : Date) (fault : Option ParseFault) (answer : Result Date RangeParts)
    → numbered_date iso ≡ answer → IsShownIn c (dated fault answer) (Ok t) → day_number c t ≡ day_number iso_list iso
shown c iso t (Some fault) answer e h = absurd h
shown c iso t None (Ok s) e h = h.day ∙ ap (day_number iso_list) (same_numbers iso s e)
shown c iso t None (Err e') e h = absurd h

-- the date of a text's numbers in another calendar has their day number
pub shown-day : (c : CalendarList) (algorithm : Option CalendarAlgorithm) (iso : Date) (name : Option (List ℕ)) (t : Date)
    → IsShownIn c (recorded algorithm (Some iso) name) (Ok t) → day_number c t ≡ day_number iso_list iso
shown-day c algorithm iso name t h = shown c iso t (calendar_fault algorithm name) (numbered_date iso) refl h

-- the extended year of a Gregorian date, and its range
pub named-year : (info : YearInfo) (t : Date) (y : ℤ) → y ≡ extended_year_of info → info ≡ gregorian_system.year_info t → y ≡ t.year
named-year info t y e h = e ∙ (ap extended_year_of h ∙ common_era-named t)

pub small-year : (d : GregorianDateInner) → IsTrue (gregorian_belongs d) → IsFieldYear (gregorian_date d).year
small-year d h = offset_list-ranged (pos 0) (true-offset (pos 0) refl) (gregorian_date d) (kept-dated (pos 0) d.0.parts h)
