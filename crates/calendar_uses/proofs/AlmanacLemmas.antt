-- A Chinese new year over the tables of rows.
use Rattle.std.proofs.Common.{◌≡◌, ℕ, ℤ, true, List, Result, Ok, Err, sym, ap, subst, ◌∙◌}
use Rattle.icu_calendar.specs.CalendarList.{Date, day_number}
use Rattle.icu_calendar.specs.CalendarSystem.{CalendarSystem}
use Rattle.icu_calendar.specs.Constructing.{made_date}
use Rattle.icu_calendar.specs.IsoSystem.{iso_list}
use Rattle.icu_calendar.specs.Kinds.{TableContents, kind_system}
use Rattle.icu_calendar.specs.Month.{MonthParts, plain_month}
use Rattle.icu_calendar.specs.OwnRows.{TableRows, AreAccepted, AreRows, contents_of, lines_in}
use Rattle.icu_calendar.specs.Placing.{lunisolar_answer}
use Rattle.icu_calendar.specs.declared.AnyCalendarKind.TheVariants.{Chinese}
use Rattle.icu_calendar.specs.declared.DateNewError.{DateNewError}
use Rattle.icu_calendar.specs.declared.YearInput.TheVariants.{Extended}
use Rattle.calendar_uses.specs.Almanac.{IsNewYearByRows, chinese_by}

-- a lunisolar constructor's date is the date that is made
answered : (r : Result Date DateNewError) (t : Date) → lunisolar_answer r ≡ Ok t → r ≡ Ok t
answered (Ok u) t e = cc
answered (Err f) t e = cc

pub new_year-by_rows : (text : List ℕ) (asked year : ℤ) (iso first : Date) (rows : TableRows) (contents : TableContents) (s : CalendarSystem) (month : MonthParts)
    → AreRows (lines_in text true) rows → AreAccepted rows → contents ≡ contents_of rows → s ≡ kind_system contents Chinese → month ≡ plain_month 1 → asked ≡ year
    → Ok first ≡ lunisolar_answer (made_date s.list s.year_names (Extended asked) month 1) → day_number iso_list iso ≡ day_number s.list first → IsNewYearByRows text year iso
new_year-by_rows text asked year iso first rows contents s month gives accepted same system named given made day =
    let over : s ≡ chinese_by rows = system ∙ ap (λ (c : TableContents). kind_system c Chinese) same in
    let in_asked : made_date s.list s.year_names (Extended asked) (plain_month 1) 1 ≡ Ok first =
    subst (λ (m : MonthParts). made_date s.list s.year_names (Extended asked) m 1 ≡ Ok first) named (answered _ first (sym made)) in
    let there : made_date s.list s.year_names (Extended year) (plain_month 1) 1 ≡ Ok first =
    subst (λ (y : ℤ). made_date s.list s.year_names (Extended y) (plain_month 1) 1 ≡ Ok first) given in_asked in
    record {
      rows = rows;
      gives = gives;
      accepted = accepted;
      first = first;
      made = subst (λ (k : CalendarSystem). made_date k.list k.year_names (Extended year) (plain_month 1) 1 ≡ Ok first) over there;
      same_day = subst (λ (k : CalendarSystem). day_number iso_list iso ≡ day_number k.list first) over day;
    }
