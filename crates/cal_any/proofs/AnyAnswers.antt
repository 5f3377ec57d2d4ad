-- What the calendar that is held answers, any calendar answers.
use Rattle.std.proofs.Common.{◌≡◌, ℕ, Result, Ok, Err, sym, subst}
use Rattle.cal_types.specs.Bag.{Bag}
use Rattle.cal_types.specs.Month.{MonthParts}
use Rattle.cal_errors.specs.declared.errors.DateFromFieldsError.{DateFromFieldsError}
use Rattle.cal_errors.specs.declared.errors.DateNewError.{DateNewError}
use Rattle.cal_types.specs.declared.options.DateFromFieldsOptions.{DateFromFieldsOptions}
use Rattle.cal_types.specs.declared.year.YearInput.{YearInput}
use Rattle.cal_types.specs.CalendarList.{Date}
use Rattle.cal_types.specs.CalendarSystem.{resolve_fields}
use Rattle.cal_types.specs.Constructing.{made_date}
use Rattle.cal_any.specs.AnySystem.{any_system, any_date}
use Rattle.cal_any.specs.declared.any_calendar.AnyCalendar.{AnyCalendar}
use Rattle.cal_any.specs.declared.any_calendar.AnyDateInner.{AnyDateInner}

abbrev Resolves : AnyCalendar → Bag → DateFromFieldsOptions → Result Date DateFromFieldsError → Type 0
Resolves c bag options answer = answer ≡ resolve_fields (any_system c) bag options

pub resolved_date : (c held : AnyCalendar) (d : AnyDateInner) (bag : Bag) (options : DateFromFieldsOptions) → c ≡ held → Resolves held bag options (Ok (any_date held d)) → Resolves c bag options (Ok (any_date c d))
resolved_date c held d bag options is h = subst (λ (s : AnyCalendar). Resolves s bag options (Ok (any_date s d))) (sym is) h

pub refused_fields : (c held : AnyCalendar) (cause : DateFromFieldsError) (bag : Bag) (options : DateFromFieldsOptions) → c ≡ held → Resolves held bag options (Err cause) → Resolves c bag options (Err cause)
refused_fields c held cause bag options is h = subst (λ (s : AnyCalendar). Resolves s bag options (Err cause)) (sym is) h

abbrev Makes : AnyCalendar → YearInput → MonthParts → ℕ → Result Date DateNewError → Type 0
Makes c year month day answer = answer ≡ made_date (any_system c).list (any_system c).year_names year month day

pub made : (c held : AnyCalendar) (d : AnyDateInner) (year : YearInput) (month : MonthParts) (day : ℕ) → c ≡ held → Makes held year month day (Ok (any_date held d)) → Makes c year month day (Ok (any_date c d))
made c held d year month day is h = subst (λ (s : AnyCalendar). Makes s year month day (Ok (any_date s d))) (sym is) h
