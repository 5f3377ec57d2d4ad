-- The requests that a number asks for, and the line that sums up their answers.
use Rattle.std.specs.Prelude.{◌≡◌, ℕ, zero, suc, ◌+◌, ◌*◌, ◌/◌, ◌%◌, List, [], ◌∷◌, ◌++◌, Option, Some, None, Result, Ok, Err, codes, slice_index_or, if◌then◌else◌, nat_eq, ℤ, pos, ◌+ℤ◌, ◌-ℤ◌}
use Rattle.std.specs.Fmt.{decimal, signed_decimal}
use Rattle.cal_types.specs.Bag.{Bag}
use Rattle.cal_types.specs.declared.options.Overflow.TheVariants.{Constrain, Reject}
use Rattle.cal_types.specs.declared.options.MissingFieldsStrategy.TheVariants as missing
use Rattle.cal_types.specs.declared.duration.DateDuration.{DateDuration}
use Rattle.cal_types.specs.declared.duration.DateDurationUnit.{DateDurationUnit}
use Rattle.cal_types.specs.declared.duration.DateDurationUnit.TheVariants.{Years, Months, Weeks, Days}
use Rattle.cal_types.specs.CalendarList.{day_number}
use Rattle.cal_types.specs.CalendarSystem.{CalendarSystem}
use Rattle.cal_types.specs.Difference.{largest_unit_of}
use Rattle.cal_types.specs.Spans.{SpanDates, IsSpan}
use Rattle.cal_types.specs.declared.span_error.SpanError.{SpanError}
use Rattle.cal_tables.specs.Kinds.{kind_system, no_contents}
use Rattle.calspan_run.specs.Replies.{options_of}
use Rattle.request_lines.specs.Requests.{Request}
use Rattle.cal_kinds.specs.declared.any_calendar_kind.AnyCalendarKind.{AnyCalendarKind}
use Rattle.cal_kinds.specs.declared.any_calendar_kind.AnyCalendarKind.TheVariants as calendar
use Rattle.calspan_run.specs.declared.generated.totals.Totals.{Totals}

-- the calendars in the order of their program names, but for `ethiopic`, which stands before `ethioaa`
abbrev pub calendars : List AnyCalendarKind
calendars =
    calendar.Buddhist ∷ calendar.Chinese ∷ calendar.Coptic ∷ calendar.Dangi ∷ calendar.Ethiopian
    ∷ calendar.EthiopianAmeteAlem ∷ calendar.Gregorian ∷ calendar.Hebrew ∷ calendar.Indian
    ∷ calendar.HijriTabularTypeIIFriday ∷ calendar.HijriSimulatedMecca ∷ calendar.HijriTabularTypeIIThursday
    ∷ calendar.HijriUmmAlQura ∷ calendar.Iso ∷ calendar.Japanese ∷ calendar.Julian ∷ calendar.Persian
    ∷ calendar.Roc ∷ []

abbrev pub calendar_of : ℕ → AnyCalendarKind
calendar_of n = slice_index_or calendars n calendar.Roc

-- the largest units in turn, and none
abbrev pub unit_of : ℕ → Option DateDurationUnit
unit_of n = slice_index_or (Some Years ∷ Some Months ∷ Some Weeks ∷ Some Days ∷ []) n None

-- an extended year, an ordinal month and a day
abbrev pub generated_bag : ℤ → ℕ → ℕ → Bag
generated_bag y ordinal d = record {
  era = None;
  era_year = None;
  extended_year = Some y;
  month = None;
  month_code = None;
  ordinal_month = Some ordinal;
  day = Some d;
}

-- the year of a number, from -2000 to 2000
abbrev pub near_year : ℕ → ℤ
near_year n = pos (n % 4001) -ℤ pos 2000

-- the request of index i
abbrev pub generated_request : ℕ → Request
generated_request i = record {
  calendar = calendar_of (i % 18);
  shown = calendar_of ((i + i / 18) % 18);
  unit = unit_of (i % 5);
  overflow = Some (if nat_eq (i % 2) 0 then Constrain else Reject);
  missing_fields = Some missing.Reject;
  from = generated_bag (near_year (48271 * i + 11)) (i % 14) (7 * i % 32);
  to = generated_bag (near_year (69621 * i + 7)) ((i + 5) % 14) ((11 * i + 3) % 32);
}

abbrev pub no_totals : Totals
no_totals = record { answered = 0; refused = 0; day_numbers = pos 0; years = 0; months = 0; weeks = 0; days = 0 }

-- the totals with the dates of one more answer, by their day numbers, and its duration
abbrev pub with_span : Totals → ℤ → ℤ → DateDuration → Totals
with_span t from to d = record {
  answered = t.answered + 1;
  refused = t.refused;
  day_numbers = t.day_numbers +ℤ from +ℤ to;
  years = t.years + d.years;
  months = t.months + d.months;
  weeks = t.weeks + d.weeks;
  days = t.days + d.days;
}

-- the totals with one more refusal
abbrev pub with_refusal : Totals → Totals
with_refusal t = record {
  answered = t.answered;
  refused = t.refused + 1;
  day_numbers = t.day_numbers;
  years = t.years;
  months = t.months;
  weeks = t.weeks;
  days = t.days;
}

-- the totals with the answer to one more request in a calendar
abbrev pub with_answer : Totals → CalendarSystem → Result SpanDates SpanError → Totals
with_answer t c (Ok s) = with_span t (day_number c.list s.from) (day_number c.list s.to) s.duration
with_answer t c (Err e) = with_refusal t

-- the totals with one more request, in calendars without rows of tables
pub record IsCounted (r : Request) (before after : Totals) : Type 0 where
  pub answer : Result SpanDates SpanError
  pub span : IsSpan (kind_system no_contents r.calendar) (kind_system no_contents r.shown).list r.from r.to
      (options_of r) (largest_unit_of r.unit) answer
  pub counts : after ≡ with_answer before (kind_system no_contents r.calendar) answer

-- the totals over the first n requests
abbrev pub AreTotals : ℕ → Totals → Type 0
AreTotals zero t = t ≡ no_totals
AreTotals (suc n) t = (before : Totals) × AreTotals n before × IsCounted (generated_request n) before t

-- ` parts Y M W D`
abbrev pub parts_text : Totals → List ℕ
parts_text t =
    codes " parts " ++ decimal t.years ++ 32 ∷ decimal t.months ++ 32 ∷ decimal t.weeks ++ 32 ∷ decimal t.days

-- `gen N ok K err E sum S parts Y M W D`
abbrev pub totals_text : ℕ → Totals → List ℕ
totals_text n t =
    codes "gen " ++ decimal n ++ codes " ok " ++ decimal t.answered ++ codes " err " ++ decimal t.refused
    ++ codes " sum " ++ signed_decimal t.day_numbers ++ parts_text t ++ 10 ∷ []

-- the line of a number
abbrev pub IsGenerated : ℕ → List ℕ → Type 0
IsGenerated n text = (t : Totals) × AreTotals n t × (text ≡ totals_text n t)
