-- The dates that records stand for, and why a record or a text stands for none.
-- Source: `Date::try_from_ixdtf_record` of icu_calendar; a record's numbers are tested, not trusted.
use Rattle.std.specs.Prelude.{◌≡◌, ℕ, List, Option, Some, None, Result, Ok, Err, codes, if◌then◌else◌, pos, neg_ℤ}
use Rattle.std.specs.Option.{option_map}
use Rattle.std.specs.Str.{bytes_eq}
use Rattle.cal_days.specs.Day.{is_between}
use Rattle.cal_errors.specs.declared.algorithm.CalendarAlgorithm.{CalendarAlgorithm}
use Rattle.cal_errors.specs.Algorithm.{algorithm_name, algorithm_named}
use Rattle.cal_errors.specs.RangeParts.{RangeParts, range_parts}
use Rattle.cal_types.specs.Placing.{out_of_range, placed_in_year}
use Rattle.cal_types.specs.CalendarList.{CalendarList, Date, IsOn, date, day_number}
use Rattle.cal_base.specs.IsoSystem.{iso_list}
use Rattle.cal_errors.specs.declared.parse_error.ParseError.{ParseError}
use Rattle.cal_errors.specs.declared.parse_error.ParseError.TheVariants as error
use Rattle.icu_calendar.specs.declared.ixdtf_record.DateRecord.{DateRecord}
use Rattle.icu_calendar.specs.declared.ixdtf_record.IxdtfRecord.{IxdtfRecord}
use Rattle.icu_calendar.specs.DateText.{IsDateText}

-- the numbers of a year, a month and a day, and a calendar's name, where they are there
pub record RecordParts : Type 0 where
  pub date : Option Date
  pub calendar : Option (List ℕ)

abbrev pub date_numbers : DateRecord → Date
date_numbers d = date d.year d.month d.day

abbrev pub record_parts : IxdtfRecord → RecordParts
record_parts r = record { date = option_map date_numbers r.date; calendar = option_map (λ name. name.now) r.calendar }

-- why there is no date: the text isn't of the form; there are no numbers; no calendar has the name;
-- the name is another calendar's; or a number is out of its range
pub data ParseFault : Type 0 where
  NotOfForm : ParseFault
  NoNumbers : ParseFault
  NoCalendar : ParseFault
  OtherCalendar : CalendarAlgorithm → CalendarAlgorithm → ParseFault
  NumberOutOfRange : RangeParts → ParseFault

abbrev pub parse_fault : ParseError → ParseFault
parse_fault error.Syntax = NotOfForm
parse_fault error.MissingFields = NoNumbers
parse_fault error.UnknownCalendar = NoCalendar
parse_fault (error.MismatchedCalendar expected found) = OtherCalendar expected found
parse_fault (error.Range e) = NumberOutOfRange (range_parts e)

-- the ISO date of the numbers, in the order of the tests: the year, the month, and the day
unfoldable pub numbered_date : Date → Result Date RangeParts
numbered_date t =
    if is_between (neg_ℤ (pos 999999)) (pos 999999) t.year then placed_in_year iso_list t.year t.month t.day
    else Err (out_of_range (codes "year") t.year (neg_ℤ (pos 999999)) (pos 999999))

-- a name that isn't the calendar's own
abbrev pub other_name : CalendarAlgorithm → Option CalendarAlgorithm → ParseFault
other_name expected None = NoCalendar
other_name expected (Some found) = OtherCalendar expected found

-- a name is tested only where the calendar has one
abbrev pub calendar_fault : Option CalendarAlgorithm → Option (List ℕ) → Option ParseFault
calendar_fault None name = None
calendar_fault (Some expected) None = None
calendar_fault (Some expected) (Some name) =
    if bytes_eq name (algorithm_name expected) then None else Some (other_name expected (algorithm_named name))

-- the date of the numbers, where the calendar isn't at fault
abbrev pub dated : Option ParseFault → Result Date RangeParts → Result Date ParseFault
dated (Some fault) answer = Err fault
dated None (Ok t) = Ok t
dated None (Err e) = Err (NumberOutOfRange e)

-- the ISO date of a record, for a calendar with this algorithm
abbrev pub recorded : Option CalendarAlgorithm → Option Date → Option (List ℕ) → Result Date ParseFault
recorded algorithm None name = Err NoNumbers
recorded algorithm (Some t) name = dated (calendar_fault algorithm name) (numbered_date t)

abbrev pub record_date : Option CalendarAlgorithm → RecordParts → Result Date ParseFault
record_date algorithm r = recorded algorithm r.date r.calendar

-- the date of the same day number in a calendar's list, or the same fault
abbrev pub IsShownIn : CalendarList → Result Date ParseFault → Result Date ParseFault → Type 0
IsShownIn c (Ok iso) (Ok t) = IsOn c (day_number iso_list iso) t
IsShownIn c (Ok iso) (Err e) = ⊥
IsShownIn c (Err e) (Ok t) = ⊥
IsShownIn c (Err e) (Err f) = e ≡ f

-- what a text is answered with: a text of the form as its record, and any other as one that isn't of the form
pub record AnswersText (c : CalendarList) (algorithm : Option CalendarAlgorithm) (bytes : List ℕ)
    (answer : Result Date ParseFault) : Type 0 where
  pub read : (t : Date) (name : Option (List ℕ)) → IsDateText bytes t name
      → IsShownIn c (recorded algorithm (Some t) name) answer
  pub refused : ((t : Date) (name : Option (List ℕ)) → IsDateText bytes t name → ⊥) → answer ≡ Err NotOfForm
