-- Laws of what commands write.
use Rattle.std.specs.Prelude.{◌≡◌, ℕ, ◌≤ℤ◌, Bool, true, false, List, ◌++◌, Ok}
use Rattle.byte_io.specs.Bytes.{IsPrefix}
use Rattle.cal_anniversary.specs.FallingOn.{AreAnniversaries}
use Rattle.cal_holidays.specs.BookNames.{holidays_in}
use Rattle.cal_holidays.specs.NamedDays.{AreHolidays}
use Rattle.cal_holidays.specs.Rules.{NamedRule}
use Rattle.cal_recur.specs.Listing.{AreOccurrences, occurrences}
use Rattle.cal_recur.specs.declared.rule.Rule.{Rule}
use Rattle.cal_tables.specs.Kinds.{TableContents, kind_system}
use Rattle.cal_types.specs.Anniversary.{anniversaries_between}
use Rattle.cal_types.specs.CalendarList.{Date}
use Rattle.cal_types.specs.CalendarSystem.{resolve_fields}
use Rattle.table_rows.specs.TableRows.{TableRows, AreAccepted, contents_of}
use Rattle.calspan_run.specs.Generator.{IsGenerated}
use Rattle.command_line.specs.Asked.{AnniversaryAsked, HolidaysAsked, RecurAsked}
use Rattle.command_line.specs.ConvertAsked.{ConvertAsked}
use Rattle.calspan_run.specs.ConvertEnds.{ConvertEnds}
use Rattle.calspan_run.specs.HolidayRuns.{HolidayEnds}
use Rattle.calspan_run.specs.ListEnds.{ListEnds}
use Rattle.calspan_run.specs.Recurrences.{no_options}
use Rattle.calspan_run.specs.Rules.{holiday_rules, list_rules}
use Rattle.calspan_run.specs.Run.{Outside}
use Rattle.calspan_run.specs.Serving.{Rules, Serves}
use Rattle.calspan_run.specs.Streaming.{Streams, convert_rules}
use Rattle.calspan_run.specs.declared.status.Status.{Status}

-- to every input, and to what has come of one, a text and a status
abbrev pub EveryInputHas : (List ℕ → Bool → List ℕ → Status → Type 0) → Type 0
EveryInputHas Says =
    (bytes : List ℕ) (whole : Bool) → (text : List ℕ) × (status : Status) × Says bytes whole text status

-- to no input two texts or two statuses
abbrev pub IsUnique : (List ℕ → Bool → List ℕ → Status → Type 0) → Type 0
IsUnique Says =
    (bytes : List ℕ) (whole : Bool) (a b : List ℕ) (s t : Status) → Says bytes whole a s → Says bytes whole b t
    → (a ≡ b) × (s ≡ t)

-- the text for what has come of an input is a prefix of the text for what comes of it later
abbrev pub PrefixesHavePrefixes : (List ℕ → Bool → List ℕ → Status → Type 0) → Type 0
PrefixesHavePrefixes Says =
    (bytes more : List ℕ) (whole : Bool) (a b : List ℕ) (s t : Status) → Says bytes false a s
    → Says (bytes ++ more) whole b t → IsPrefix a b

-- what ends a run at a line, ends it whatever comes behind
abbrev pub LinesEndForGood : Rules → Type 0
LinesEndForGood c =
    (bytes more : List ℕ) (whole : Bool) (text : List ℕ) (status : Status) → c.EndsAtLine status
    → c.Says bytes false text status → c.Says (bytes ++ more) whole text status

-- where memory may be lacking, it may be lacking whatever comes behind
abbrev pub LacksForGood : Rules → Type 0
LacksForGood c = (bytes more : List ℕ) → c.MayLack bytes false → c.MayLack (bytes ++ more) true

-- the two
pub record AreLasting (c : Rules) : Type 0 where
  pub ends : LinesEndForGood c
  pub lacks : LacksForGood c

-- over any tables there is one list, or one line that refuses it
pub record IsList (Lists : TableContents → List ℕ → Bool → Type 0) : Type 0 where
  pub exists : (tables : TableContents) → (text : List ℕ) × (refused : Bool) × Lists tables text refused
  pub unique : (tables : TableContents) (x y : List ℕ) (p q : Bool) → Lists tables x p → Lists tables y q
      → (x ≡ y) × (p ≡ q)

-- how a run of a list ends, by what was read and written
abbrev pub EndsAsList : (TableContents → List ℕ → Bool → Type 0) → Type 0
EndsAsList Lists =
    (status : Status) (before now : Outside) → Serves (list_rules Lists) status before now
    → ListEnds Lists status before now

-- how a run of `holidays` ends, by what was read and written
abbrev pub EndsAsHolidays : HolidaysAsked → Type 0
EndsAsHolidays asked =
    (status : Status) (before now : Outside) → Serves (holiday_rules asked) status before now
    → HolidayEnds asked status before now

-- how a run of `convert` ends, by what was read and written
abbrev pub EndsAsConvert : ConvertAsked → Type 0
EndsAsConvert asked =
    (status : Status) (before now : Outside) → Streams (convert_rules asked) status before now
    → ConvertEnds asked status before now

-- the days of `anniversary` are all days of the window that the month and the day fall on, each once and in order
abbrev pub AnniversariesAreMeant : Type 0
AnniversariesAreMeant =
    (a : AnniversaryAsked) (tables : TableContents) → let list = (kind_system tables a.calendar).list in
    AreAnniversaries list a.leaping a.month a.day a.first a.last
    (anniversaries_between list a.leaping a.month a.day a.first a.last)

-- the items of `recur` are all occurrences of the rule in the window, with their indices, each once and in order
abbrev pub OccurrencesAreMeant : Type 0
OccurrencesAreMeant =
    (a : RecurAsked) (rows : TableRows) → AreAccepted rows → (rule : Rule) (start : Date)
    → let s = kind_system (contents_of rows) a.header.calendar in
    let first = a.header.first in
    let last = a.header.last in
    resolve_fields s a.start no_options ≡ Ok start
    → AreOccurrences s start rule first last (occurrences s start rule first last)

-- over any tables the items of `holidays` are all days of the window that a rule of the book names, with its number,
-- each once and in order
abbrev pub HolidaysAreMeant : Type 0
HolidaysAreMeant =
    (a : HolidaysAsked) (tables : TableContents) (rules : List NamedRule) → a.first ≤ℤ a.last
    → AreHolidays tables rules a.first a.last 0 (holidays_in tables rules a.first a.last 0)

-- to every number of requests there is a line, and only one
abbrev pub EveryNumberHasOneLine : Type 0
EveryNumberHasOneLine =
    (n : ℕ) → ((text : List ℕ) × IsGenerated n text) × ((a b : List ℕ) → IsGenerated n a → IsGenerated n b → a ≡ b)
