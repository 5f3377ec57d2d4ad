-- What is answered about the holidays of a book.
use Rattle.std.specs.Prelude.{◌≡◌, ◌⊎◌, ℕ, ◌<◌, ◌≤◌, ℤ, pos, ◌+ℤ◌, int_le, cond, List, [], ◌∷◌, ◌++◌, drop, length, map, slice_get, take, option_map, Option, Some, None, Ok, MatchBool, MatchOption}
use Rattle.cal_holidays.specs.BookNames.{holidays_in, names_in_book}
use Rattle.cal_holidays.specs.Books.{IsFirstBad, book_records, named_rules}
use Rattle.cal_holidays.specs.Listing.{left_of, pair_given}
use Rattle.cal_holidays.specs.NamedDays.{AreHolidays}
use Rattle.cal_holidays.specs.Records.{record_read}
use Rattle.cal_holidays.specs.Rules.{NamedRule}
use Rattle.cal_holidays.specs.declared.book_rules.BookRules.{BookRules}
use Rattle.cal_holidays.specs.declared.merged.Holiday.{Holiday}
use Rattle.cal_holidays.specs.declared.rest.Rest.{Rest}
use Rattle.cal_tables.specs.Kinds.{TableContents, table_contents}
use Rattle.cal_types.specs.declared.window.Window.{Window}
use Rattle.date_calls.specs.Calls.{IsLeftWith}
use Rattle.date_calls.specs.DayTexts.{PutsText}
use Rattle.date_calls.specs.Lists.{EndsOn, IsUnlisted, is_window}
use Rattle.date_calls.specs.declared.books.CalendarBookFault.{CalendarBookFault}
use Rattle.date_calls.specs.declared.books.CalendarHoliday.{CalendarHoliday}

-- the day and the rule that an item tells
abbrev pub pair_told : CalendarHoliday → ℤ × ℕ
pair_told item = (item.day, item.rule)

-- items before pairs
abbrev pub pairs_before : List CalendarHoliday → List (ℤ × ℕ) → List (ℤ × ℕ)
pairs_before items pairs = map pair_told items ++ pairs

-- the days that are left
abbrev pub window_left : Option Rest → Option Window
window_left rest = option_map (λ r. r.window) rest

-- the first rule that is listed on the first of the days that are left, or 0
abbrev pub next_rule : Option Rest → ℕ
next_rule None = 0
next_rule (Some r) = r.first_rule

-- what the rules of a book still have to give
abbrev pub left_in : BookRules → Option Rest → List (ℤ × ℕ)
left_in b rest =
    left_of (names_in_book (table_contents b.tables) (named_rules b.book.now)) (length (named_rules b.book.now)) rest

-- one step gives the first holiday that is left and leaves the others, up to the same last day
pub record StepsHolidays (rules : BookRules) (rest : Option Rest) (item : Option Holiday) (left : Option Rest)
    : Type 0 where
  pub gives : MatchOption item ((left_in rules rest ≡ []) × (left ≡ None))
      (λ h. left_in rules rest ≡ pair_given h ∷ left_in rules left)
  pub ends : (last : ℤ) → EndsOn last (window_left rest) → EndsOn last (window_left left)

-- the first holidays that were left stand in the column, as many as go into it, and the others are left; what stood
-- behind them is there still
pub record FillsHolidays (rules : BookRules) (rest left : Option Rest) (before now : List CalendarHoliday) (written : ℕ)
    : Type 0 where
  pub parts : left_in rules rest ≡ pairs_before (take written now) (left_in rules left)
  pub behind : drop written now ≡ drop written before
  pub fits : written ≤ length before
  pub complete : written < length before → left ≡ None
  pub ends : (last : ℤ) → EndsOn last (window_left rest) → EndsOn last (window_left left)

-- the holidays from a day and a first rule on to a last day, and none if the day comes after it
abbrev pub holidays_from : TableContents → List NamedRule → ℤ → ℤ → ℕ → List (ℤ × ℕ)
holidays_from t rules first last first_rule = cond (int_le first last) (holidays_in t rules first last first_rule) []

-- the first holidays of a window stand in a column, and what stood behind them is there still; the list goes on from a
-- day and a rule. If the column has more places, these are all holidays, and the day is the one after the last
pub record AreHolidaysListed (t : TableContents) (rules : List NamedRule) (first last : ℤ) (first_rule : ℕ)
    (before now : List CalendarHoliday) (written : ℕ) (next : ℤ) (next_rule : ℕ) : Type 0 where
  pub parts : holidays_in t rules first last first_rule
      ≡ pairs_before (take written now) (holidays_from t rules next last next_rule)
  pub meant : AreHolidays t rules first last first_rule (holidays_in t rules first last first_rule)
  pub behind : drop written now ≡ drop written before
  pub fits : written ≤ length before
  pub complete : written < length before → (next ≡ last +ℤ pos 1) × (next_rule ≡ 0)

-- each record is a holiday, and those of the window are told; no fault is
pub record TellsHolidays (t : TableContents) (rows : List (List (List ℕ))) (first last : ℤ) (first_rule code : ℕ)
    (before now : List CalendarHoliday) (written : ℕ) (next : ℤ) (next_rule : ℕ)
    (fault_before fault : CalendarBookFault) : Type 0 where
  pub rules : List NamedRule
  pub read : map record_read rows ≡ map Ok rules
  pub done : code ≡ 0
  pub are : AreHolidaysListed t rules first last first_rule before now written next next_rule
  pub fault_stands : fault ≡ fault_before

-- a code is told; nothing is written, and where the list goes on and the column are as they were
pub record AreHolidaysUntold (why code : ℕ) (before now : List CalendarHoliday) (written : ℕ) (next_before next : ℤ)
    (rule_before next_rule : ℕ) : Type 0 where
  pub unlisted : IsUnlisted why code before now written next_before next
  pub rule_stands : next_rule ≡ rule_before

-- the same, and no fault is told
pub record AreHolidaysLeft (why code : ℕ) (before now : List CalendarHoliday) (written : ℕ) (next_before next : ℤ)
    (rule_before next_rule : ℕ) (fault_before fault : CalendarBookFault) : Type 0 where
  pub untold : AreHolidaysUntold why code before now written next_before next rule_before next_rule
  pub fault_stands : fault ≡ fault_before

-- a record is no holiday: the first such record and its first bad field are told
pub record IsBookRefused (rows : List (List (List ℕ))) (code : ℕ) (before now : List CalendarHoliday) (written : ℕ)
    (next_before next : ℤ) (rule_before next_rule : ℕ) (fault : CalendarBookFault) : Type 0 where
  pub untold : AreHolidaysUntold 23 code before now written next_before next rule_before next_rule
  pub bad : IsFirstBad rows fault.number fault.field

-- the holidays of a window, unless a record is none; want of memory may come at any time
abbrev pub AnswersHolidays : TableContents → List (List (List ℕ)) → ℤ → ℤ → ℕ → ℕ → List CalendarHoliday
    → List CalendarHoliday → ℕ → ℤ → ℤ → ℕ → ℕ → CalendarBookFault → CalendarBookFault → Type 0
AnswersHolidays t rows first last first_rule code before now written next_before next rule_before next_rule fault_before
    fault =
    TellsHolidays t rows first last first_rule code before now written next next_rule fault_before fault
    ⊎ (IsBookRefused rows code before now written next_before next rule_before next_rule fault
    ⊎ AreHolidaysLeft 24 code before now written next_before next rule_before next_rule fault_before fault)

-- the holidays of a text over tables, if there are these; the days have to be a window
abbrev pub ListsHolidays : Option TableContents → List ℕ → ℤ → ℤ → ℕ → ℕ → List CalendarHoliday
    → List CalendarHoliday → ℕ → ℤ → ℤ → ℕ → ℕ → CalendarBookFault → CalendarBookFault → Type 0
ListsHolidays (Some t) text first last first_rule code before now written next_before next rule_before next_rule
    fault_before fault =
    MatchBool (is_window first last)
    (AnswersHolidays t (book_records text) first last first_rule code before now written next_before next rule_before
    next_rule fault_before fault)
    (AreHolidaysLeft 5 code before now written next_before next rule_before next_rule fault_before fault)
ListsHolidays None text first last first_rule code before now written next_before next rule_before next_rule
    fault_before fault =
    AreHolidaysLeft 2 code before now written next_before next rule_before next_rule fault_before fault

-- the name of a rule is told, if the book has the rule
abbrev pub PutsName : Option (List ℕ) → ℕ → ℕ → List ℕ → List ℕ → Type 0
PutsName (Some name) code written before now = PutsText name code written before now
PutsName None code written before now = IsLeftWith 25 code written before now

-- the name of the rule with a number, counted from 0
abbrev pub name_at : List NamedRule → ℕ → Option (List ℕ)
name_at rules rule = option_map (λ named. named.name) (slice_get rules rule)

-- each record is a holiday, and the name of one is told
pub record TellsName (rows : List (List (List ℕ))) (rule code written : ℕ) (before now : List ℕ) : Type 0 where
  pub rules : List NamedRule
  pub read : map record_read rows ≡ map Ok rules
  pub puts : PutsName (name_at rules rule) code written before now

-- a record is no holiday
pub record HasNoName (rows : List (List (List ℕ))) (code written : ℕ) (before now : List ℕ) : Type 0 where
  pub number : ℕ
  pub field : ℕ
  pub bad : IsFirstBad rows number field
  pub left : IsLeftWith 23 code written before now

-- the name of a rule, unless a record is no holiday; want of memory may come at any time
abbrev pub NamesHoliday : List ℕ → ℕ → ℕ → ℕ → List ℕ → List ℕ → Type 0
NamesHoliday text rule code written before now =
    TellsName (book_records text) rule code written before now
    ⊎ (HasNoName (book_records text) code written before now ⊎ IsLeftWith 24 code written before now)
