-- Records of books: six to ten fields, which say a name and a rule.
use Rattle.std.specs.Prelude.{ℕ, ℤ, ◌&&◌, nat_le, List, [], get_or, length, Option, Some, None, if◌then◌else◌, Result, Ok, Err}
use Rattle.cal_kinds.specs.KindNames.{kind_named}
use Rattle.cal_holidays.specs.RecordMoves.{moves_read}
use Rattle.cal_holidays.specs.RecordWords.{day_read, is_julian, leaping_named, month_of, name_read, nothing, nth_named, offset_read, rule_kind, week_named, weekday_named}
use Rattle.cal_holidays.specs.RecordStarts.{recurrence_read, start_read}
use Rattle.cal_holidays.specs.RecordYears.{every_read, year_read}
use Rattle.cal_holidays.specs.Rules.{DayRule, Easter, Fixed, Kept, NamedRule, Nth, Recurring, Span, Yearly}
use Rattle.cal_holidays.specs.declared.record_words.RuleKind.{RuleKind}
use Rattle.cal_holidays.specs.declared.record_words.RuleKind.TheVariants as way
use Rattle.cal_holidays.specs.declared.rule_years.RuleYears.{RuleYears}

-- the texts of a record's fields
pub record TenFields : Type 0 where
  pub kind : List ℕ
  pub name : List ℕ
  pub calendar : List ℕ
  pub month : List ℕ
  pub value : List ℕ
  pub last : List ℕ
  pub since : List ℕ
  pub until : List ℕ
  pub every : List ℕ
  pub moved : List ℕ

-- the fields by their places; one that is left out is empty
abbrev pub by_places : List (List ℕ) → TenFields
by_places fields = record {
  kind = get_or fields 0 [];
  name = get_or fields 1 [];
  calendar = get_or fields 2 [];
  month = get_or fields 3 [];
  value = get_or fields 4 [];
  last = get_or fields 5 [];
  since = get_or fields 6 [];
  until = get_or fields 7 [];
  every = get_or fields 8 [];
  moved = get_or fields 9 [];
}

-- the fields of a record that has six to ten
abbrev pub ten_fields : List (List ℕ) → Option TenFields
ten_fields fields = if nat_le 6 (length fields) && nat_le (length fields) 10 then Some (by_places fields) else None

-- what is read of a field, and then what is made of it; or else the number of that field
abbrev pub field : {T U : Type 0} → ℕ → Option T → (T → Result U ℕ) → Result U ℕ
field number None next = Err number
field number (Some x) next = next x

-- what is read of some fields, and then what is made of it
abbrev pub and_then : {T U : Type 0} → Result T ℕ → (T → Result U ℕ) → Result U ℕ
and_then (Err number) next = Err number
and_then (Ok x) next = next x

-- the rule of a kind, or the number of the first bad one of the fields 3 to 6
abbrev pub rule_read : RuleKind → TenFields → Result DayRule ℕ
rule_read way.Fixed f =
    field 3 (kind_named f.calendar) (λ calendar.
    field 4 (month_of calendar f.month) (λ month.
    field 5 (day_read f.value) (λ day.
    field 6 (leaping_named f.last) (λ leaping. Ok (Yearly (Fixed calendar month day leaping))))))
rule_read way.Easter f =
    field 3 (is_julian f.calendar) (λ julian.
    field 4 (nothing f.month) (λ _.
    field 5 (offset_read f.value) (λ offset.
    field 6 (nothing f.last) (λ _. Ok (Yearly (Easter julian offset))))))
rule_read way.Nth f =
    field 3 (kind_named f.calendar) (λ calendar.
    field 4 (month_of calendar f.month) (λ month.
    field 5 (nth_named f.value) (λ nth.
    field 6 (weekday_named f.last) (λ weekday. Ok (Yearly (Nth calendar month nth weekday))))))
rule_read way.Span f =
    field 3 (kind_named f.calendar) (λ calendar.
    field 4 (month_of calendar f.month) (λ month.
    field 5 (day_read f.value) (λ day.
    field 6 (week_named f.last) (λ week. Ok (Yearly (Span calendar month day week.0 week.1))))))
rule_read way.Recurring f =
    field 3 (kind_named f.calendar) (λ calendar.
    field 4 (nothing f.month) (λ _.
    field 5 (recurrence_read calendar f.value) (λ text.
    field 6 (start_read f.last) (λ start.
    Ok (Recurring (record { calendar = calendar; text = text; start = start }))))))

-- the years in which the rule is kept, or the number of the first bad one of the fields 7 to 9
abbrev pub years_read : TenFields → Result RuleYears ℕ
years_read f =
    field 7 (year_read f.since) (λ since.
    field 8 (year_read f.until) (λ until.
    field 9 (every_read since f.every) (λ every. Ok (record { since = since; until = until; every = every }))))

-- what names the days of a record, or the number of its first bad field behind the name
abbrev pub kept_read : RuleKind → TenFields → Result Kept ℕ
kept_read kind f =
    and_then (rule_read kind f) (λ rule.
    and_then (years_read f) (λ years.
    field 10 (moves_read f.moved) (λ moves. Ok (record { rule = rule; years = years; moves = moves }))))

-- the name of a record and what names its days, or the number of its first bad field: 0 if it hasn't six to ten fields
abbrev pub record_read : List (List ℕ) → Result NamedRule ℕ
record_read fields =
    field 0 (ten_fields fields) (λ f.
    field 1 (rule_kind f.kind) (λ kind.
    field 2 (name_read f.name) (λ name.
    and_then (kept_read kind f) (λ kept. Ok (record { name = name; kept = kept })))))
