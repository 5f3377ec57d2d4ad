-- The calendar that RSCALE names.
-- Source: RFC 7529, 4.1; the names of calendars are CLDR's (UTS 35).
use Rattle.std.specs.Prelude.{ℕ, ◌==◌, ◌&&◌, ◌||◌, nat_lt, Bool, if◌then◌else◌, List, [], ◌∷◌, length, map, Option, Some, None, codes}
use Rattle.std.specs.Char.{is_ascii_alphanumeric, to_ascii_lowercase}
use Rattle.std.specs.List.{list_all}
use Rattle.std.specs.Option.{option_or}
use Rattle.cal_kinds.specs.KindNames.{kind_among, kind_named}
use Rattle.cal_kinds.specs.KindOrder.{kind_place}
use Rattle.cal_kinds.specs.declared.any_calendar_kind.AnyCalendarKind.{AnyCalendarKind}
use Rattle.cal_kinds.specs.declared.any_calendar_kind.AnyCalendarKind.TheVariants.{Gregorian, Iso, EthiopianAmeteAlem}
use Rattle.cal_rule.specs.declared.rule_error.RuleError.{RuleError}
use Rattle.cal_rule.specs.declared.rule_error.RuleError.TheVariants.{BadValue, UnknownCalendar, MismatchedCalendar}
use Rattle.cal_rule.specs.declared.rule_part.RulePart.TheVariants.{Rscale}

-- a letter, a digit or a hyphen (45)
abbrev pub is_name_byte : ℕ → Bool
is_name_byte b = is_ascii_alphanumeric b || b == 45

-- CLDR's names that aren't program names
abbrev pub cldr_names : List (List ℕ × AnyCalendarKind)
cldr_names =
    (codes "gregory", Gregorian) ∷ (codes "iso8601", Iso) ∷ (codes "ethiopic-amete-alem", EthiopianAmeteAlem) ∷ []

-- the kind of the calendar with a name, in letters of either case
abbrev pub calendar_named : List ℕ → Option AnyCalendarKind
calendar_named text =
    let name = map to_ascii_lowercase text in option_or (kind_named name) (kind_among name cldr_names)

abbrev pub is_kind : AnyCalendarKind → AnyCalendarKind → Bool
is_kind a b = kind_place a == kind_place b

-- what is wrong with a name where a rule is for a kind of calendar
abbrev pub named_fault : AnyCalendarKind → Option AnyCalendarKind → Option RuleError
named_fault kind None = Some UnknownCalendar
named_fault kind (Some named) = if is_kind named kind then None else Some MismatchedCalendar

abbrev pub calendar_fault : AnyCalendarKind → List ℕ → Option RuleError
calendar_fault kind text =
    if nat_lt 0 (length text) && list_all is_name_byte text then named_fault kind (calendar_named text)
    else Some (BadValue Rscale)
