-- What the words of `convert` ask for.
use Rattle.std.specs.Prelude.{ℕ, List, Option, Some, None, codes, if◌then◌else◌}
use Rattle.cal_types.specs.declared.options.Overflow.{Overflow}
use Rattle.cal_types.specs.declared.options.Overflow.TheVariants.{Constrain, Reject}
use Rattle.cal_kinds.specs.KindNames.{kind_named}
use Rattle.cal_kinds.specs.declared.any_calendar_kind.AnyCalendarKind.{AnyCalendarKind}
use Rattle.request_lines.specs.Words.{is_text}
use Rattle.request_lines.specs.Reading.{Read, next_word, and_then}

-- dates in a calendar, shown in a second one, and what becomes of a month or a day that isn't there
pub record ConvertAsked : Type 0 where
  pub calendar : AnyCalendarKind
  pub shown : AnyCalendarKind
  pub overflow : Overflow

abbrev pub overflow_named : List ℕ → Option Overflow
overflow_named word =
    if is_text word (codes "constrain") then Some Constrain
    else (if is_text word (codes "reject") then Some Reject else None)

-- `CALENDAR SHOWN constrain|reject`
unfoldable pub convert_read : List (List ℕ) → Read ConvertAsked
convert_read words =
    and_then (next_word kind_named words) (λ calendar words.
    and_then (next_word kind_named words) (λ shown words.
    and_then (next_word overflow_named words) (λ overflow words.
    Some (record { calendar = calendar; shown = shown; overflow = overflow }, words))))
