-- The table of the program's names, in which each has a place of its own.
use Rattle.std.specs.Prelude.{ℕ, ◌+◌, ◌*◌, ◌-◌, ◌%◌, ◌==◌, List, length, get_or, Option, Some, None, if◌then◌else◌}
use Rattle.cal_types.specs.YearNames.{is_code}
use Rattle.std.specs.List.{find}
use Rattle.cal_kinds.specs.KindNames.{program_names}
use Rattle.cal_kinds.specs.declared.any_calendar_kind.AnyCalendarKind.{AnyCalendarKind}

-- the place that a word would have, from its length, its first byte and its last
abbrev pub place_of : List ℕ → ℕ
place_of word = (2 * (length word % 16) + get_or word 0 0 + get_or word (length word - 1) 0) % 64

-- the name that has the place
abbrev pub named_at : ℕ → Option (List ℕ × AnyCalendarKind)
named_at place = find (λ named. place_of named.0 == place) program_names

-- the kind of a name, where a word is that name
abbrev pub kind_if : List ℕ → Option (List ℕ × AnyCalendarKind) → Option AnyCalendarKind
kind_if word None = None
kind_if word (Some named) = if is_code word named.0 then Some named.1 else None
