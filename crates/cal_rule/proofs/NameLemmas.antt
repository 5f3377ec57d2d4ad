-- No calendar has a long name.
use Rattle.std.proofs.Common.{◌≡◌, ℕ, ◌<◌, ◌≤◌, Bool, true, false, nat_le, List, [], ◌∷◌, length, map, Option, Some, None, if◌then◌else◌, refl, ap, arith}
use Rattle.std.specs.List.{list_all}
use Rattle.std.specs.Char.{to_ascii_lowercase}
use Rattle.std.specs.Cmp.Lexicographic.{pointwise_decides}
use Rattle.std.proofs.lemmas.Bool.{and_parts}
use Rattle.std.proofs.lemmas.Bool.Decides.{Decides-eqb, nat_tests}
use Rattle.std.proofs.lemmas.List.{length-map}
use Rattle.cal_types.specs.YearNames.{is_code}
use Rattle.cal_kinds.specs.KindNames.{kind_among, program_names}
use Rattle.cal_kinds.specs.declared.any_calendar_kind.AnyCalendarKind.{AnyCalendarKind}
use Rattle.cal_rule.specs.CalendarNames.{calendar_named, cldr_names}

abbrev is_short : List ℕ × AnyCalendarKind → Bool
is_short named = nat_le (length named.0) 24

not_named : (is_it : Bool) (word : List ℕ) (named : List ℕ × AnyCalendarKind) (others : Option AnyCalendarKind) →
    is_code word named.0 ≡ is_it → is_short named ≡ true → 24 < length word → others ≡ None →
    (if is_it then Some named.1 else others) ≡ None
not_named false word named others h short long none = none
not_named true word named others h short long none =
    let same : length word ≡ length named.0 = ap length ((pointwise_decides Decides-eqb word named.0).0 h) in
    let within : length named.0 ≤ 24 = grind (arith, nat_tests, short) in
    absurd (omega (arith, same, within, long))

no_long : (word : List ℕ) (names : List (List ℕ × AnyCalendarKind)) → list_all is_short names ≡ true →
    24 < length word → kind_among word names ≡ None
no_long word [] short long = refl
no_long word (named ∷ names) short long =
    let each = and_parts (is_short named) (list_all is_short names) short in
    not_named (is_code word named.0) word named (kind_among word names) refl each.0 long (no_long word names each.1 long)

pub long_name : (text : List ℕ) → 24 < length text → None ≡ calendar_named text
long_name text long =
    let name = map to_ascii_lowercase text in
    let size : 24 < length name = omega (arith, long, length-map text to_ascii_lowercase) in
    rw (no_long name program_names refl size, no_long name cldr_names refl size) refl
