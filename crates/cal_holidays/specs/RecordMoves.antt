-- The field of a record that says by how many days its day moves: words such as `saturday-1`, joined by spaces.
use Rattle.std.specs.Prelude.{ℕ, ℤ, pos, neg_ℤ, ◌+◌, ◌-◌, ◌==◌, ◌&&◌, Bool, true, not, nat_eq, nat_le, List, [], ◌∷◌, length, map, take, drop, slice_index, Option, Some, None, if◌then◌else◌}
use Rattle.std.specs.Borrow.{Bor}
use Rattle.std.specs.List.{list_any, slice_split}
use Rattle.std.specs.Option.{option_and_then, option_map}
use Rattle.cal_types.specs.Weekday.{days_since_sunday, is_weekday, week_from}
use Rattle.cal_types.specs.declared.weekday.Weekday.{Weekday}
use Rattle.cal_types.specs.declared.weekday.Weekday.TheVariants.{Sunday}
use Rattle.word_values.specs.Numbers.{minus, number_of}
use Rattle.cal_holidays.specs.RecordWords.{where_passes, weekday_named}

-- the words that spaces (32) join
abbrev pub words_of : List ℕ → List (List ℕ)
words_of text = slice_split (λ b. b == 32) text

-- the same of what is left, if anything is
abbrev pub words_from : Option (Bor (List ℕ)) → List (List ℕ)
words_from None = []
words_from (Some text) = words_of text.now

-- a weekday, and by how many days a day moves that falls on it
abbrev pub Move : Type 0
Move = Weekday × ℤ

-- a plus (43) or a minus (45), and a digit up to 6
abbrev pub days_read : List ℕ → Option ℤ
days_read text =
    let size = option_and_then (where_passes (λ n. nat_le n 6)) (number_of 1 (drop 1 text)) in
    if slice_index text 0 == 45 then option_map minus size
    else if slice_index text 0 == 43 then option_map pos size
    else None

-- a weekday and a number of days, which the last two bytes say
abbrev pub move_read : List ℕ → Option Move
move_read word =
    let at = length word - 2 in
    option_and_then (λ day. option_map (λ days. (day, days)) (days_read (drop at word))) (weekday_named (take at word))

-- all of some values, if each is there
abbrev pub all_there : {T : Type 0} → List (Option T) → Option (List T)
all_there [] = Some []
all_there (x ∷ xs) = option_and_then (λ y. option_map (λ ys. y ∷ ys) (all_there xs)) x

-- the first move of a weekday
abbrev pub move_of : List Move → Weekday → Option ℤ
move_of [] day = None
move_of (move ∷ moves) day = if is_weekday move.0 day then Some move.1 else move_of moves day

-- whether each weekday moves at most once
abbrev pub move_once : List Move → Bool
move_once [] = true
move_once (move ∷ moves) = not (list_any (λ other. is_weekday move.0 other.0) moves) && move_once moves

-- the moves of each weekday from Sunday on
abbrev pub week_moves : List Move → List (Option ℤ)
week_moves moves = map (move_of moves) (week_from Sunday)

-- the moves of words
abbrev pub moves_of_words : List (List ℕ) → Option (List (Option ℤ))
moves_of_words words =
    option_map week_moves (option_and_then (where_passes move_once) (all_there (map move_read words)))

-- the same of a text, or of nothing at all
abbrev pub moves_read : List ℕ → Option (List (Option ℤ))
moves_read text = if length text == 0 then Some (week_moves []) else moves_of_words (words_of text)
