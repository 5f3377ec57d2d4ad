-- The fields of a record that say in which years its rule is kept.
use Rattle.std.specs.Prelude.{ℕ, ℤ, pos, ◌==◌, ◌&&◌, nat_le, List, length, drop, slice_index, Option, Some, None, if◌then◌else◌}
use Rattle.std.specs.Option.{option_and_then, option_map}
use Rattle.word_values.specs.Numbers.{minus, number_of}
use Rattle.cal_holidays.specs.RecordWords.{where_passes}

-- an optional minus (45), and one to six digits
abbrev pub year_of : List ℕ → Option ℤ
year_of text =
    if slice_index text 0 == 45 then option_map minus (number_of 6 (drop 1 text))
    else option_map pos (number_of 6 text)

-- a year, or nothing at all
abbrev pub year_read : List ℕ → Option (Option ℤ)
year_read text = if length text == 0 then Some None else option_map Some (year_of text)

-- steps of 1 to 400 years, in one to three digits
abbrev pub steps_of : List ℕ → Option ℕ
steps_of text = option_and_then (where_passes (λ every. nat_le 1 every && nat_le every 400)) (number_of 3 text)

-- they are counted from a first year, which they need
abbrev pub steps_read : Option ℤ → List ℕ → Option ℕ
steps_read None text = None
steps_read (Some since) text = steps_of text

-- steps, or nothing at all: then they are single years
abbrev pub every_read : Option ℤ → List ℕ → Option ℕ
every_read since text = if length text == 0 then Some 1 else steps_read since text
