-- The words of the command line that are still to be read.
use Rattle.std.specs.Prelude.{ℕ, List, [], Option, Some, None, map, string_bytes}
use Rattle.command_line.specs.SpacedWords.{words_in}
use Rattle.command_line.specs.declared.command_words.CommandWords.{CommandWords}
use Rattle.command_line.specs.declared.command_words.CommandWords.TheVariants.{Listed, Spaced}

-- the words of what is left of a text, if anything is left
abbrev pub words_behind : Option (List ℕ) → List (List ℕ)
words_behind None = []
words_behind (Some text) = words_in text

-- the words that the cursor has still to give
abbrev pub words_left : CommandWords → List (List ℕ)
words_left (Listed words) = map string_bytes words.now
words_left (Spaced None) = []
words_left (Spaced (Some text)) = words_in text.now
