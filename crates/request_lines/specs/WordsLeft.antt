-- The words that are still to come.
use Rattle.std.specs.Prelude.{ℕ, List, [], Option, Some, None}
use Rattle.std.specs.Borrow.{Bor}
use Rattle.request_lines.specs.Words.{words_of}
use Rattle.request_lines.specs.declared.words.Words.{Words}

-- the words of the text that is left, if there is one
abbrev pub words_from : Option (Bor (List ℕ)) → List (List ℕ)
words_from None = []
words_from (Some rest) = words_of rest.now

-- the words that the cursor has still to give
abbrev pub words_left : Words → List (List ℕ)
words_left w = words_from w.rest
