-- Readings one after another.
use Rattle.std.specs.Prelude.{Result, Ok, Err}

-- what is read of what was read before
abbrev pub read_then : {A B E : Type 0} → (A → Result B E) → Result A E → Result B E
read_then next (Ok x) = next x
read_then next (Err e) = Err e
