-- Texts in rooms.
use Rattle.std.specs.Prelude.{◌≡◌, ℕ, ◌<◌, ◌≤◌, Bool, true, false, List, ◌++◌, drop, length}

-- the text stands first in the room, and what was behind it is there still; or the room is too short, and as it was
abbrev pub IsPut : Bool → List ℕ → List ℕ → List ℕ → Type 0
IsPut true text before now = (length text ≤ length before) × (now ≡ text ++ drop (length text) before)
IsPut false text before now = (length before < length text) × (now ≡ before)
