-- Tests of two values of one kind, by a test for each kind.
use Rattle.std.specs.Prelude.{ℕ, ◌==◌, Bool, true, ◌&&◌, List, slice_index_or}

-- the test of two values of any kind whose other parts don't matter
abbrev pub always : {K : Type 0} → K → K → Bool
always a b = true

-- the test of a kind
abbrev pub test_of : {K : Type 0} → List (K → K → Bool) → ℕ → K → K → Bool
test_of tests n = slice_index_or tests n always

-- two values are of one kind, and meet its test
abbrev pub by_kind : {K : Type 0} → (K → ℕ) → List (K → K → Bool) → K → K → Bool
by_kind kind tests a b = (kind a == kind b) && test_of tests (kind a) a b
