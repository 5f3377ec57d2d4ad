-- Walking over the words of a line.
use Rattle.std.proofs.Common.{◌≡◌, ◌==◌, ℕ, ◌+◌, ◌≤◌, List, [], ◌∷◌, length, Some, refl, arith}
use Rattle.std.proofs.lemmas.List.Splits.{length-slice_split}
use Rattle.std.proofs.lemmas.List.Sums.{count_by-le-length}
use Rattle.cal_types.specs.Bag.{Bag}
use Rattle.request_lines.specs.Words.{words_of}
use Rattle.line_faults.specs.Faults.{fault_in}
use Rattle.line_faults.specs.declared.expected.Expected.{Expected}

-- what was expected before has no part in it
pub any_last : (at : Expected) (bag : Bag) (l m : Expected) (n : ℕ) (words : List (List ℕ))
    → fault_in (Some (at, bag)) l n words ≡ fault_in (Some (at, bag)) m n words
any_last at bag l m n [] = refl
any_last at bag l m n (word ∷ words) = refl

-- a line has at most one word more than bytes
pub few_words : (text : List ℕ) → length (words_of text) ≤ length text + 1
few_words text = omega (arith, length-slice_split (λ b. b == 32) text, count_by-le-length (λ b. b == 32) text)
