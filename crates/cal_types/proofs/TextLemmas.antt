use Rattle.std.proofs.Common.{◌≡◌, ℕ, ◌-◌, ◌≤◌, List, [], ◌∷◌, ◌++◌, length, drop, replicate, refl, arith, zero, suc, length-append}
use Rattle.std.specs.Str.{IsAscii, IsUtf8}
use Rattle.std.proofs.lemmas.Str.{IsUtf8-from_ascii}
use Rattle.std.proofs.lemmas.List.{drop-replicate, length-replicate}
use Rattle.std.proofs.lemmas.Bool.Decides.{nat_tests}
use Rattle.std.proofs.Math.Seq.{take-append_seam}
use Rattle.std.proofs.lemmas.Grind.{common_steps}
use Rattle.cal_types.specs.Text.{IsText, HoldsText}

-- the bytes of a text are ASCII
pub IsAscii-from_text : (bs : List ℕ) → IsText bs → IsAscii bs
IsAscii-from_text [] h i = grind (arith, common_steps)
IsAscii-from_text (x ∷ xs) h zero = grind (arith, nat_tests, common_steps)
IsAscii-from_text (x ∷ xs) h (suc i) =
    let tail : IsText xs = grind (arith, common_steps) in IsAscii-from_text xs tail i

-- the bytes of a text are UTF-8
pub IsUtf8-from_text : (bs : List ℕ) → IsText bs → IsUtf8 bs
IsUtf8-from_text bs h = IsUtf8-from_ascii bs (IsAscii-from_text bs h)

-- a text that is copied over the first of n zeros is held in those n bytes
pub HoldsText-copied : (n : ℕ) (t : List ℕ) → length t ≤ n → IsText t →
    HoldsText n (t ++ drop (length t) (replicate n 0)) (length t)
HoldsText-copied n t fits text =
    let size : length (t ++ replicate (n - length t) 0) ≡ n =
    omega (arith, fits, length-append t (replicate (n - length t) 0), length-replicate {A = ℕ} (n - length t) 0) in
    rw (drop-replicate {X = ℕ} (length t) n 0)
    (record {
      fits = omega (arith, fits, size);
      size = size;
      zeros = rw (take-append_seam t (replicate (n - length t) 0)) refl;
      text = rw (take-append_seam t (replicate (n - length t) 0)) text;
    })
