-- Periods that begin 100 days apart.
use Rattle.std.specs.Prelude.{◌≡◌, ℕ, ◌+◌, ◌*◌, ◌≤◌, ◌⊎◌, ◌&&◌, Bool, int_le, int_lt, ℤ, pos, ◌+ℤ◌, ◌≤ℤ◌, ◌<ℤ◌}
use Rattle.std.proofs.Common.{inl, inr, arith}
use Rattle.cal_days.specs.Day.{IsValidDay}
use Rattle.cal_days.proofs.Signed.{signed}

-- a day is 0, 100 or 150 days behind another
abbrev pub IsOneOfThree : ℤ → ℤ → Type 0
IsOneOfThree first n = (n ≡ first) ⊎ ((n ≡ first +ℤ pos 100) ⊎ (n ≡ first +ℤ pos 150))

-- whether a day is one day
abbrev pub is_day : ℤ → ℤ → Bool
is_day day n = int_le day n && int_lt n (day +ℤ pos 1)

-- what a period gives
abbrev pub Gives : ℤ → ℕ → ℤ → Type 0
Gives start k n = IsOneOfThree (start +ℤ pos (100 * k)) n

least : (first n : ℤ) → IsOneOfThree first n → first ≤ℤ n
least first n (inl e) = omega (arith, signed, e)
least first n (inr (inl e)) = omega (arith, signed, e)
least first n (inr (inr e)) = omega (arith, signed, e)

most : (first n : ℤ) → IsOneOfThree first n → n ≤ℤ (first +ℤ pos 150)
most first n (inl e) = omega (arith, signed, e)
most first n (inr (inl e)) = omega (arith, signed, e)
most first n (inr (inr e)) = omega (arith, signed, e)

pub gives-apart : (start : ℤ) (i j : ℕ) (m n : ℤ) → i + 2 ≤ j → IsValidDay m → IsValidDay n →
    Gives start i m → Gives start j n → m <ℤ n
gives-apart start i j m n far _ _ a b =
    let high = most (start +ℤ pos (100 * i)) m a in
    let low = least (start +ℤ pos (100 * j)) n b in
    omega (arith, signed, far, high, low)
