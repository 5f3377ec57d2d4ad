-- Years that pass through 32 bits, and sums of months and years over plain numbers.
use Rattle.std.proofs.Common.{◌≡◌, Fits, FitsSigned, Bool, true, false, ℕ, ℤ, pos, ◌+◌, ◌<◌, ◌+ℤ◌, ◌-ℤ◌, ◌*ℤ◌, ◌<ℤ◌, ◌≤ℤ◌, to_z, of_z, w32, arith}
use Rattle.cal_days.specs.Day.{IsRuleYear, IsFieldYear, IsCoveredYear}
use Rattle.cal_days.specs.Sums.{years_up}
use Rattle.cal_days.proofs.Signed.{signed}

-- a year comes out as it was
pub word : (x y : ℤ) → x ≡ y → IsRuleYear y → to_z w32 (of_z w32 x) ≡ y
word x y e h = omega (arith, signed, e, h)

-- the year before and the year after
pub previous_word : (x y : ℤ) → x ≡ y → IsRuleYear y → to_z w32 (of_z w32 (to_z w32 (of_z w32 x) -ℤ pos 1)) ≡ y -ℤ pos 1
previous_word x y e h = omega (arith, signed, e, h)

pub following_word : (x y : ℤ) → x ≡ y → IsRuleYear y → to_z w32 (of_z w32 (to_z w32 (of_z w32 x) +ℤ pos 1)) ≡ y +ℤ pos 1
following_word x y e h = omega (arith, signed, e, h)

-- a year that fields may name is one of the rules
pub field-rule : (y : ℤ) → IsFieldYear y → IsRuleYear y
field-rule y h = (omega (arith, signed, h.0), omega (arith, signed, h.1))

pub from_to : (a b c : ℤ) → a ≤ℤ b → b ≤ℤ c → a ≤ℤ c
from_to a b c p q = omega (arith, signed, p, q)

pub between : (a b y : ℤ) → IsRuleYear a → IsRuleYear b → a ≤ℤ y → y ≤ℤ b → IsRuleYear y
between a b y p q low high = (from_to _ a y p.0 low, from_to y b _ high q.1)

pub joined : (z y : ℤ) (n : ℕ) → z ≡ y -ℤ pos n → y ≡ z +ℤ pos n
joined z y n e = omega (arith, signed, e)

-- the year after
pub after-low : (a y z : ℤ) → z ≡ y +ℤ pos 1 → a ≤ℤ y → a ≤ℤ z
after-low a y z e h = omega (arith, signed, e, h)

pub after-high : (y z b : ℤ) → z ≡ y +ℤ pos 1 → y <ℤ b → z ≤ℤ b
after-high y z b e h = omega (arith, signed, e, h)

-- months that are counted on
pub summed : (a b c : ℤ) (n m : ℕ) → c ≡ b +ℤ pos m → b ≡ a +ℤ pos n → c ≡ a +ℤ pos (n + m)
summed a b c n m e f = omega (arith, signed, e, f)

pub summed-next : (a b c d : ℤ) (n m k : ℕ) → d ≡ c +ℤ pos k → c ≡ b +ℤ pos m → b ≡ a +ℤ pos n → d ≡ a +ℤ pos (n + m + k)
summed-next a b c d n m k e f g = omega (arith, signed, e, f, g)

-- the year after a rule year, and the months of 16000001 years, are counted in 32 bits
pub next_fits : (x y : ℤ) → x ≡ y → IsRuleYear y → FitsSigned w32 (x +ℤ pos 1)
next_fits x y e h = omega (arith, signed, e, h)

pub few_months : (a b m k : ℤ) (n : ℕ) → IsRuleYear a → b ≤ℤ pos 8000001 → (k -ℤ m) ≤ℤ (pos 13 *ℤ (b -ℤ a)) → k ≡ m +ℤ pos n → Fits w32 n
few_months a b m k n first last most e = omega (arith, signed, first, last, most, e)

pub within-end : (y b : ℤ) → y ≤ℤ b → IsRuleYear b → y ≤ℤ pos 8000001
within-end y b h q = omega (arith, signed, h, q.1)

pub next-end : (y b : ℤ) → y ≤ℤ b → IsRuleYear b → (y +ℤ pos 1) ≤ℤ pos 8000001
next-end y b h q = omega (arith, signed, h, q.1)

-- one look-up more, for one year more
pub ticked : (old start new : ℕ) (first from to after : ℤ) → new ≡ old + 1 → pos old ≤ℤ (pos start +ℤ (from -ℤ first)) → from ≤ℤ to → after ≡ to +ℤ pos 1 → pos new ≤ℤ (pos start +ℤ (after -ℤ first))
ticked old start new first from to after one bound up next = omega (arith, signed, one, bound, up, next)

pub unticked : (old start : ℕ) (first from to : ℤ) → pos old ≤ℤ (pos start +ℤ (from -ℤ first)) → from ≤ℤ to → pos old ≤ℤ (pos start +ℤ (to -ℤ first))
unticked old start first from to bound up = omega (arith, signed, bound, up)

-- fewer years are left
pub fewer : (last from to : ℤ) → from <ℤ to → to ≤ℤ last → years_up (last -ℤ to) < years_up (last -ℤ from)
fewer last from to up within = omega (arith, signed, up, within)

pub before-next : (from y after : ℤ) → after ≡ y +ℤ pos 1 → from ≤ℤ y → from <ℤ after
before-next from y after e h = omega (arith, signed, e, h)

pub none_more : (x y : ℤ) → x ≡ y → x ≡ y +ℤ pos 0
none_more x y e = omega (arith, signed, e)

pub not_below : (x y : ℤ) → x ≡ y → y ≤ℤ x
not_below x y e = omega (arith, signed, e)

pub none_ticked : (start : ℕ) (first from : ℤ) → from ≡ first → pos start ≤ℤ (pos start +ℤ (from -ℤ first))
none_ticked start first from e = omega (arith, signed, e)

pub later : (from to : ℤ) (n : ℕ) → to ≡ from +ℤ pos n → from ≤ℤ to
later from to n e = omega (arith, signed, e)

pub covered-rule : (y : ℤ) → IsCoveredYear y → IsRuleYear y
covered-rule y h = (omega (arith, signed, h.0), omega (arith, signed, h.1))

-- a test doesn't answer both
pub one_answer : (b : Bool) → b ≡ true → b ≡ false → ⊥
one_answer b h k = cc
