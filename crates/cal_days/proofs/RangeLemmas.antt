-- What the tests of ranges say.
use Rattle.std.proofs.Common.{◌≡◌, true, arith, ℤ}
use Rattle.std.proofs.lemmas.Int.{ints}
use Rattle.cal_days.specs.Day.{IsBetween, is_between}

-- a number that passes the test lies in the range
pub is_between-true : (low high z : ℤ) → is_between low high z ≡ true → IsBetween low high z
is_between-true low high z e = grind (arith, ints)

-- and one in the range passes it
pub true-is_between : (low high z : ℤ) → IsBetween low high z → is_between low high z ≡ true
true-is_between low high z h = grind (arith, ints)
