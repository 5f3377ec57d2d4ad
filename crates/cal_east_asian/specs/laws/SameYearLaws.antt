-- The test of years for the same parts finds those that are the same.
use Rattle.std.proofs.Common.{◌≡◌, ◌↔◌, ℕ, true, subst, ℤ, arith}
use Rattle.std.specs.Prelude.{IsTrue, ◌&&◌, nat_eq}
use Rattle.std.specs.Ordering.{int_eq}
use Rattle.std.proofs.lemmas.Int.{ints}
use Rattle.std.proofs.lemmas.Bool.Decides.{nat_tests}
use Rattle.cal_types.proofs.DateTests.{and-left, and-right, true-and}
use Rattle.cal_east_asian.specs.SameYears.{same_year}
pub use Rattle.cal_east_asian.specs.laws.SameParts.{same_parts}
use Rattle.cal_east_asian.specs.declared.east_asian_traditional_year.EastAsianTraditionalYear.{EastAsianTraditionalYear}

int-same : (a b : ℤ) → int_eq a b ≡ true → a ≡ b
int-same a b h = grind (arith, ints)

int-own : (a : ℤ) → int_eq a a ≡ true
int-own a = grind (arith, ints)

nat-same : (a b : ℕ) → nat_eq a b ≡ true → a ≡ b
nat-same a b h = grind (arith, nat_tests)

nat-own : (a : ℕ) → nat_eq a a ≡ true
nat-own a = grind (arith, nat_tests)

same-itself : (a : EastAsianTraditionalYear) → IsTrue (same_year a a)
same-itself a = true-and _ _ (true-and _ _ (int-own a.related_iso) (int-own a.new_year)) (true-and _ _ (nat-own a.long_months) (nat-own a.leap_month))

-- years of the same parts are the same, and a year has its own parts
pub same_year-same : (a b : EastAsianTraditionalYear) → IsTrue (same_year a b) → a ≡ b
same_year-same a b h =
    let number = int_eq a.related_iso b.related_iso in
    let start = int_eq a.new_year b.new_year in
    let lengths = nat_eq a.long_months b.long_months in
    let leap = nat_eq a.leap_month b.leap_month in
    let first = and-left (number && start) (lengths && leap) h in
    let rest = and-right (number && start) (lengths && leap) h in
    same_parts a b (int-same a.related_iso b.related_iso (and-left number start first)) (int-same a.new_year b.new_year (and-right number start first))
    (nat-same a.long_months b.long_months (and-left lengths leap rest)) (nat-same a.leap_month b.leap_month (and-right lengths leap rest))

pub same_year-own : (a b : EastAsianTraditionalYear) → a ≡ b → IsTrue (same_year a b)
same_year-own a b e = subst (λ (x : EastAsianTraditionalYear). IsTrue (same_year a x)) e (same-itself a)

-- a year has the parts of the rules' year of its number exactly where it is that year
pub same_year-tested : (year_of : ℤ → EastAsianTraditionalYear) (y : EastAsianTraditionalYear) → IsTrue (same_year (year_of y.related_iso) y) ↔ (year_of y.related_iso ≡ y)
same_year-tested year_of y = (
  same_year-same (year_of y.related_iso) y,
  λ e. subst (λ (x : EastAsianTraditionalYear). IsTrue (same_year (year_of y.related_iso) x)) e (same-itself (year_of y.related_iso)),
)
