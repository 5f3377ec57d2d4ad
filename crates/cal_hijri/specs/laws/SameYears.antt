-- Years with the same parts are the same year, whatever the proof of their fact.
use Rattle.std.proofs.Common.{◌≡◌, ◌↔◌, ◌<◌, ◌∙◌, sym, ℕ, ℤ, pos, List, true, ap, subst, arith}
use Rattle.std.specs.Prelude.{IsTrue, ◌&&◌, nat_eq}
use Rattle.std.specs.Ordering.{int_eq}
use Rattle.std.proofs.Props.{props}
use Rattle.std.proofs.lemmas.Int.{ints}
use Rattle.std.proofs.lemmas.Bool.Decides.{nat_tests}
use Rattle.cal_types.proofs.DateTests.{and-left, and-right, true-and}
use Rattle.cal_hijri.specs.HijriMonths.{IsNearMean, month_days}
use Rattle.cal_hijri.specs.laws.HijriMonthLaws.{long_months-once}
use Rattle.cal_hijri.specs.MonthStarts.{HasLengthsOf}
use Rattle.cal_days.proofs.Signed.{signed}
use Rattle.cal_hijri.specs.HijriList.{has_parts_of}
use Rattle.cal_hijri.specs.declared.hijri_year.HijriYear.{HijriYear}

abbrev year : (n d : ℤ) (m : ℕ) → IsNearMean n d → m < 4096 → HijriYear
year n d m f few = record { extended_year = n; first_day = d; long_months = m; near = f; twelve = few }

near-one : (n d : ℤ) → IsProp (IsNearMean n d)
near-one n d = hlevel props

few-one : (m : ℕ) → IsProp (m < 4096)
few-one m = hlevel props

-- one part after another
at_parts : (a : HijriYear) (n d : ℤ) (m : ℕ) → a.extended_year ≡ n → a.first_day ≡ d → a.long_months ≡ m → (g : IsNearMean n d) (h : m < 4096) → year a.extended_year a.first_day a.long_months a.near a.twelve ≡ year n d m g h
at_parts a n d m e1 e2 e3 =
    let base = year a.extended_year a.first_day a.long_months a.near a.twelve in
    let s0 : (g : IsNearMean a.extended_year a.first_day) (h : a.long_months < 4096) → base ≡ year a.extended_year a.first_day a.long_months g h =
    λ g h. ap (λ (f : IsNearMean a.extended_year a.first_day). year a.extended_year a.first_day a.long_months f a.twelve) (near-one a.extended_year a.first_day a.near g)
    ∙ ap (year a.extended_year a.first_day a.long_months g) (few-one a.long_months a.twelve h) in
    let s1 = subst (λ (x : ℤ). (g : IsNearMean x a.first_day) (h : a.long_months < 4096) → base ≡ year x a.first_day a.long_months g h) e1 s0 in
    let s2 = subst (λ (x : ℤ). (g : IsNearMean n x) (h : a.long_months < 4096) → base ≡ year n x a.long_months g h) e2 s1 in
    subst (λ (x : ℕ). (g : IsNearMean n d) (h : x < 4096) → base ≡ year n d x g h) e3 s2

pub same_parts : (a b : HijriYear) → a.extended_year ≡ b.extended_year → a.first_day ≡ b.first_day → a.long_months ≡ b.long_months → a ≡ b
same_parts a b e1 e2 e3 = at_parts a b.extended_year b.first_day b.long_months e1 e2 e3 b.near b.twelve

int-same : (a b : ℤ) → int_eq a b ≡ true → a ≡ b
int-same a b h = grind (arith, ints)

int-own : (a : ℤ) → int_eq a a ≡ true
int-own a = grind (arith, ints)

nat-same : (a b : ℕ) → nat_eq a b ≡ true → a ≡ b
nat-same a b h = grind (arith, nat_tests)

nat-own : (a : ℕ) → nat_eq a a ≡ true
nat-own a = grind (arith, nat_tests)

same-itself : (a : HijriYear) → IsTrue (has_parts_of a a)
same-itself a = true-and _ _ (int-own a.extended_year) (true-and _ _ (int-own a.first_day) (nat-own a.long_months))

pub has_parts_of-same : (a b : HijriYear) → IsTrue (has_parts_of a b) → a ≡ b
has_parts_of-same a b h =
    let rest = and-right (int_eq a.extended_year b.extended_year) (int_eq a.first_day b.first_day && nat_eq a.long_months b.long_months) h in
    same_parts a b
    (int-same a.extended_year b.extended_year (and-left (int_eq a.extended_year b.extended_year) (int_eq a.first_day b.first_day && nat_eq a.long_months b.long_months) h))
    (int-same a.first_day b.first_day (and-left (int_eq a.first_day b.first_day) (nat_eq a.long_months b.long_months) rest))
    (nat-same a.long_months b.long_months (and-right (int_eq a.first_day b.first_day) (nat_eq a.long_months b.long_months) rest))

-- a year has the same parts as the rules' year of its number exactly where it is that year
pub has_parts_of-tested : (year_of : ℤ → HijriYear) (y : HijriYear) → IsTrue (has_parts_of (year_of y.extended_year) y) ↔ (year_of y.extended_year ≡ y)
has_parts_of-tested year_of y = (
  has_parts_of-same (year_of y.extended_year) y,
  λ e. subst (λ (x : HijriYear). IsTrue (has_parts_of (year_of y.extended_year) x)) e (same-itself (year_of y.extended_year)),
)

-- a year whose months start on given days is the year with their lengths
pub year_of_starts : (made year : HijriYear) (starts : List ℤ) → made.extended_year ≡ year.extended_year → made.first_day ≡ year.first_day → HasLengthsOf starts made.long_months → HasLengthsOf starts year.long_months → made.long_months < 4096 → year.long_months < 4096 → made ≡ year
year_of_starts made year starts number first here there few fewer =
    same_parts made year number first
    (long_months-once made.long_months year.long_months few fewer (λ i low high. let same : pos (month_days made.long_months i) ≡ pos (month_days year.long_months i) = here i low high ∙ sym (there i low high) in omega (arith, signed, same)))
