-- When two Hebrew years are the same.
use Rattle.std.proofs.Common.{◌≡◌, ℕ, ap, subst, ℤ}
use Rattle.std.proofs.Props.{props}
use Rattle.date_bytes.specs.HebrewBytes.{class_of, length_of}
use Rattle.cal_hebrew.specs.declared.hebrew_year.HebrewYear.{HebrewYear}

abbrev year : (y : ℤ) (n : ℕ) → length_of (class_of n) ≡ n → HebrewYear
year y n known = record { extended_year = y; length = n; known = known }

known-one : (n : ℕ) → IsProp (length_of (class_of n) ≡ n)
known-one n = hlevel props

-- years of the same parts are the same
at_parts : (a : HebrewYear) (y : ℤ) (n : ℕ) → a.extended_year ≡ y → a.length ≡ n → (k : length_of (class_of n) ≡ n) → year a.extended_year a.length a.known ≡ year y n k
at_parts a y n e1 e2 =
    let base = year a.extended_year a.length a.known in
    let s0 : (k : length_of (class_of a.length) ≡ a.length) → base ≡ year a.extended_year a.length k = λ k. ap (year a.extended_year a.length) (known-one a.length a.known k) in
    let s1 = subst (λ (x : ℤ). (k : length_of (class_of a.length) ≡ a.length) → base ≡ year x a.length k) e1 s0 in
    subst (λ (x : ℕ). (k : length_of (class_of x) ≡ x) → base ≡ year y x k) e2 s1

pub same_parts : (a b : HebrewYear) → a.extended_year ≡ b.extended_year → a.length ≡ b.length → a ≡ b
same_parts a b e1 e2 = at_parts a b.extended_year b.length e1 e2 b.known
