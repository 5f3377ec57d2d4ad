-- Years of the same parts are the same, whatever the proofs of their facts.
use Rattle.std.proofs.Common.{◌≡◌, ◌∙◌, ℕ, ◌<◌, ◌^◌, ap, sym, subst, ℤ, pos, List, arith}
use Rattle.std.proofs.Props.{props}
use Rattle.cal_days.proofs.Signed.{signed}
use Rattle.cal_east_asian.specs.EastAsianYear.{IsEastAsianYear, months_of_year}
use Rattle.cal_east_asian.specs.EastAsianPlaces.{month_days}
use Rattle.cal_east_asian.specs.MonthStarts.{HaveLengthsOf}
use Rattle.cal_east_asian.specs.laws.MonthDayLaws.{bits-once}
use Rattle.cal_east_asian.specs.declared.east_asian_traditional_year.EastAsianTraditionalYear.{EastAsianTraditionalYear}

abbrev year_with : (y d : ℤ) (m p : ℕ) → IsEastAsianYear y d p → m < 2 ^ months_of_year p → EastAsianTraditionalYear
year_with y d m p f few = record { related_iso = y; new_year = d; long_months = m; leap_month = p; valid = f; few = few }

valid-one : (y d : ℤ) (p : ℕ) → IsProp (IsEastAsianYear y d p)
valid-one y d p = hlevel props

few-one : (m p : ℕ) → IsProp (m < 2 ^ months_of_year p)
few-one m p = hlevel props

-- one part after another
same_from : (a : EastAsianTraditionalYear) (y d : ℤ) (m p : ℕ) → a.related_iso ≡ y → a.new_year ≡ d → a.long_months ≡ m → a.leap_month ≡ p → (g : IsEastAsianYear y d p) (h : m < 2 ^ months_of_year p) → year_with a.related_iso a.new_year a.long_months a.leap_month a.valid a.few ≡ year_with y d m p g h
same_from a y d m p e1 e2 e3 e4 =
    let base = year_with a.related_iso a.new_year a.long_months a.leap_month a.valid a.few in
    let s0 : (g : IsEastAsianYear a.related_iso a.new_year a.leap_month) (h : a.long_months < 2 ^ months_of_year a.leap_month) → base ≡ year_with a.related_iso a.new_year a.long_months a.leap_month g h =
    λ g h. ap (λ (f : IsEastAsianYear a.related_iso a.new_year a.leap_month). year_with a.related_iso a.new_year a.long_months a.leap_month f a.few) (valid-one a.related_iso a.new_year a.leap_month a.valid g)
    ∙ ap (year_with a.related_iso a.new_year a.long_months a.leap_month g) (few-one a.long_months a.leap_month a.few h) in
    let s1 = subst (λ (x : ℤ). (g : IsEastAsianYear x a.new_year a.leap_month) (h : a.long_months < 2 ^ months_of_year a.leap_month) → base ≡ year_with x a.new_year a.long_months a.leap_month g h) e1 s0 in
    let s2 = subst (λ (x : ℤ). (g : IsEastAsianYear y x a.leap_month) (h : a.long_months < 2 ^ months_of_year a.leap_month) → base ≡ year_with y x a.long_months a.leap_month g h) e2 s1 in
    let s3 = subst (λ (x : ℕ). (g : IsEastAsianYear y d a.leap_month) (h : x < 2 ^ months_of_year a.leap_month) → base ≡ year_with y d x a.leap_month g h) e3 s2 in
    subst (λ (x : ℕ). (g : IsEastAsianYear y d x) (h : m < 2 ^ months_of_year x) → base ≡ year_with y d m x g h) e4 s3

pub same_parts : (a b : EastAsianTraditionalYear) → a.related_iso ≡ b.related_iso → a.new_year ≡ b.new_year → a.long_months ≡ b.long_months → a.leap_month ≡ b.leap_month → a ≡ b
same_parts a b e1 e2 e3 e4 = same_from a b.related_iso b.new_year b.long_months b.leap_month e1 e2 e3 e4 b.valid b.few

-- the months of a year, as many as those of another in the same place of the leap month, have its bits where they have its days
same_lengths : (starts : List ℤ) (n long other : ℕ) → HaveLengthsOf starts n long → HaveLengthsOf starts n other → long < 2 ^ n → other < 2 ^ n → long ≡ other
same_lengths starts n long other here there few fewer =
    bits-once n long other few fewer
    (λ i low high. let same : pos (month_days long i) ≡ pos (month_days other i) = here i low high ∙ sym (there i low high) in omega (arith, signed, same))

-- a year whose months start on given days is the year with their lengths
pub year_of_starts : (made year : EastAsianTraditionalYear) (starts : List ℤ) → made.related_iso ≡ year.related_iso → made.new_year ≡ year.new_year → made.leap_month ≡ year.leap_month → HaveLengthsOf starts (months_of_year made.leap_month) made.long_months → HaveLengthsOf starts (months_of_year year.leap_month) year.long_months → made.long_months < 2 ^ months_of_year made.leap_month → year.long_months < 2 ^ months_of_year year.leap_month → made ≡ year
year_of_starts made year starts number first place here there few fewer =
    let back = sym place in
    same_parts made year number first
    (same_lengths starts (months_of_year made.leap_month) made.long_months year.long_months here
    (subst (λ (p : ℕ). HaveLengthsOf starts (months_of_year p) year.long_months) back there) few
    (subst (λ (p : ℕ). year.long_months < 2 ^ months_of_year p) back fewer))
    place
