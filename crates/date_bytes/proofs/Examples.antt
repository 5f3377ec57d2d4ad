-- What some dates are packed into.
use Rattle.std.proofs.Common.{◌≡◌, refl, [], ◌∷◌, pos, neg_ℤ}
use Rattle.cal_days.specs.Division.{floor_div, floor_mod}
use Rattle.date_bytes.specs.Bytes.{date_bytes}
use Rattle.date_bytes.specs.HebrewBytes.{hebrew_bytes}
use Rattle.date_bytes.specs.HijriBytes.{hijri_bytes}

-- ISO 2024-03-01
pub iso : date_bytes (pos 2024) 3 1 ≡ 97 ∷ 208 ∷ 15 ∷ 0 ∷ []
unfolding floor_div floor_mod
iso = refl

-- Hebrew 5787 M05L 10: the sixth place of a year of 385 days
pub hebrew : hebrew_bytes (pos 5787) 385 6 10 ≡ 5 ∷ 202 ∷ 54 ∷ 45 ∷ 0 ∷ []
unfolding floor_div floor_mod
hebrew = refl

-- the last day of the year before year 1, and the first year that fields may name
pub before : date_bytes (pos 0) 12 31 ≡ 159 ∷ 1 ∷ 0 ∷ 0 ∷ []
unfolding floor_div floor_mod
before = refl

pub earliest : date_bytes (neg_ℤ (pos 1040000)) 1 1 ≡ 33 ∷ 0 ∷ 67 ∷ 224 ∷ []
unfolding floor_div floor_mod
earliest = refl

-- a Hijri year that starts a day before its mean start
pub hijri : hijri_bytes (pos 1445) 1365 (neg_ℤ (pos 1)) 1 1 ≡ 85 ∷ 53 ∷ 33 ∷ 74 ∷ 11 ∷ 0 ∷ []
unfolding floor_div floor_mod
hijri = refl
