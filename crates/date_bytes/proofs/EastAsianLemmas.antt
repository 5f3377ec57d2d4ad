-- What is kept of a Chinese or Korean year comes back from its bits.
use Rattle.std.proofs.Common.{◌≡◌, ◌∙◌, ◌++◌, ◌/◌, ◌%◌, ◌<◌, ◌≤◌, inl, inr, ℕ, List, Bool, nat_eq, if◌then◌else◌, refl, ap, subst, arith, pos}
use Rattle.std.proofs.lemmas.Bool.Decides.{nat_tests}
use Rattle.cal_days.specs.Division.{floor_div}
use Rattle.cal_days.proofs.Signed.{signed, by_bool}
use Rattle.cal_days.proofs.DivisionLemmas.{floor_parts}
use Rattle.date_bytes.specs.Bytes.{bytes_of}
use Rattle.date_bytes.specs.EastAsianBytes.{IsLeapPlace, bits_in, bits_of_places, east_asian_bits, place_of}

-- what the bytes hold is the number
pub bits-held : (n : ℕ) (rest : List ℕ) → n < 16777216 → bits_in (bytes_of 3 (pos n) ++ rest) ≡ n
bits-held n rest small =
    let p1 = floor_parts (pos n) 256 (omega arith) in
    let p2 = floor_parts (floor_div (pos n) 256) 256 (omega arith) in
    let p3 = floor_parts (floor_div (floor_div (pos n) 256) 256) 256 (omega arith) in
    omega (arith, signed, p1, p2, p3)

places-most : (leap : ℕ) → bits_of_places leap ≤ 8192
places-most leap = grind (arith, nat_tests)

pub bits-small : (long leap start : ℕ) → long < bits_of_places leap → IsLeapPlace leap → start ≤ 34 → east_asian_bits long leap start < 16777216
bits-small long leap start few (inl none) soon = omega (arith, few, none, soon, places-most leap)
bits-small long leap start few (inr place) soon = omega (arith, few, place, soon, places-most leap)

pub place-kept : (leap : ℕ) → IsLeapPlace leap → place_of leap ≡ leap
place-kept leap (inl none) = rw none refl
place-kept leap (inr place) = grind (arith, nat_tests)

leap-held : (long leap start : ℕ) → long < bits_of_places leap → IsLeapPlace leap → east_asian_bits long leap start / 8192 % 16 ≡ leap
leap-held long leap start few (inl none) = omega (arith, few, none, places-most leap)
leap-held long leap start few (inr place) = omega (arith, few, place, places-most leap)

rest-held : (long leap start : ℕ) → long < bits_of_places leap → IsLeapPlace leap → east_asian_bits long leap start % bits_of_places leap ≡ long
rest-held long leap start few place =
    by_bool {P = east_asian_bits long leap start % bits_of_places leap ≡ long} (nat_eq leap 0)
    (λ none.
    let zero : leap ≡ 0 = grind (arith, nat_tests) in
    let less : long < 4096 = subst (λ (b : Bool). long < (if b then 4096 else 8192)) none few in
    rw none (omega (arith, less, zero)))
    (λ some.
    let less : long < 8192 = subst (λ (b : Bool). long < (if b then 4096 else 8192)) some few in
    rw some (omega (arith, less)))

pub long-kept : (long leap start : ℕ) → long < bits_of_places leap → IsLeapPlace leap → east_asian_bits long leap start % bits_of_places (place_of (east_asian_bits long leap start / 8192 % 16)) ≡ long
long-kept long leap start few place =
    ap (λ (p : ℕ). east_asian_bits long leap start % bits_of_places p) (ap place_of (leap-held long leap start few place) ∙ place-kept leap place)
    ∙ rest-held long leap start few place
