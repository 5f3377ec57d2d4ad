-- The bytes of a number, and a date's parts in its number.
use Rattle.std.proofs.Common.{◌≡◌, ◌∙◌, ℕ, ◌/◌, ◌%◌, ◌<◌, ◌≤◌, ap, sym, refl, arith, inl, inr, ◌⊎◌, List, [], ◌∷◌, ◌++◌, ℤ, pos, negsuc, ◌+ℤ◌, w16, w32, FitsSigned, to_z, of_z}
use Rattle.std.specs.Prelude.{slice_index}
use Rattle.std.specs.Int.{int_shr, to_le_bytes}
use Rattle.std.proofs.lemmas.Int.{to_z-of_z}
use Rattle.cal_days.specs.Day.{IsFieldYear}
use Rattle.cal_days.specs.Division.{floor_div, floor_mod}
use Rattle.cal_days.proofs.Signed.{signed}
use Rattle.cal_days.proofs.DivisionLemmas.{floor_parts}
use Rattle.date_bytes.specs.Bytes.{bytes_of, date_number, date_bytes, number_from, year_from, month_from, day_from}

four : (a b c d e f g h : ℕ) → a ≡ e → b ≡ f → c ≡ g → d ≡ h → a ∷ b ∷ c ∷ d ∷ [] ≡ e ∷ f ∷ g ∷ h ∷ []
four a b c d e f g h p q r s = cc

-- the bytes of the bits are those of the number
pub bytes-four : (z : ℤ) → FitsSigned w32 z → to_le_bytes w32 (of_z w32 z) ≡ bytes_of 4 z
bytes-four (pos n) fits =
    let p1 = floor_parts (pos n) 256 (omega arith) in
    let p2 = floor_parts (floor_div (pos n) 256) 256 (omega arith) in
    let p3 = floor_parts (floor_div (floor_div (pos n) 256) 256) 256 (omega arith) in
    let p4 = floor_parts (floor_div (floor_div (floor_div (pos n) 256) 256) 256) 256 (omega arith) in
    four _ _ _ _ _ _ _ _ (omega (arith, signed, p1)) (omega (arith, signed, p1, p2)) (omega (arith, signed, p1, p2, p3)) (omega (arith, signed, p1, p2, p3, p4))
bytes-four (negsuc n) fits =
    let p1 = floor_parts (negsuc n) 256 (omega arith) in
    let p2 = floor_parts (floor_div (negsuc n) 256) 256 (omega arith) in
    let p3 = floor_parts (floor_div (floor_div (negsuc n) 256) 256) 256 (omega arith) in
    let p4 = floor_parts (floor_div (floor_div (floor_div (negsuc n) 256) 256) 256) 256 (omega arith) in
    four _ _ _ _ _ _ _ _ (omega (arith, signed, p1, fits)) (omega (arith, signed, p1, p2, fits)) (omega (arith, signed, p1, p2, p3, fits)) (omega (arith, signed, p1, p2, p3, p4, fits))

pub bytes-said : (z n : ℤ) (bytes : List ℕ) → bytes ≡ to_le_bytes w32 (of_z w32 (to_z w32 (of_z w32 z))) → z ≡ n → FitsSigned w32 n → bytes ≡ bytes_of 4 n
bytes-said z n bytes said same fits = said ∙ ap (λ (x : ℤ). to_le_bytes w32 (of_z w32 (to_z w32 (of_z w32 x)))) same ∙ ap (λ (x : ℤ). to_le_bytes w32 (of_z w32 x)) (to_z-of_z w32 n fits) ∙ bytes-four n fits

-- and hold it
pub value-four : (n : ℕ) → n < 4294967296 → number_from 0 (to_le_bytes w32 n) ≡ n
value-four n small = omega arith

-- a shift by nine bits rounds down
pub shifted : (z : ℤ) → int_shr z 9 ≡ floor_div z 512
shifted (pos n) = omega (arith, signed, floor_parts (pos n) 512 (omega arith))
shifted (negsuc n) = omega (arith, signed, floor_parts (negsuc n) 512 (omega arith))

-- a number's bits are the number, or 2 ^ 32 more where it is negative
pub bits-parts : (z : ℤ) → FitsSigned w32 z → (of_z w32 z < 4294967296) × ((pos (of_z w32 z) ≡ z) ⊎ (pos (of_z w32 z) ≡ z +ℤ pos 4294967296))
bits-parts (pos n) fits = (omega (arith, signed, fits), inl refl)
bits-parts (negsuc n) fits = (omega (arith, signed, fits), inr (omega (arith, signed, fits)))

-- a date's number fits
pub number-fits : (y : ℤ) (m d : ℕ) → IsFieldYear y → m ≤ 13 → d ≤ 31 → FitsSigned w32 (date_number y m d)
number-fits y m d field few short = omega (arith, signed, field)

module _ (y : ℤ) (m d : ℕ) (field : IsFieldYear y) (few : m ≤ 13) (short : d ≤ 31) where
  abbrev number : ℤ
  number = date_number y m d

  fits : FitsSigned w32 number
  fits = number-fits y m d field few short

  value : number_from 0 (date_bytes y m d) ≡ of_z w32 number
  value = ap (number_from 0) (sym (bytes-four number fits)) ∙ value-four (of_z w32 number) (bits-parts number fits).0

  -- what the bytes of a date hold are its parts
  pub year-kept : year_from 0 (date_bytes y m d) ≡ y
  year-kept =
      let whole : floor_div number 512 ≡ y = omega (arith, signed, floor_parts number 512 (omega arith)) in
      ap (λ (n : ℕ). floor_div (to_z w32 n) 512) value ∙ ap (λ (z : ℤ). floor_div z 512) (to_z-of_z w32 number fits) ∙ whole

  pub month-kept : month_from 0 (date_bytes y m d) ≡ m
  month-kept =
      let month : of_z w32 number / 32 % 16 ≡ m = omega (arith, signed, (bits-parts number fits).1) in
      ap (λ (n : ℕ). n / 32 % 16) value ∙ month

  pub day-kept : day_from 0 (date_bytes y m d) ≡ d
  day-kept =
      let day : of_z w32 number % 32 ≡ d = omega (arith, signed, (bits-parts number fits).1) in
      ap (λ (n : ℕ). n % 32) value ∙ day

year-arrives : (y : ℤ) (m d : ℕ) → IsFieldYear y → date_bytes (to_z w32 (of_z w32 y)) m d ≡ date_bytes y m d
year-arrives y m d field = let same : to_z w32 (of_z w32 y) ≡ y = omega (arith, signed, field) in ap (λ (x : ℤ). date_bytes x m d) same

-- two or three bytes before those of a date
pub six : (n : ℕ) (y : ℤ) (m d : ℕ) (bs ds : List ℕ) → n < 65536 → IsFieldYear y → bs ≡ to_le_bytes w16 n → ds ≡ date_bytes (to_z w32 (of_z w32 y)) m d
    → slice_index bs 0 ∷ slice_index bs 1 ∷ slice_index ds 0 ∷ slice_index ds 1 ∷ slice_index ds 2 ∷ slice_index ds 3 ∷ [] ≡ bytes_of 2 (pos n) ++ date_bytes y m d
six n y m d bs ds small field front back =
    let p1 = floor_parts (pos n) 256 (omega arith) in
    let p2 = floor_parts (floor_div (pos n) 256) 256 (omega arith) in
    let low : n % 256 ≡ floor_mod (pos n) 256 = omega (arith, signed, p1) in
    let high : n / 256 % 256 ≡ floor_mod (floor_div (pos n) 256) 256 = omega (arith, signed, p1, p2) in
    let date = back ∙ year-arrives y m d field in
    rw (front, date) (ap (λ (b : ℕ). b ∷ n / 256 % 256 ∷ date_bytes y m d) low ∙ ap (λ (b : ℕ). floor_mod (pos n) 256 ∷ b ∷ date_bytes y m d) high)

pub seven : (n : ℕ) (y : ℤ) (m d : ℕ) (bs ds : List ℕ) → n < 16777216 → IsFieldYear y → bs ≡ to_le_bytes w32 n → ds ≡ date_bytes (to_z w32 (of_z w32 y)) m d
    → slice_index bs 0 ∷ slice_index bs 1 ∷ slice_index bs 2 ∷ slice_index ds 0 ∷ slice_index ds 1 ∷ slice_index ds 2 ∷ slice_index ds 3 ∷ [] ≡ bytes_of 3 (pos n) ++ date_bytes y m d
seven n y m d bs ds small field front back =
    let p1 = floor_parts (pos n) 256 (omega arith) in
    let p2 = floor_parts (floor_div (pos n) 256) 256 (omega arith) in
    let p3 = floor_parts (floor_div (floor_div (pos n) 256) 256) 256 (omega arith) in
    let low : n % 256 ≡ floor_mod (pos n) 256 = omega (arith, signed, p1) in
    let middle : n / 256 % 256 ≡ floor_mod (floor_div (pos n) 256) 256 = omega (arith, signed, p1, p2) in
    let high : n / 65536 % 256 ≡ floor_mod (floor_div (floor_div (pos n) 256) 256) 256 = omega (arith, signed, p1, p2, p3) in
    let date = back ∙ year-arrives y m d field in
    rw (front, date)
    (ap (λ (b : ℕ). b ∷ n / 256 % 256 ∷ n / 65536 % 256 ∷ date_bytes y m d) low
    ∙ ap (λ (b : ℕ). floor_mod (pos n) 256 ∷ b ∷ n / 65536 % 256 ∷ date_bytes y m d) middle
    ∙ ap (λ (b : ℕ). floor_mod (pos n) 256 ∷ floor_mod (floor_div (pos n) 256) 256 ∷ b ∷ date_bytes y m d) high)
