-- Decimal numbers and years: what is written is read, and what is read is written so.
use Rattle.std.proofs.Common.{◌≡◌, ℕ, ◌+◌, ◌-◌, ◌*◌, ◌/◌, ◌%◌, ◌<◌, Bool, true, false, ◌&&◌, ◌==◌, cond, if◌then◌else◌, List, [], ◌∷◌, ◌++◌, Some, None, refl, sym, ap, ◌∙◌, arith, ℤ, pos, neg_ℤ}
use Rattle.std.proofs.lemmas.Bool.Decides.{nat_tests}
use Rattle.std.specs.Char.{is_ascii_digit}
use Rattle.std.specs.Int.{is_in_range}
use Rattle.std.specs.Option.{option_map, option_and_then}
use Rattle.cal_days.specs.Day.{IsBetween}
use Rattle.cal_days.proofs.Signed.{signed}
use Rattle.icu_calendar.specs.DateText.{two_digits, four_digits, six_digits, YearForm, FourDigits, Plus, Minus, HasForm, year_of, year_text}
use Rattle.icu_calendar.specs.DateTextReading.{Read, two_digits_read, four_digits_read, six_digits_read, high_and_low, year_from, year_below_0, year_read, part_read}
use Rattle.icu_calendar.proofs.OptionLemmas.{and_then-inverts, map-inverts, some_pair}

pub two_digits-written : (n : ℕ) (rest : List ℕ) → n < 100 → two_digits_read (two_digits n ++ rest) ≡ Some (n, rest)
unfolding two_digits_read
two_digits-written n rest h =
    let digits : (is_in_range 48 57 (48 + n / 10) && is_in_range 48 57 (48 + n % 10)) ≡ true = grind (arith, nat_tests) in
    let value : 10 * (48 + n / 10 - 48) + (48 + n % 10 - 48) ≡ n = omega arith in
    rw (digits, value)

pub four_digits-written : (n : ℕ) (rest : List ℕ) → n < 10000 → four_digits_read (four_digits n ++ rest) ≡ Some (n, rest)
unfolding four_digits_read
four_digits-written n rest h =
    let a = two_digits-written (n / 100) (two_digits (n % 100) ++ rest) (omega arith) in
    let b = two_digits-written (n % 100) rest (omega arith) in
    let value : 100 * (n / 100) + n % 100 ≡ n = omega arith in
    rw (a, b, value)

pub six_digits-written : (n : ℕ) (rest : List ℕ) → n < 1000000 → six_digits_read (six_digits n ++ rest) ≡ Some (n, rest)
unfolding six_digits_read
six_digits-written n rest h =
    let a = two_digits-written (n / 10000) (four_digits (n % 10000) ++ rest) (omega arith) in
    let b = four_digits-written (n % 10000) rest (omega arith) in
    let value : 10000 * (n / 10000) + n % 10000 ≡ n = omega arith in
    rw (a, b, value)

pub year-written : (form : YearForm) (n : ℕ) (rest : List ℕ) → HasForm form n → year_read (year_text form n ++ rest) ≡ Some (year_of form n, rest)
unfolding year_read
year-written FourDigits n rest h =
    let no_plus : ((48 + n / 100 / 10) == 43) ≡ false = grind (arith, nat_tests) in
    let no_minus : ((48 + n / 100 / 10) == 45) ≡ false = grind (arith, nat_tests) in
    rw (no_plus, no_minus, four_digits-written n rest h)
year-written Plus n rest h = rw (six_digits-written n rest h)
year-written Minus n rest h =
    let not_0 : (n == 0) ≡ false = grind (arith, nat_tests) in
    rw (six_digits-written n rest h.1, not_0)

pub part-written : (n : ℕ) (rest : List ℕ) → n < 100 → part_read (45 ∷ two_digits n ++ rest) ≡ Some (n, rest)
unfolding part_read
part-written n rest h = two_digits-written n rest h

-- what was read, as it is written
abbrev pub IsWritten : (ℕ → List ℕ) → ℕ → List ℕ → ℕ → List ℕ → Type 0
IsWritten write most text n rest = (text ≡ write n ++ rest) × (n < most)

pub two_digits-read : (text rest : List ℕ) (n : ℕ) → two_digits_read text ≡ Some (n, rest) → IsWritten two_digits 100 text n rest
unfolding two_digits_read
two_digits-read [] rest n e = absurd cc
two_digits-read (t ∷ []) rest n e = absurd cc
two_digits-read (t ∷ u ∷ s) rest n e = by (is_ascii_digit t && is_ascii_digit u) refl e
  where
    by : (b : Bool) → (is_ascii_digit t && is_ascii_digit u) ≡ b → cond {A = Read ℕ} b (Some (10 * (t - 48) + (u - 48), s)) None ≡ Some (n, rest) → IsWritten two_digits 100 (t ∷ u ∷ s) n rest
    by false d e = absurd cc
    by true d e =
        let parts = some_pair (10 * (t - 48) + (u - 48)) n s rest e in
        let tens : t ≡ 48 + n / 10 = grind (arith, nat_tests, parts.0) in
        let units : u ≡ 48 + n % 10 = grind (arith, nat_tests, parts.0) in
        (rw (tens, units, parts.1) refl, grind (arith, nat_tests, parts.0))

-- the two numbers that were read one behind the other
record HighAndLow (scale : ℕ) (first : Read ℕ) (second : List ℕ → Read ℕ) (n : ℕ) (rest : List ℕ) : Type 0 where
  high : ℕ
  middle : List ℕ
  low : ℕ
  front : first ≡ Some (high, middle)
  back : second middle ≡ Some (low, rest)
  value : scale * high + low ≡ n

high_and_low-read : (scale : ℕ) (first : Read ℕ) (second : List ℕ → Read ℕ) (n : ℕ) (rest : List ℕ) → high_and_low scale first second ≡ Some (n, rest) → HighAndLow scale first second n rest
high_and_low-read scale None second n rest e = absurd cc
high_and_low-read scale (Some p) second n rest e = by (second p.1) refl e
  where
    by : (o : Read ℕ) → second p.1 ≡ o → option_map {U = ℕ × List ℕ} (λ low. (scale * p.0 + low.0, low.1)) o ≡ Some (n, rest) → HighAndLow scale (Some p) second n rest
    by None s e = absurd cc
    by (Some q) s e =
        let parts = some_pair (scale * p.0 + q.0) n q.1 rest e in
        record {
          high = p.0;
          middle = p.1;
          low = q.0;
          front = refl;
          back = s ∙ ap (λ (r : List ℕ). Some (q.0, r)) parts.1;
          value = parts.0;
        }

pub four_digits-read : (text rest : List ℕ) (n : ℕ) → four_digits_read text ≡ Some (n, rest) → IsWritten four_digits 10000 text n rest
unfolding four_digits_read
four_digits-read text rest n e =
    let parts = high_and_low-read 100 (two_digits_read text) two_digits_read n rest e in
    let front = two_digits-read text parts.middle parts.high parts.front in
    let back = two_digits-read parts.middle rest parts.low parts.back in
    let high : parts.high ≡ n / 100 = omega (arith, parts.value, back.1) in
    let low : parts.low ≡ n % 100 = omega (arith, parts.value, back.1) in
    let middle : parts.middle ≡ two_digits (n % 100) ++ rest = back.0 ∙ ap (λ (m : ℕ). two_digits m ++ rest) low in
    (front.0 ∙ (ap (λ (m : ℕ). two_digits m ++ parts.middle) high ∙ ap (λ (s : List ℕ). two_digits (n / 100) ++ s) middle), omega (arith, parts.value, front.1, back.1))

pub six_digits-read : (text rest : List ℕ) (n : ℕ) → six_digits_read text ≡ Some (n, rest) → IsWritten six_digits 1000000 text n rest
unfolding six_digits_read
six_digits-read text rest n e =
    let parts = high_and_low-read 10000 (two_digits_read text) four_digits_read n rest e in
    let front = two_digits-read text parts.middle parts.high parts.front in
    let back = four_digits-read parts.middle rest parts.low parts.back in
    let high : parts.high ≡ n / 10000 = omega (arith, parts.value, back.1) in
    let low : parts.low ≡ n % 10000 = omega (arith, parts.value, back.1) in
    let middle : parts.middle ≡ four_digits (n % 10000) ++ rest = back.0 ∙ ap (λ (m : ℕ). four_digits m ++ rest) low in
    (front.0 ∙ (ap (λ (m : ℕ). two_digits m ++ parts.middle) high ∙ ap (λ (s : List ℕ). two_digits (n / 10000) ++ s) middle), omega (arith, parts.value, front.1, back.1))

-- the form in which a year was written
pub record YearWritten (text : List ℕ) (y : ℤ) (rest : List ℕ) : Type 0 where
  pub form : YearForm
  pub number : ℕ
  pub fits : HasForm form number
  pub year : y ≡ year_of form number
  pub written : text ≡ year_text form number ++ rest

four_digits_year : (text rest : List ℕ) (y : ℤ) → option_map year_from (four_digits_read text) ≡ Some (y, rest) → YearWritten text y rest
four_digits_year text rest y e =
    let found = map-inverts year_from (four_digits_read text) (y, rest) e in
    let p = found.0 in
    let written = four_digits-read text p.1 p.0 found.1 in
    let year : pos p.0 ≡ y = ap (λ (q : ℤ × List ℕ). q.0) found.2 in
    let left : p.1 ≡ rest = ap (λ (q : ℤ × List ℕ). q.1) found.2 in
    record { form = FourDigits; number = p.0; fits = written.1; year = sym year; written = written.0 ∙ ap (λ (s : List ℕ). four_digits p.0 ++ s) left }

signed_text : (sign byte : ℕ) (text rest digits left : List ℕ) → sign ≡ byte → text ≡ digits ++ left → left ≡ rest → sign ∷ text ≡ (byte ∷ digits) ++ rest
signed_text sign byte text rest digits left is written same =
    ap (λ (b : ℕ). b ∷ text) is ∙ ap (λ (s : List ℕ). byte ∷ s) (written ∙ ap (λ (s : List ℕ). digits ++ s) same)

plus_year : (sign : ℕ) (text rest : List ℕ) (y : ℤ) → sign ≡ 43 → option_map year_from (six_digits_read text) ≡ Some (y, rest) → YearWritten (sign ∷ text) y rest
plus_year sign text rest y plus e =
    let found = map-inverts year_from (six_digits_read text) (y, rest) e in
    let p = found.0 in
    let written = six_digits-read text p.1 p.0 found.1 in
    let year : pos p.0 ≡ y = ap (λ (q : ℤ × List ℕ). q.0) found.2 in
    let left : p.1 ≡ rest = ap (λ (q : ℤ × List ℕ). q.1) found.2 in
    record { form = Plus; number = p.0; fits = written.1; year = sym year; written = signed_text sign 43 text rest (six_digits p.0) p.1 plus written.0 left }

minus_year : (sign : ℕ) (text rest : List ℕ) (y : ℤ) → sign ≡ 45 → option_and_then year_below_0 (six_digits_read text) ≡ Some (y, rest) → YearWritten (sign ∷ text) y rest
minus_year sign text rest y minus e =
    let found = and_then-inverts year_below_0 (six_digits_read text) (y, rest) e in
    by found.0 found.1 (found.0.0 == 0) refl found.2
  where
    by : (p : ℕ × List ℕ) → six_digits_read text ≡ Some p → (b : Bool) → (p.0 == 0) ≡ b → cond {A = Read ℤ} b None (Some (neg_ℤ (pos p.0), p.1)) ≡ Some (y, rest) → YearWritten (sign ∷ text) y rest
    by p found true zero e = absurd cc
    by p found false some e =
        let written = six_digits-read text p.1 p.0 found in
        let parts = some_pair (neg_ℤ (pos p.0)) y p.1 rest e in
        record { form = Minus; number = p.0; fits = (grind (arith, nat_tests, some), written.1); year = sym parts.0; written = signed_text sign 45 text rest (six_digits p.0) p.1 minus written.0 parts.1 }

pub year-read : (text rest : List ℕ) (y : ℤ) → year_read text ≡ Some (y, rest) → YearWritten text y rest
unfolding year_read
year-read [] rest y e = four_digits_year [] rest y e
year-read (sign ∷ text) rest y e = by (sign == 43) refl e
  where
    unsigned : (b : Bool) → (sign == 45) ≡ b → cond b (option_and_then year_below_0 (six_digits_read text)) (option_map year_from (four_digits_read (sign ∷ text))) ≡ Some (y, rest) → YearWritten (sign ∷ text) y rest
    unsigned true minus e = minus_year sign text rest y (grind (arith, nat_tests, minus)) e
    unsigned false minus e = four_digits_year (sign ∷ text) rest y e

    by : (b : Bool) → (sign == 43) ≡ b → cond b (option_map year_from (six_digits_read text)) (if sign == 45 then option_and_then year_below_0 (six_digits_read text) else option_map year_from (four_digits_read (sign ∷ text))) ≡ Some (y, rest) → YearWritten (sign ∷ text) y rest
    by true plus e = plus_year sign text rest y (grind (arith, nat_tests, plus)) e
    by false plus e = unsigned (sign == 45) refl e

pub part-read : (text rest : List ℕ) (n : ℕ) → part_read text ≡ Some (n, rest) → (text ≡ 45 ∷ two_digits n ++ rest) × (n < 100)
unfolding part_read
part-read [] rest n e = absurd cc
part-read (minus ∷ text) rest n e = by (minus == 45) refl e
  where
    by : (b : Bool) → (minus == 45) ≡ b → cond b (two_digits_read text) None ≡ Some (n, rest) → (minus ∷ text ≡ 45 ∷ two_digits n ++ rest) × (n < 100)
    by true is e =
        let written = two_digits-read text rest n e in
        let same : minus ≡ 45 = grind (arith, nat_tests, is) in
        (signed_text minus 45 text rest (two_digits n) rest same written.0 refl, written.1)
    by false is e = absurd cc

-- a year that a text writes
pub year_of-range : (form : YearForm) (n : ℕ) → HasForm form n → IsBetween (neg_ℤ (pos 999999)) (pos 999999) (year_of form n)
year_of-range FourDigits n h = (omega (arith, signed), omega (arith, signed))
year_of-range Plus n h = (omega (arith, signed), omega (arith, signed))
year_of-range Minus n h = (omega (arith, signed, h.1), omega (arith, signed))
