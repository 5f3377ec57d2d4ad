-- The year that a row gives: there is at most one, and whether there is one is decided.
use Rattle.std.proofs.Common.{◌≡◌, ◌∙◌, ℕ, zero, suc, ◌+◌, ◌-◌, ◌*◌, ◌/◌, ◌%◌, ◌^◌, ◌<◌, ◌≤◌, ◌⊎◌, inl, inr, Bool, true, false, cond, List, [], ◌∷◌, ◌++◌, length, take, drop, set, Option, Some, None, MatchOption, ◌↔◌, refl, sym, ap, subst, arith, ℤ, pos, negsuc, ◌+ℤ◌, ◌-ℤ◌, ◌≤ℤ◌}
use Rattle.std.specs.Prelude.{IsTrue, IsSome, IfSome, if◌then◌else◌, slice_index_or}
use Rattle.std.specs.Ordering.{int_eq}
use Rattle.std.proofs.lemmas.Bool.Decides.{Decides-int_eq}
use Rattle.std.proofs.lemmas.List.{append-nil, append_assoc, take_more_set}
use Rattle.std.proofs.Math.Seq.{take-length}
use Rattle.std.proofs.Math.Nat.{div-div-eq-div-mul}
use native.Mathlib.Numerals.{unary_clauses}
use Rattle.cal_days.specs.Day.{IsBetween, is_between, IsRuleYear}
use Rattle.cal_days.proofs.RangeLemmas.{is_between-true, true-is_between}
use Rattle.cal_days.proofs.Signed.{signed, by_bool, by_lt}
use Rattle.cal_hijri.specs.HijriRows.{row_year}
use Rattle.cal_hijri.specs.HijriMonths.{IsNearMean}
use Rattle.cal_hijri.specs.laws.HijriMonthLaws.{month_days-within}
use Rattle.cal_hijri.specs.MonthStarts as hijri
use Rattle.cal_hijri.specs.laws.SameYears.{year_of_starts}
use Rattle.cal_hijri.proofs.LengthBits.{month_days-bit}
use Rattle.cal_hijri.specs.declared.hijri_row.HijriRow.{HijriRow}
use Rattle.cal_hijri.specs.declared.hijri_year.HijriYear.{HijriYear}
use Rattle.cal_east_asian.specs.EastAsianYear.{IsNewYear, is_leap_place, months_of_year}
use Rattle.cal_east_asian.specs.MonthStarts as east_asian
use Rattle.cal_east_asian.specs.laws.SameParts as same_years
use Rattle.cal_east_asian.specs.declared.east_asian_traditional_year.EastAsianTraditionalYear.{EastAsianTraditionalYear}
use Rattle.request_lines.specs.Rows.{YearRow}
use Rattle.table_rows.specs.RowYears.{days_at, starts_of, IsHijriYear, IsEastAsianYear}

-- 1 where the month at i has 30 days
abbrev start_bit : List ℤ → ℕ → ℕ
start_bit starts i = if int_eq (slice_index_or starts (i + 1) (pos 0) -ℤ slice_index_or starts i (pos 0)) (pos 30) then 1 else 0

-- n months from the one at i, the first month's bit lowest
abbrev start_bits : List ℤ → ℕ → ℕ → ℕ
start_bits starts i zero = 0
start_bits starts i (suc n) = start_bits starts (i + 1) n * 2 + start_bit starts i

-- a statement holds, or it doesn't
abbrev Decided : Type 0 → Type 0
Decided P = P ⊎ (P → ⊥)

both_decided : {P Q : Type 0} → Decided P → Decided Q → Decided (P × Q)
both_decided (inl p) (inl q) = inl (p, q)
both_decided (inl p) (inr no_q) = inr (λ h. no_q h.1)
both_decided (inr no_p) q = inr (λ h. no_p h.0)

true_decided : (b : Bool) → Decided (IsTrue b)
true_decided true = inl refl
true_decided false = inr (λ h. cc)

between_decided : (low high z : ℤ) → Decided (IsBetween low high z)
between_decided low high z =
    by_bool {P = Decided (IsBetween low high z)} (is_between low high z)
    (λ on. inl (is_between-true low high z on))
    (λ off. inr (λ h. let none : true ≡ false = sym (true-is_between low high z h) ∙ off in absurd cc))

-- a statement of the numbers from 1 to n
all_decided : (P : ℕ → Type 0) → ((i : ℕ) → Decided (P i)) → (n : ℕ) → Decided ((i : ℕ) → 1 ≤ i → i ≤ n → P i)
all_decided P each zero = inl (λ i low high. absurd (omega arith))
all_decided P each (suc n) = by (all_decided P each n) (each (suc n))
  where
    by : Decided ((i : ℕ) → 1 ≤ i → i ≤ n → P i) → Decided (P (suc n)) → Decided ((i : ℕ) → 1 ≤ i → i ≤ suc n → P i)
    by (inr none) last = inr (λ h. none (λ i low high. h i low (omega arith)))
    by (inl all) (inr none) = inr (λ h. none (h (suc n) (omega arith) (omega arith)))
    by (inl all) (inl last) = inl (λ i low high.
        by_lt {P = P i} i (suc n)
        (λ lt. all i low (omega arith))
        (λ le. let same : suc n ≡ i = omega arith in subst P same last))

-- the first start is the first day
first_start : (n : ℕ) (day : ℤ) (letters : List ℕ) → hijri.start_at (starts_of (suc n) day letters) 0 ≡ day
first_start n day [] = refl
first_start n day (b ∷ letters) = refl

-- a bit is 0 or 1
bit-most : (starts : List ℤ) (i : ℕ) → start_bit starts i ≤ 1
bit-most starts i =
    let test = int_eq (hijri.start_at starts (i + 1) -ℤ hijri.start_at starts i) (pos 30) in
    by_bool {P = cond test 1 0 ≤ 1} test (λ on. rw on (omega arith)) (λ off. rw off (omega arith))

-- and is that of a month of 29 or 30 days
bit-days : (starts : List ℤ) (i : ℕ) → 1 ≤ i → IsBetween (pos 29) (pos 30) (hijri.days_between starts i)
    → pos (29 + start_bit starts (i - 1)) ≡ hijri.days_between starts i
bit-days starts i some h =
    let days = hijri.days_between starts i in
    let next : i - 1 + 1 ≡ i = omega arith in
    let test : int_eq (hijri.start_at starts (i - 1 + 1) -ℤ hijri.start_at starts (i - 1)) (pos 30) ≡ int_eq days (pos 30) = ap (λ (k : ℕ). int_eq (hijri.start_at starts k -ℤ hijri.start_at starts (i - 1)) (pos 30)) next in
    ap (λ (b : Bool). pos (29 + cond b 1 0)) test
    ∙ by_bool {P = pos (29 + cond (int_eq days (pos 30)) 1 0) ≡ days} (int_eq days (pos 30))
    (λ on. ap (λ (b : Bool). pos (29 + cond b 1 0)) on ∙ sym ((Decides-int_eq days (pos 30)).0 on))
    (λ off. ap (λ (b : Bool). pos (29 + cond b 1 0)) off ∙ short days h off)
  where
    short : (z : ℤ) → IsBetween (pos 29) (pos 30) z → int_eq z (pos 30) ≡ false → pos 29 ≡ z
    short (pos d) h off =
        by_lt {P = pos 29 ≡ pos d} d 30
        (λ lt.
        let low : pos 29 ≤ℤ pos d = h.0 in
        let e : 29 ≡ d = omega (arith, signed) in
        ap pos e)
        (λ le.
        let high : pos d ≤ℤ pos 30 = h.1 in
        let full : pos d ≡ pos 30 = omega (arith, signed) in
        let none : true ≡ false = sym ((Decides-int_eq (pos d) (pos 30)).1 full) ∙ off in
        absurd cc)
    short (negsuc d) h off =
        let low : pos 29 ≤ℤ negsuc d = h.0 in
        absurd (omega (arith, signed))

-- one more bit below moves the others up
halves : (long b k : ℕ) → b ≤ 1 → (long * 2 + b) / 2 ^ (suc k) ≡ long / 2 ^ k
halves long b k h =
    let half : (long * 2 + b) / 2 ≡ long = omega arith in
    let double : 2 ^ (suc k) ≡ 2 * 2 ^ k = simp unary_clauses (omega arith) in
    rw double (sym (div-div-eq-div-mul (long * 2 + b) 2 (2 ^ k)) ∙ ap (λ (n : ℕ). n / 2 ^ k) half)

-- the bits of n months stand one after another
bits-at : (starts : List ℤ) (n i k : ℕ) → k < n → start_bits starts i n / 2 ^ k % 2 ≡ start_bit starts (i + k)
bits-at starts zero i k h = absurd (omega arith)
bits-at starts (suc n) i zero h =
    let same : i + 0 ≡ i = omega arith in
    let most = bit-most starts i in
    let lowest : (start_bits starts (i + 1) n * 2 + start_bit starts i) / 1 % 2 ≡ start_bit starts i = omega arith in
    rw same lowest
bits-at starts (suc n) i (suc k) h =
    let same : i + 1 + k ≡ i + suc k = omega arith in
    ap (λ (q : ℕ). q % 2) (halves (start_bits starts (i + 1) n) (start_bit starts i) k (bit-most starts i))
    ∙ bits-at starts n (i + 1) k (omega arith)
    ∙ ap (start_bit starts) same

-- and are few
bits-few : (starts : List ℤ) (n i : ℕ) → start_bits starts i n < 2 ^ n
bits-few starts zero i = omega arith
bits-few starts (suc n) i =
    let rest = bits-few starts n (i + 1) in
    let most = bit-most starts i in
    let double : 2 ^ (suc n) ≡ 2 * 2 ^ n = simp unary_clauses (omega arith) in
    rw double (omega arith)

-- so they give the lengths of the months
bits-days : (starts : List ℤ) (n i : ℕ) → 1 ≤ i → i ≤ n → IsBetween (pos 29) (pos 30) (hijri.days_between starts i)
    → pos (29 + start_bits starts 0 n / 2 ^ (i - 1) % 2) ≡ hijri.days_between starts i
bits-days starts n i low high h =
    let same : 0 + (i - 1) ≡ i - 1 = omega arith in
    ap (λ (b : ℕ). pos (29 + b)) (bits-at starts n 0 (i - 1) (omega arith) ∙ ap (start_bit starts) same) ∙ bit-days starts i low h

-- the starts of a row of a Hijri year are those of a year
pub hijri_year-starts : (r : YearRow) (y : HijriYear) → IsHijriYear r y → hijri.AreMonthStarts r.year (starts_of 13 r.start r.lengths)
hijri_year-starts r y h =
    let starts = starts_of 13 r.start r.lengths in
    record {
      year = h.within;
      near = subst (IsNearMean r.year) (h.first ∙ sym (first_start 12 r.start r.lengths)) (subst (λ (z : ℤ). IsNearMean z y.first_day) h.number y.near);
      months = λ i low high.
          let days = h.lengths i low high in
          let within = month_days-within y.long_months i low high in
          (omega (arith, signed), omega (arith, signed));
    }

-- and where they are, there is one
pub starts-hijri_year : (r : YearRow) → hijri.AreMonthStarts r.year (starts_of 13 r.start r.lengths) → (y : HijriYear) × IsHijriYear r y
starts-hijri_year r h =
    let starts = starts_of 13 r.start r.lengths in
    let long = start_bits starts 0 12 in
    let near : IsNearMean r.year r.start = subst (IsNearMean r.year) (first_start 12 r.start r.lengths) h.near in
    let y : HijriYear = record { extended_year = r.year; first_day = r.start; long_months = long; near = near; twelve = bits-few starts 12 0 } in (
      y,
      record {
        within = h.year;
        number = refl;
        first = refl;
        lengths = λ i low high. ap pos (sym (month_days-bit long i low high)) ∙ bits-days starts 12 i low high (h.months i low high);
        few = bits-few starts 12 0;
      },
    )

pub hijri_year-unique : (r : YearRow) (a b : HijriYear) → IsHijriYear r a → IsHijriYear r b → a ≡ b
hijri_year-unique r a b p q =
    year_of_starts a b (starts_of 13 r.start r.lengths) (p.number ∙ sym q.number) (p.first ∙ sym q.first) p.lengths q.lengths p.few q.few

pub hijri_year-decided : (r : YearRow) → ((y : HijriYear) × IsHijriYear r y) ⊎ ((y : HijriYear) → IsHijriYear r y → ⊥)
hijri_year-decided r = by (both_decided (between_decided _ _ r.year) (both_decided (between_decided _ _ (hijri.start_at starts 0)) (all_decided _ (λ i. between_decided (pos 29) (pos 30) (hijri.days_between starts i)) 12)))
  where
    starts : List ℤ
    starts = starts_of 13 r.start r.lengths

    by : Decided (IsRuleYear r.year × (IsNearMean r.year (hijri.start_at starts 0) × hijri.HaveMonthLengths starts 0))
        → ((y : HijriYear) × IsHijriYear r y) ⊎ ((y : HijriYear) → IsHijriYear r y → ⊥)
    by (inl (year, (near, months))) = inl (starts-hijri_year r (record { year = year; near = near; months = months }))
    by (inr none) = inr (λ y h. let s = hijri_year-starts r y h in none (s.year, (s.near, s.months)))

-- what is made of the starts of a row is its year, or there is none
pub hijri_year-made : (r : YearRow) (number : ℤ) (starts : List ℤ) (o : Option HijriYear) → number ≡ r.year → starts ≡ starts_of 13 r.start r.lengths
    → (IsSome o ↔ hijri.AreMonthStarts number starts) → IfSome o (λ y. y.extended_year ≡ number) → IfSome o (λ y. y.first_day ≡ hijri.start_at starts 0)
    → IfSome o (λ y. hijri.HasLengthsOf starts y.long_months) → IfSome o (λ y. y.long_months < 4096)
    → MatchOption o ((y : HijriYear) → IsHijriYear r y → ⊥) (IsHijriYear r)
hijri_year-made r number starts None same_number same some is_number is_first has few = λ y h.
    let back : hijri.AreMonthStarts number starts = subst (λ (z : ℤ). hijri.AreMonthStarts z starts) (sym same_number) (subst (hijri.AreMonthStarts r.year) (sym same) (hijri_year-starts r y h)) in
    let none : false ≡ true = some.1 back in
    absurd cc
hijri_year-made r number starts (Some y) same_number same some is_number is_first has few =
    let are = some.0 refl in
    record {
      within = subst IsRuleYear same_number are.year;
      number = is_number ∙ same_number;
      first = is_first ∙ ap (λ l. hijri.start_at l 0) same ∙ first_start 12 r.start r.lengths;
      lengths = subst (λ l. hijri.HasLengthsOf l y.long_months) same has;
      few = few;
    }

-- a bit is below 2
two_lengths : (n : ℕ) → (29 ≤ 29 + n % 2) × (29 + n % 2 ≤ 30)
two_lengths n = (omega arith, omega arith)

-- the starts of a row of a Chinese or Korean year are those of a year
abbrev pub AreRowStarts : YearRow → Type 0
AreRowStarts r = IsTrue (is_leap_place r.leap) × east_asian.AreMonthStarts r.year (starts_of 14 r.start r.lengths) r.leap

pub east_asian_year-starts : (r : YearRow) (y : EastAsianTraditionalYear) → IsEastAsianYear r y → AreRowStarts r
east_asian_year-starts r y h =
    let starts = starts_of 14 r.start r.lengths in
    let (rule, (start, place)) = y.valid in
    let leap : IsTrue (is_leap_place r.leap) = subst (λ (p : ℕ). IsTrue (is_leap_place p)) h.leap place in
    let moved : IsNewYear r.year y.new_year = subst (λ (z : ℤ). IsNewYear z y.new_year) h.number start in (
      leap,
      record {
        year = subst IsRuleYear h.number rule;
        start = subst (IsNewYear r.year) (h.first ∙ sym (first_start 13 r.start r.lengths)) moved;
        lengths = subst (λ (p : ℕ). east_asian.HaveMonthLengths starts 0 (months_of_year p)) h.leap (λ i low high.
            let days = h.lengths i low high in
            let within = two_lengths (y.long_months / 2 ^ (i - 1)) in
            (omega (arith, signed), omega (arith, signed)));
      },
    )

-- and where they are, there is one
pub starts-east_asian_year : (r : YearRow) → AreRowStarts r → (y : EastAsianTraditionalYear) × IsEastAsianYear r y
starts-east_asian_year r (place, h) =
    let starts = starts_of 14 r.start r.lengths in
    let months = months_of_year r.leap in
    let start : IsNewYear r.year r.start = subst (IsNewYear r.year) (first_start 13 r.start r.lengths) h.start in
    let y : EastAsianTraditionalYear = record { related_iso = r.year; new_year = r.start; long_months = start_bits starts 0 months; leap_month = r.leap; valid = (h.year, (start, place)); few = bits-few starts months 0 } in (
      y,
      record {
        number = refl;
        first = refl;
        leap = refl;
        lengths = λ i low high. bits-days starts months i low high (h.lengths i low high);
        few = bits-few starts months 0;
      },
    )

pub east_asian_year-unique : (r : YearRow) (a b : EastAsianTraditionalYear) → IsEastAsianYear r a → IsEastAsianYear r b → a ≡ b
east_asian_year-unique r a b p q =
    same_years.year_of_starts a b (starts_of 14 r.start r.lengths) (p.number ∙ sym q.number) (p.first ∙ sym q.first) (p.leap ∙ sym q.leap) p.lengths q.lengths p.few q.few

pub east_asian_year-decided : (r : YearRow)
    → ((y : EastAsianTraditionalYear) × IsEastAsianYear r y) ⊎ ((y : EastAsianTraditionalYear) → IsEastAsianYear r y → ⊥)
east_asian_year-decided r = by (both_decided (true_decided (is_leap_place r.leap)) (both_decided (between_decided _ _ r.year) (both_decided (between_decided _ _ (east_asian.start_at starts 0)) (all_decided _ (λ i. between_decided (pos 29) (pos 30) (east_asian.days_between starts i)) (months_of_year r.leap)))))
  where
    starts : List ℤ
    starts = starts_of 14 r.start r.lengths

    by : Decided (IsTrue (is_leap_place r.leap) × (IsRuleYear r.year × (IsNewYear r.year (east_asian.start_at starts 0) × east_asian.HaveMonthLengths starts 0 (months_of_year r.leap))))
        → ((y : EastAsianTraditionalYear) × IsEastAsianYear r y) ⊎ ((y : EastAsianTraditionalYear) → IsEastAsianYear r y → ⊥)
    by (inl (place, (year, (start, lengths)))) = inl (starts-east_asian_year r (place, record { year = year; start = start; lengths = lengths }))
    by (inr none) = inr (λ y h. let (place, s) = east_asian_year-starts r y h in none (place, (s.year, (s.start, s.lengths))))

-- the place of a leap month that a row gives
place-is : (n p : ℕ) → cond (is_leap_place n) (Some n) None ≡ Some p → IsTrue (is_leap_place n) × (n ≡ p)
place-is n p e = by (is_leap_place n) refl e
  where
    by : (t : Bool) → is_leap_place n ≡ t → cond t (Some n) None ≡ Some p → IsTrue (is_leap_place n) × (n ≡ p)
    by true q e = (q, cc)
    by false q e = cc

-- what is made of the starts of a row is its year, or there is none
pub east_asian_year-made : (r : YearRow) (number : ℤ) (starts : List ℤ) (leap : Option ℕ) (o : Option EastAsianTraditionalYear) → number ≡ r.year
    → starts ≡ starts_of 14 r.start r.lengths → east_asian.leap_place_read leap ≡ cond (is_leap_place r.leap) (Some r.leap) None
    → (IsSome o ↔ east_asian.AreYearStarts number starts leap) → IfSome o (λ y. y.related_iso ≡ number) → IfSome o (λ y. y.new_year ≡ east_asian.start_at starts 0)
    → IfSome o (λ y. east_asian.leap_place_read leap ≡ Some y.leap_month) → IfSome o (λ y. east_asian.HaveLengthsOf starts (months_of_year y.leap_month) y.long_months)
    → IfSome o (λ y. y.long_months < 2 ^ months_of_year y.leap_month)
    → MatchOption o ((y : EastAsianTraditionalYear) → IsEastAsianYear r y → ⊥) (IsEastAsianYear r)
east_asian_year-made r number starts leap None same_number same read some is_number is_first has_leap have few = λ y h.
    let (place, s) = east_asian_year-starts r y h in
    let back : east_asian.AreMonthStarts number starts r.leap = subst (λ (z : ℤ). east_asian.AreMonthStarts z starts r.leap) (sym same_number) (subst (λ (l : List ℤ). east_asian.AreMonthStarts r.year l r.leap) (sym same) s) in
    let none : false ≡ true = some.1 (r.leap, read ∙ ap (λ (b : Bool). cond b (Some r.leap) None) place, back) in
    absurd cc
east_asian_year-made r number starts leap (Some y) same_number same read some is_number is_first has_leap have few =
    let place = place-is r.leap y.leap_month (sym read ∙ has_leap) in
    record {
      number = is_number ∙ same_number;
      first = is_first ∙ ap (λ l. east_asian.start_at l 0) same ∙ first_start 13 r.start r.lengths;
      leap = sym place.1;
      lengths = subst (λ l. east_asian.HaveLengthsOf l (months_of_year y.leap_month) y.long_months) same have;
      few = few;
    }

-- n days more, and those behind them
pub starts-next : (n : ℕ) (day : ℤ) (letters : List ℕ) (i : ℕ)
    → starts_of (suc n) day (drop i letters) ≡ day ∷ starts_of n (day +ℤ pos (days_at letters i)) (drop (suc i) letters)
starts-next n day [] zero = let same : day ≡ day +ℤ pos 0 = omega (arith, signed) in ap (λ (z : ℤ). day ∷ starts_of n z []) same
starts-next n day [] (suc i) = let same : day ≡ day +ℤ pos 0 = omega (arith, signed) in ap (λ (z : ℤ). day ∷ starts_of n z []) same
starts-next n day (b ∷ letters) zero = refl
starts-next n day (b ∷ letters) (suc i) = starts-next n day letters i

-- one more start is put behind those that stand
pub starts-filled : (n i : ℕ) (letters : List ℕ) (start day : ℤ) (starts : List ℤ) → i < n → length starts ≡ n → (put later : ℤ) → put ≡ day
    → later ≡ day +ℤ pos (days_at letters i) → starts_of n start letters ≡ take i starts ++ starts_of (n - i) day (drop i letters)
    → starts_of n start letters ≡ take (i + 1) (set starts i put) ++ starts_of (n - (i + 1)) later (drop (i + 1) letters)
starts-filled n i letters start day starts lt size put later same_put same_later filled =
    let left : n - i ≡ suc (n - (i + 1)) = omega arith in
    let more : suc i ≡ i + 1 = omega arith in
    let within : i < length starts = omega arith in
    let rest = starts_of (n - (i + 1)) (day +ℤ pos (days_at letters i)) (drop (i + 1) letters) in
    let next : starts_of (n - i) day (drop i letters) ≡ day ∷ rest =
    ap (λ (k : ℕ). starts_of k day (drop i letters)) left
    ∙ (starts-next (n - (i + 1)) day letters i
    ∙ ap (λ (k : ℕ). day ∷ starts_of (n - (i + 1)) (day +ℤ pos (days_at letters i)) (drop k letters)) more) in
    rw (same_put, same_later) (filled
    ∙ (ap (λ l. take i starts ++ l) next
    ∙ (sym (append_assoc (take i starts) (day ∷ []) rest)
    ∙ ap (λ l. l ++ rest) (sym (take_more_set starts i day within)))))

-- the row of a Hijri year
pub hijri_row-made : (r : YearRow) (y : HijriYear) (o : Option HijriRow) → IsHijriYear r y → (IsRuleYear y.extended_year → IsSome o) → IfSome o (λ kept. row_year kept ≡ y)
    → MatchOption o ((z : HijriYear) → IsHijriYear r z → ⊥) (λ kept. IsHijriYear r (row_year kept))
hijri_row-made r y None is some e = let none : false ≡ true = some (subst IsRuleYear (sym is.number) is.within) in absurd cc
hijri_row-made r y (Some kept) is some e = subst (IsHijriYear r) (sym e) is
