-- A row has a year exactly where none of its numbers is wrong.
use Rattle.std.proofs.Common.{◌≡◌, ℕ, zero, suc, ◌+◌, ◌-◌, ◌<◌, ◌≤◌, ◌^◌, ◌==◌, Bool, true, false, cond, ◌&&◌, not, nat_eq, nat_le, nat_lt, List, [], ◌∷◌, length, Option, Some, None, MatchOption, refl, sym, ap, subst, ◌∙◌, arith, ℤ, pos, neg_ℤ, ◌+ℤ◌, ◌-ℤ◌}
use Rattle.std.specs.Prelude.{IsTrue, int_lt, int_le}
use Rattle.std.specs.List.{list_all}
use Rattle.std.specs.Option.{option_and_then}
use Rattle.std.proofs.lemmas.Bool.{eqb-true, false≢true, leb-true}
use Rattle.cal_days.specs.Day.{IsBetween, IsRuleYear, is_between, is_rule_year}
use Rattle.cal_days.specs.Islamic.{islamic_mean_start}
use Rattle.std.proofs.lemmas.Bool.Decides.{nat_tests}
use Rattle.std.proofs.lemmas.Int.{ints}
use Rattle.word_values.specs.Numbers.{byte_of}
use Rattle.cal_days.proofs.Signed.{by_bool}
use Rattle.cal_days.proofs.RangeLemmas.{is_between-true, true-is_between}
use Rattle.cal_hijri.specs.HijriMonths.{IsNearMean}
use Rattle.cal_hijri.proofs.LengthBits.{month_days-bit}
use Rattle.cal_hijri.specs.declared.hijri_year.HijriYear.{HijriYear}
use Rattle.cal_east_asian.specs.EastAsianYear.{IsNewYear, is_leap_place, january_19, months_of_year}
use Rattle.cal_east_asian.specs.declared.east_asian_traditional_year.EastAsianTraditionalYear.{EastAsianTraditionalYear}
use Rattle.cal_gregory.specs.JapaneseEraList.{ListedEra, eras_up_to_reiwa}
use Rattle.cal_gregory.specs.LastEra.{eras_and, is_last_code, is_last_era, is_last_index}
use Rattle.request_lines.specs.RowForms.{IsRow, IsEra, IsLunar, IsLunisolar}
use Rattle.request_lines.specs.Rows.{EraRow, Row, YearRow, China, Korea, Hijri, Persian, Era, are_lengths, code_of, is_code_letter, is_era_code, is_length, leap_beside, lengths_of, months_beside}
use Rattle.table_rows.specs.RowYears.{IsEastAsianYear, IsHijriYear, starts_of}
use Rattle.table_rows.specs.TableRows.{eras_of_row}
use Rattle.row_faults.specs.RowFaults.{era_fault, first_wrong, hijri_fault, is_near_mean, is_new_year, is_within, lunisolar_fault, row_fault}
use Rattle.row_faults.specs.Refusals.{Exists, FaultsAreMissingYears}
use Rattle.row_faults.specs.declared.allowed.Allowed.{Allowed}
use Rattle.row_faults.specs.declared.allowed.Allowed.TheVariants as allowed
use Rattle.row_faults.proofs.LetterBits.{bits-days, bits-few, first_start, letter_bits}

-- all words are right
abbrev AreRight : List (Bool × Allowed) → Type 0
AreRight [] = Unit {0}
AreRight ((is_right, allowed) ∷ words) = (is_right ≡ true) × AreRight words

right_none : (words : List (Bool × Allowed)) → AreRight words → first_wrong words ≡ None
right_none [] h = refl
right_none ((is_right, allowed) ∷ words) h =
    ap (λ t. cond t (first_wrong words) (Some allowed)) h.0 ∙ right_none words h.1

none_right : (words : List (Bool × Allowed)) → first_wrong words ≡ None → AreRight words
none_right [] e = tt
none_right ((is_right, allowed) ∷ words) e = by (none_right words) is_right refl e
  where
    by : (first_wrong words ≡ None → AreRight words) → (t : Bool) → is_right ≡ t → cond t (first_wrong words) (Some allowed) ≡ None
        → AreRight ((is_right, allowed) ∷ words)
    by others true q e = (q, others e)
    by others false q e = cc

-- what is so exactly where all words are right
right_exactly : {P : Type 0} (words : List (Bool × Allowed)) → (AreRight words → P) → (P → AreRight words)
    → MatchOption (first_wrong words) P (λ allowed. P → ⊥)
right_exactly {P} words gives asks = by (first_wrong words) refl
  where
    by : (o : Option Allowed) → first_wrong words ≡ o → MatchOption o P (λ allowed. P → ⊥)
    by None e = gives (none_right words e)
    by (Some allowed) e = λ p. let none : None ≡ Some allowed = sym (right_none words (asks p)) ∙ e in absurd cc

both : (a b : Bool) → (a && b) ≡ true → (a ≡ true) × (b ≡ true)
both true b e = (refl, e)
both false b e = absurd (false≢true e)

-- the lengths of a well-formed row
lengths_are : (most : ℕ) (word l : List ℕ) → lengths_of most word ≡ Some l → are_lengths most l ≡ true
lengths_are most word l e = by (are_lengths most word) refl e
  where
    by : (t : Bool) → are_lengths most word ≡ t → cond t (Some word) None ≡ Some l → are_lengths most l ≡ true
    by true q e = let same : word ≡ l = cc in subst (λ w. are_lengths most w ≡ true) same q
    by false q e = cc

twelve : (word l : List ℕ) → lengths_of 12 word ≡ Some l → length l ≡ 12
twelve word l e =
    let (range, all) = both (nat_le 12 (length l) && nat_le (length l) 12) (list_all is_length l) (lengths_are 12 word l e) in
    let (least, most) = both (nat_le 12 (length l)) (nat_le (length l) 12) range in
    let from = leb-true 12 (length l) least in
    let to = leb-true (length l) 12 most in
    omega (arith, from, to)

leap_is : (l : List ℕ) (o : Option ℕ) (p : ℕ) → option_and_then (leap_beside l) o ≡ Some p → length l ≡ months_beside p
leap_is l None p e = cc
leap_is l (Some q) p e = by (length l == months_beside q) refl e
  where
    by : (t : Bool) → (length l == months_beside q) ≡ t → cond t (Some q) None ≡ Some p → length l ≡ months_beside p
    by true r e = let same : q ≡ p = cc in eqb-true (length l) (months_beside q) r ∙ ap months_beside same
    by false r e = cc

beside_is : (p : ℕ) → months_beside p ≡ months_of_year p
beside_is p = by (p == 0)
  where
    by : (t : Bool) → cond t 12 13 ≡ 12 + cond t 0 1
    by true = refl
    by false = refl

at_most : (p : ℕ) → months_beside p ≤ 13
at_most p = by (p == 0)
  where
    by : (t : Bool) → cond t 12 13 ≤ 13
    by true = omega arith
    by false = omega arith

-- the words of a Chinese or Korean row
abbrev pub lunisolar_words : YearRow → List (Bool × Allowed)
lunisolar_words r = (is_rule_year r.year, allowed.RuleYear) ∷ (is_new_year r.year r.start, allowed.LunisolarStart) ∷ (is_leap_place r.leap, allowed.LeapMonth) ∷ []

lunisolar_gives : (r : YearRow) → length r.lengths ≡ months_beside r.leap → AreRight (lunisolar_words r) → (y : EastAsianTraditionalYear) × IsEastAsianYear r y
lunisolar_gives r count (rule, (new, (place, none))) =
    let months : length r.lengths ≡ months_of_year r.leap = count ∙ beside_is r.leap in
    let room : length r.lengths ≤ 13 = subst (λ (n : ℕ). n ≤ 13) (sym count) (at_most r.leap) in
    let few : letter_bits r.lengths < 2 ^ months_of_year r.leap = subst (λ (n : ℕ). letter_bits r.lengths < 2 ^ n) months (bits-few r.lengths) in
    let in_range : IsRuleYear r.year = is_between-true (neg_ℤ (pos 8000000)) (pos 8000000) r.year rule in
    let starts : IsNewYear r.year r.start = is_between-true (january_19 r.year) (january_19 r.year +ℤ pos 34) r.start new in
    let y : EastAsianTraditionalYear = record { related_iso = r.year; new_year = r.start; long_months = letter_bits r.lengths; leap_month = r.leap; valid = (in_range, (starts, place)); few = few } in (
      y,
      record {
        number = refl;
        first = refl;
        leap = refl;
        lengths = λ i low high. bits-days r.lengths 13 r.start i room low (subst (λ (n : ℕ). i ≤ n) (sym months) high);
        few = few;
      },
    )

lunisolar_asks : (r : YearRow) → (y : EastAsianTraditionalYear) × IsEastAsianYear r y → AreRight (lunisolar_words r)
lunisolar_asks r (y, h) =
    let (rule, (new, place)) = y.valid in
    let moved : IsNewYear r.year r.start = subst (IsNewYear r.year) h.first (subst (λ (z : ℤ). IsNewYear z y.new_year) h.number new) in (
      true-is_between (neg_ℤ (pos 8000000)) (pos 8000000) r.year (subst IsRuleYear h.number rule),
      (
        true-is_between (january_19 r.year) (january_19 r.year +ℤ pos 34) r.start moved,
        (subst (λ (p : ℕ). IsTrue (is_leap_place p)) h.leap place, tt),
      ),
    )

abbrev pub hijri_words : YearRow → List (Bool × Allowed)
hijri_words r = (is_rule_year r.year, allowed.RuleYear) ∷ (is_near_mean r.year r.start, allowed.HijriStart) ∷ []

hijri_gives : (r : YearRow) → length r.lengths ≡ 12 → AreRight (hijri_words r) → (y : HijriYear) × IsHijriYear r y
hijri_gives r count (rule, (mean, none)) =
    let few : letter_bits r.lengths < 4096 = subst (λ (n : ℕ). letter_bits r.lengths < 2 ^ n) count (bits-few r.lengths) in
    let near : IsNearMean r.year r.start = is_between-true (islamic_mean_start r.year -ℤ pos 5) (islamic_mean_start r.year +ℤ pos 5) r.start mean in
    let room : length r.lengths ≤ 12 = omega (arith, count) in
    let y : HijriYear = record { extended_year = r.year; first_day = r.start; long_months = letter_bits r.lengths; near = near; twelve = few } in (
      y,
      record {
        within = is_between-true (neg_ℤ (pos 8000000)) (pos 8000000) r.year rule;
        number = refl;
        first = refl;
        lengths = λ i low high. ap pos (sym (month_days-bit (letter_bits r.lengths) i low high)) ∙ bits-days r.lengths 12 r.start i room low (subst (λ (n : ℕ). i ≤ n) (sym count) high);
        few = few;
      },
    )

hijri_asks : (r : YearRow) → (y : HijriYear) × IsHijriYear r y → AreRight (hijri_words r)
hijri_asks r (y, h) =
    let near : IsNearMean r.year r.start = subst (IsNearMean r.year) h.first (subst (λ (z : ℤ). IsNearMean z y.first_day) h.number y.near) in (
      true-is_between (neg_ℤ (pos 8000000)) (pos 8000000) r.year h.within,
      (true-is_between (islamic_mean_start r.year -ℤ pos 5) (islamic_mean_start r.year +ℤ pos 5) r.start near, tt),
    )

-- the words of an era's row from 2026 on
abbrev pub era_words : EraRow → List (Bool × Allowed)
era_words r = (int_le r.start.year (pos 2089), allowed.EraYear) ∷ (is_within 1 15 r.start.month, allowed.EraMonth) ∷ (is_within 1 31 r.start.day, allowed.EraDay) ∷ (is_last_index r.index, allowed.EraIndex) ∷ []

true-and : (a b : Bool) → a ≡ true → b ≡ true → (a && b) ≡ true
true-and true b e f = f
true-and false b e f = absurd (false≢true e)

-- a code has letters, and a year that isn't before 2026 is 2026 or later
some_letters : (n : ℕ) → nat_lt 0 n ≡ true → not (nat_eq n 0) ≡ true
some_letters n e = grind (arith, nat_tests)

code_is : (word code : List ℕ) → code_of word ≡ Some code → is_last_code code ≡ true
code_is word code e = by (is_era_code word) refl e
  where
    by : (t : Bool) → is_era_code word ≡ t → cond t (Some word) None ≡ Some code → is_last_code code ≡ true
    by true q e =
        let same : word ≡ code = cc in
        let (size, letters) = both (nat_lt 0 (length code) && nat_le (length code) 8) (list_all is_code_letter code) (subst (λ w. is_era_code w ≡ true) same q) in
        let (some, few) = both (nat_lt 0 (length code)) (nat_le (length code) 8) size in
        true-and (not (nat_eq (length code) 0)) (list_all is_code_letter code) (some_letters (length code) some) letters
    by false q e = cc

since : (y : ℤ) → int_lt y (pos 2026) ≡ false → int_le (pos 2026) y ≡ true
since y e = grind (arith, ints)

module _ (r : EraRow) (coded : is_last_code r.code ≡ true) (late : int_lt r.start.year (pos 2026) ≡ false) where
  abbrev last : Bool
  last = is_last_era (record { year = r.start.year; month = r.start.month; day = r.start.day }) r.code r.index

  abbrev era : ListedEra
  era = (record { year = r.start.year; month = r.start.month; day = r.start.day }, r.code, r.index)

  eras_are : eras_of_row r ≡ eras_and (cond last (Some era) None)
  eras_are = ap (λ t. cond t (Some (eras_up_to_reiwa [])) (eras_and (cond last (Some era) None))) late

  right_last : AreRight (era_words r) → last ≡ true
  right_last (year, (month, (day, (index, none)))) =
      let years = true-and (int_le (pos 2026) r.start.year) (int_le r.start.year (pos 2089)) (since r.start.year late) year in
      let start = true-and (is_between (pos 2026) (pos 2089) r.start.year && is_within 1 15 r.start.month) (is_within 1 31 r.start.day) (true-and (is_between (pos 2026) (pos 2089) r.start.year) (is_within 1 15 r.start.month) years month) day in
      true-and _ (is_last_index r.index) (true-and _ (is_last_code r.code) start coded) index

  last_right : last ≡ true → AreRight (era_words r)
  last_right e =
      let (start_code, index) = both _ (is_last_index r.index) e in
      let (start, code) = both _ (is_last_code r.code) start_code in
      let (dates, day) = both (is_between (pos 2026) (pos 2089) r.start.year && is_within 1 15 r.start.month) (is_within 1 31 r.start.day) start in
      let (years, month) = both (is_between (pos 2026) (pos 2089) r.start.year) (is_within 1 15 r.start.month) dates in
      let (low, year) = both (int_le (pos 2026) r.start.year) (int_le r.start.year (pos 2089)) years in
      (year, (month, (day, (index, tt))))

  era_gives : AreRight (era_words r) → (eras : List ListedEra) × (eras_of_row r ≡ Some eras)
  era_gives h = (eras_up_to_reiwa (era ∷ []), eras_are ∙ ap (λ t. eras_and (cond t (Some era) None)) (right_last h))

  era_asks : (eras : List ListedEra) × (eras_of_row r ≡ Some eras) → AreRight (era_words r)
  era_asks (eras, e) = last_right (by last refl)
    where
      by : (t : Bool) → last ≡ t → t ≡ true
      by true q = refl
      by false q =
          let none : None ≡ Some eras = sym (eras_are ∙ ap (λ t. eras_and (cond t (Some era) None)) q) ∙ e in
          absurd cc

  late_exactly : MatchOption (era_fault r) (Exists (Era r)) (λ allowed. Exists (Era r) → ⊥)
  late_exactly =
      subst (λ (o : Option Allowed). MatchOption o (Exists (Era r)) (λ allowed. Exists (Era r) → ⊥)) (sym (ap (λ t. cond t None (first_wrong (era_words r))) late))
      (right_exactly (era_words r) era_gives era_asks)

era_exactly : (r : EraRow) → is_last_code r.code ≡ true → MatchOption (era_fault r) (Exists (Era r)) (λ allowed. Exists (Era r) → ⊥)
era_exactly r coded =
    by_bool {P = MatchOption (era_fault r) (Exists (Era r)) (λ allowed. Exists (Era r) → ⊥)} (int_lt r.start.year (pos 2026))
    (λ early.
    subst (λ (o : Option Allowed). MatchOption o (Exists (Era r)) (λ allowed. Exists (Era r) → ⊥)) (sym (ap (λ t. cond t None (first_wrong (era_words r))) early))
    (eras_up_to_reiwa [], ap (λ t. cond t (Some (eras_up_to_reiwa [])) (eras_and (cond (is_last_era (record { year = r.start.year; month = r.start.month; day = r.start.day }) r.code r.index) (Some (record { year = r.start.year; month = r.start.month; day = r.start.day }, r.code, r.index)) None))) early))
    (λ late. late_exactly r coded late)

lunisolar_exactly : (words : List (List ℕ)) (r : YearRow) → IsLunisolar words r
    → MatchOption (lunisolar_fault r) ((y : EastAsianTraditionalYear) × IsEastAsianYear r y) (λ allowed. (y : EastAsianTraditionalYear) × IsEastAsianYear r y → ⊥)
lunisolar_exactly words r is =
    let count = leap_is r.lengths (byte_of is.leap) r.leap is.says_leap in
    right_exactly (lunisolar_words r) (lunisolar_gives r count) (lunisolar_asks r)

-- a row of a row line has a fault exactly where it has no year and no eras
pub faults_exact : FaultsAreMissingYears
faults_exact words (China r) is = lunisolar_exactly is.parts r is.say
faults_exact words (Korea r) is = lunisolar_exactly is.parts r is.say
faults_exact words (Hijri r) is = right_exactly (hijri_words r) (hijri_gives r (twelve is.say.lengths r.lengths is.say.says_lengths)) (hijri_asks r)
faults_exact words (Persian y) is = tt
faults_exact words (Era r) is = era_exactly r (code_is is.say.code r.code is.say.says_code)
