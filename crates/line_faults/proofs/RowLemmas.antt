-- Words that lead on behind `row` are a row, and the other way round.
use Rattle.std.proofs.Common.{◌≡◌, ℕ, ◌==◌, Bool, true, false, cond, ◌&&◌, nat_le, List, [], ◌∷◌, Option, Some, None, length, refl, ◌∙◌, sym, ap, codes, arith}
use Rattle.std.proofs.lemmas.Bool.{eqb-false, eqb-true, false≢true, leb-true}
use Rattle.std.specs.List.{list_all}
use Rattle.word_values.specs.Numbers.{byte_of, int_of}
use Rattle.request_lines.specs.Words.{is_text}
use Rattle.request_lines.specs.Bags.{no_fields}
use Rattle.request_lines.specs.RowForms.{IsEra, IsLunar, IsLunisolar, IsRow, IsYear, AreParts, name_of}
use Rattle.request_lines.specs.Rows.{EraRow, Row, YearRow, China, Korea, Hijri, Persian, Era, are_lengths, code_of, is_length, leap_of, lengths_of}
use Rattle.request_lines.proofs.BagLemmas.{same_text}
use Rattle.line_faults.specs.Places.{led, months_word, with_bag}
use Rattle.line_faults.proofs.PassLemmas.{Leads, ended, is_led, leads_on, passes, some_if, start}
use Rattle.line_faults.specs.declared.expected.Expected.{Expected}
use Rattle.line_faults.specs.declared.expected.Expected.TheVariants.{Table, LunisolarYear, LunisolarStart, LunisolarLengths, NoLeapMonth, LeapMonth, HijriYear, HijriStart, HijriLengths, PersianYear, EraYear, EraMonth, EraDay, EraCode, EraIndex, End}

-- behind 12 lengths 0 is expected, and behind 13 a leap month
abbrev leap_place : Bool → Expected
leap_place twelve = cond twelve NoLeapMonth LeapMonth

both : (a b : Bool) → (a && b) ≡ true → (a ≡ true) × (b ≡ true)
both true b e = (refl, e)
both false b e = absurd (false≢true e)

-- how many lengths there are
many : (n : ℕ) (t : Bool) → ((nat_le 12 n && nat_le n 13) && t) ≡ true → (n == 12) ≡ false → n ≡ 13
many n t e other =
    let (range, all) = both (nat_le 12 n && nat_le n 13) t e in
    let (least, most) = both (nat_le 12 n) (nat_le n 13) range in
    let differ = eqb-false n 12 other in
    let from = leb-true 12 n least in
    let to = leb-true n 13 most in
    omega (arith, from, to, differ)

-- the words behind the lengths
record IsLeap (lengths : List ℕ) (words : List (List ℕ)) : Type 0 where
  leap : List ℕ
  x : ℕ
  is : words ≡ leap ∷ []
  says : leap_of lengths leap ≡ Some x

leap_is : (lengths : List ℕ) (words : List (List ℕ)) (at : Expected) (months : ℕ) → Leads (months_word months) at End no_fields
    → passes (Some (at, no_fields)) [] ≡ false → months ≡ length lengths → passes (Some (at, no_fields)) words ≡ true → IsLeap lengths words
leap_is lengths words at months leads goes_on count e =
    let a = is_led (months_word months) at End no_fields goes_on leads words e in
    record {
      leap = a.word;
      x = a.x;
      is = a.is ∙ ap (λ l. a.word ∷ l) (ended no_fields a.rest a.then);
      says = ap (λ n. months_word n a.word) (sym count) ∙ a.reads;
    }

-- the lengths of a Chinese or Korean year, and the words behind them
record AreLengths (words : List (List ℕ)) : Type 0 where
  lengths : List ℕ
  leap : List ℕ
  x : ℕ
  is : words ≡ lengths ∷ leap ∷ []
  says : lengths_of 13 lengths ≡ Some lengths
  says_leap : leap_of lengths leap ≡ Some x

lengths_are : (words : List (List ℕ)) → passes (Some (LunisolarLengths, no_fields)) words ≡ true → AreLengths words
lengths_are [] e = absurd (false≢true e)
lengths_are (word ∷ words) e = by (are_lengths 13 word) refl e
  where
    with_leap : are_lengths 13 word ≡ true → IsLeap word words → AreLengths (word ∷ words)
    with_leap r h = record {
      lengths = word;
      leap = h.leap;
      x = h.x;
      is = ap (λ l. word ∷ l) h.is;
      says = ap (λ t. cond t (Some word) None) r;
      says_leap = h.says;
    }

    twelve : (t : Bool) → (length word == 12) ≡ t → are_lengths 13 word ≡ true
        → passes (with_bag (cond t (Some NoLeapMonth) (Some LeapMonth)) no_fields) words ≡ true → AreLengths (word ∷ words)
    twelve true q r e =
        let count : 12 ≡ length word = sym (eqb-true (length word) 12 q) in
        with_leap r (leap_is word words NoLeapMonth 12 (λ w. refl) refl count e)
    twelve false q r e = with_leap r (leap_is word words LeapMonth 13 (λ w. refl) refl (sym (many (length word) (list_all is_length word) r q)) e)

    by : (t : Bool) → are_lengths 13 word ≡ t
        → passes (with_bag (cond t (cond (length word == 12) (Some NoLeapMonth) (Some LeapMonth)) None) no_fields) words ≡ true → AreLengths (word ∷ words)
    by true r e = twelve (length word == 12) refl r e
    by false r e = absurd (false≢true e)

-- words of a kind of row that say one
record Says {T : Type 0} (Is : List (List ℕ) → T → Type 0) (words : List (List ℕ)) : Type 0 where
  row : T
  is : Is words row

lunisolar_is : (words : List (List ℕ)) → passes (Some (LunisolarYear, no_fields)) words ≡ true → Says IsLunisolar words
lunisolar_is words e =
    let a = is_led int_of LunisolarYear LunisolarStart no_fields refl (λ w. refl) words e in
    let b = is_led int_of LunisolarStart LunisolarLengths no_fields refl (λ w. refl) a.rest a.then in
    let c = lengths_are b.rest b.then in
    record {
      row = record { year = a.x; start = b.x; lengths = c.lengths; leap = c.x };
      is = record {
        year = a.word;
        start = b.word;
        lengths = c.lengths;
        leap = c.leap;
        form = a.is ∙ ap (λ l. a.word ∷ l) (b.is ∙ ap (λ l. b.word ∷ l) c.is);
        says_year = a.reads;
        says_start = b.reads;
        says_lengths = c.says;
        says_leap = c.says_leap;
      };
    }

hijri_leads : Leads (lengths_of 12) HijriLengths End no_fields
hijri_leads word = ap (λ t. with_bag (led End t) no_fields) (some_if (are_lengths 12 word) word)

lunar_is : (words : List (List ℕ)) → passes (Some (HijriYear, no_fields)) words ≡ true → Says IsLunar words
lunar_is words e =
    let a = is_led int_of HijriYear HijriStart no_fields refl (λ w. refl) words e in
    let b = is_led int_of HijriStart HijriLengths no_fields refl (λ w. refl) a.rest a.then in
    let c = is_led (lengths_of 12) HijriLengths End no_fields refl hijri_leads b.rest b.then in
    record {
      row = record { year = a.x; start = b.x; lengths = c.x; leap = 0 };
      is = record {
        year = a.word;
        start = b.word;
        lengths = c.word;
        form = a.is ∙ ap (λ l. a.word ∷ l) (b.is ∙ ap (λ l. b.word ∷ l) (c.is ∙ ap (λ l. c.word ∷ l) (ended no_fields c.rest c.then)));
        says_year = a.reads;
        says_start = b.reads;
        says_lengths = c.reads;
        no_leap = refl;
      };
    }

year_is : (words : List (List ℕ)) → passes (Some (PersianYear, no_fields)) words ≡ true → Says IsYear words
year_is words e =
    let a = is_led int_of PersianYear End no_fields refl (λ w. refl) words e in
    record {
      row = a.x;
      is = record { year = a.word; form = a.is ∙ ap (λ l. a.word ∷ l) (ended no_fields a.rest a.then); says_year = a.reads };
    }

era_is : (words : List (List ℕ)) → passes (Some (EraYear, no_fields)) words ≡ true → Says IsEra words
era_is words e =
    let a = is_led int_of EraYear EraMonth no_fields refl (λ w. refl) words e in
    let b = is_led byte_of EraMonth EraDay no_fields refl (λ w. refl) a.rest a.then in
    let c = is_led byte_of EraDay EraCode no_fields refl (λ w. refl) b.rest b.then in
    let d = is_led code_of EraCode EraIndex no_fields refl (λ w. refl) c.rest c.then in
    let f = is_led byte_of EraIndex End no_fields refl (λ w. refl) d.rest d.then in
    record {
      row = record { start = record { year = a.x; month = b.x; day = c.x }; code = d.x; index = f.x };
      is = record {
        year = a.word;
        month = b.word;
        day = c.word;
        code = d.word;
        index = f.word;
        form = a.is ∙ ap (λ l. a.word ∷ l) (b.is ∙ ap (λ l. b.word ∷ l) (c.is ∙ ap (λ l. c.word ∷ l) (d.is ∙ ap (λ l. d.word ∷ l) (f.is ∙ ap (λ l. f.word ∷ l) (ended no_fields f.rest f.then)))));
        says_year = a.reads;
        says_month = b.reads;
        says_day = c.reads;
        says_code = d.reads;
        says_index = f.reads;
      };
    }

-- behind `row` the words lead on where they are those of a row
pub record IsTableRow (words : List (List ℕ)) : Type 0 where
  pub row : Row
  pub form : IsRow (codes "row" ∷ words) row

named : (word : List ℕ) (words : List (List ℕ)) (r : Row) → word ≡ name_of r → AreParts words r → IsTableRow (word ∷ words)
named word words r name say = record {
  row = r;
  form = record { parts = words; form = ap (λ w. codes "row" ∷ w ∷ words) name; say = say };
}

abbrev Wanted : List ℕ → List (List ℕ) → Option Expected → Type 0
Wanted word words at = passes (with_bag at no_fields) words ≡ true → IsTableRow (word ∷ words)

is_or : (word name : List ℕ) (words : List (List ℕ)) (here other : Option Expected) → (word ≡ name → Wanted word words here)
    → Wanted word words other → Wanted word words (cond (is_text word name) here other)
is_or word name words here other first otherwise e = by (is_text word name) refl e
  where
    by : (t : Bool) → is_text word name ≡ t → passes (with_bag (cond t here other) no_fields) words ≡ true → IsTableRow (word ∷ words)
    by true q e = first (same_text word name q) e
    by false q e = otherwise e

pub is_table_row : (words : List (List ℕ)) → passes (Some (Table, no_fields)) words ≡ true → IsTableRow words
is_table_row [] e = absurd (false≢true e)
is_table_row (word ∷ words) e =
    is_or word (codes "china") words _ _ (λ name e. let h = lunisolar_is words e in named word words (China h.row) name h.is)
    (is_or word (codes "korea") words _ _ (λ name e. let h = lunisolar_is words e in named word words (Korea h.row) name h.is)
    (is_or word (codes "hijri") words _ _ (λ name e. let h = lunar_is words e in named word words (Hijri h.row) name h.is)
    (is_or word (codes "persian") words _ _ (λ name e. let h = year_is words e in named word words (Persian h.row) name h.is)
    (is_or word (codes "era") words _ _ (λ name e. let h = era_is words e in named word words (Era h.row) name h.is)
    (λ e. absurd (false≢true e)))))) e

-- the lengths and the leap month lead to the end
lengths_pass : (lengths said leap : List ℕ) (x : ℕ) → lengths_of 13 lengths ≡ Some said → leap_of said leap ≡ Some x
    → passes (Some (LunisolarLengths, no_fields)) (lengths ∷ leap ∷ []) ≡ true
lengths_pass lengths said leap x e says = by (are_lengths 13 lengths) refl e
  where
    twelve : (t : Bool) → (length lengths == 12) ≡ t → are_lengths 13 lengths ≡ true → leap_of lengths leap ≡ Some x
        → passes (with_bag (cond t (Some NoLeapMonth) (Some LeapMonth)) no_fields) (leap ∷ []) ≡ true
    twelve true q r s =
        let count : length lengths ≡ 12 = eqb-true (length lengths) 12 q in
        leads_on (months_word 12) NoLeapMonth End no_fields (λ w. refl) leap x [] (ap (λ n. months_word n leap) (sym count) ∙ s)
    twelve false q r s =
        leads_on (months_word 13) LeapMonth End no_fields (λ w. refl) leap x [] (ap (λ n. months_word n leap) (sym (many (length lengths) (list_all is_length lengths) r q)) ∙ s)

    by : (t : Bool) → are_lengths 13 lengths ≡ t → cond t (Some lengths) None ≡ Some said
        → passes (with_bag (cond (are_lengths 13 lengths) (cond (length lengths == 12) (Some NoLeapMonth) (Some LeapMonth)) None) no_fields) (leap ∷ []) ≡ true
    by true r e =
        let same : lengths ≡ said = cc in
        ap (λ t. passes (with_bag (cond t (cond (length lengths == 12) (Some NoLeapMonth) (Some LeapMonth)) None) no_fields) (leap ∷ [])) r
        ∙ twelve (length lengths == 12) refl r (ap (λ l. leap_of l leap) same ∙ says)
    by false r e = cc

lunisolar_passes : (words : List (List ℕ)) (r : YearRow) → IsLunisolar words r → passes (Some (LunisolarYear, no_fields)) words ≡ true
lunisolar_passes words r s =
    ap (passes (Some (LunisolarYear, no_fields))) s.form
    ∙ (leads_on int_of LunisolarYear LunisolarStart no_fields (λ w. refl) s.year r.year (s.start ∷ s.lengths ∷ s.leap ∷ []) s.says_year
    ∙ (leads_on int_of LunisolarStart LunisolarLengths no_fields (λ w. refl) s.start r.start (s.lengths ∷ s.leap ∷ []) s.says_start
    ∙ lengths_pass s.lengths r.lengths s.leap r.leap s.says_lengths s.says_leap))

lunar_passes : (words : List (List ℕ)) (r : YearRow) → IsLunar words r → passes (Some (HijriYear, no_fields)) words ≡ true
lunar_passes words r s =
    ap (passes (Some (HijriYear, no_fields))) s.form
    ∙ (leads_on int_of HijriYear HijriStart no_fields (λ w. refl) s.year r.year (s.start ∷ s.lengths ∷ []) s.says_year
    ∙ (leads_on int_of HijriStart HijriLengths no_fields (λ w. refl) s.start r.start (s.lengths ∷ []) s.says_start
    ∙ leads_on (lengths_of 12) HijriLengths End no_fields hijri_leads s.lengths r.lengths [] s.says_lengths))

era_passes : (words : List (List ℕ)) (r : EraRow) → IsEra words r → passes (Some (EraYear, no_fields)) words ≡ true
era_passes words r s =
    ap (passes (Some (EraYear, no_fields))) s.form
    ∙ (leads_on int_of EraYear EraMonth no_fields (λ w. refl) s.year r.start.year (s.month ∷ s.day ∷ s.code ∷ s.index ∷ []) s.says_year
    ∙ (leads_on byte_of EraMonth EraDay no_fields (λ w. refl) s.month r.start.month (s.day ∷ s.code ∷ s.index ∷ []) s.says_month
    ∙ (leads_on byte_of EraDay EraCode no_fields (λ w. refl) s.day r.start.day (s.code ∷ s.index ∷ []) s.says_day
    ∙ (leads_on code_of EraCode EraIndex no_fields (λ w. refl) s.code r.code (s.index ∷ []) s.says_code
    ∙ leads_on byte_of EraIndex End no_fields (λ w. refl) s.index r.index [] s.says_index))))

parts_pass : (parts : List (List ℕ)) (r : Row) → AreParts parts r → passes start (codes "row" ∷ name_of r ∷ parts) ≡ true
parts_pass parts (China r) s = lunisolar_passes parts r s
parts_pass parts (Korea r) s = lunisolar_passes parts r s
parts_pass parts (Hijri r) s = lunar_passes parts r s
parts_pass parts (Persian y) s =
    ap (passes (Some (PersianYear, no_fields))) s.form ∙ leads_on int_of PersianYear End no_fields (λ w. refl) s.year y [] s.says_year
parts_pass parts (Era r) s = era_passes parts r s

-- a row leads to its end
pub row_passes : (words : List (List ℕ)) (r : Row) → IsRow words r → passes start words ≡ true
row_passes words r f = ap (passes start) f.form ∙ parts_pass f.parts r f.say
