-- Words are read as a row exactly where they are of the form of a row line.
use Rattle.std.proofs.Common.{◌≡◌, ◌∙◌, ℕ, ℤ, Bool, true, false, cond, List, [], ◌∷◌, Option, Some, None, refl, sym, ap, subst, codes}
use Rattle.word_values.specs.Numbers.{int_of, byte_of}
use Rattle.request_lines.specs.Words.{is_text}
use Rattle.request_lines.specs.Reading.{Read, next_word, and_then}
use Rattle.request_lines.specs.Requests.{fixed_word}
use Rattle.request_lines.specs.Rows.{YearRow, EraRow, Row, China, Korea, Hijri, Persian, Era, kind_named, lengths_of, leap_of, code_of, lunisolar_read, lunar_read, era_read, parts_read, at_end, row_read}
use Rattle.request_lines.specs.RowForms.{IsLunisolar, IsLunar, IsEra, name_of, AreParts, IsRow, RowsHaveOneForm}
use Rattle.request_lines.specs.declared.era_row.RowDate.{RowDate}
use Rattle.request_lines.specs.declared.row.RowKind.{RowKind}
use Rattle.request_lines.specs.declared.row.RowKind.TheVariants as kind
use Rattle.request_lines.proofs.BagLemmas.{same_text, some_pair}
use Rattle.request_lines.proofs.FormLemmas.{next_is, then_is, fixed_is, next_reads}

-- the words of each kind, where they are read
-- the lengths and the leap month of a lunisolar row, behind its year and its start
abbrev months_read : ℤ → ℤ → List (List ℕ) → Read YearRow
months_read year start words =
    and_then (next_word (lengths_of 13) words) (λ lengths words.
    and_then (next_word (leap_of lengths) words) (λ leap words.
    Some (record { year = year; start = start; lengths = lengths; leap = leap }, words)))

record AreMonths (year start : ℤ) (words : List (List ℕ)) (r : YearRow) : Type 0 where
  lengths : List ℕ
  leap : List ℕ
  form : words ≡ lengths ∷ leap ∷ []
  says_lengths : lengths_of 13 lengths ≡ Some r.lengths
  says_leap : leap_of r.lengths leap ≡ Some r.leap
  is_year : year ≡ r.year
  is_start : start ≡ r.start

months_are : (year start : ℤ) (words : List (List ℕ)) (r : YearRow) → months_read year start words ≡ Some (r, []) → AreMonths year start words r
months_are year start words r e =
    let a = next_is (lengths_of 13) words _ (r, []) e in
    let b = next_is (leap_of a.x) a.rest _ (r, []) a.then in
    let read : YearRow = record { year = year; start = start; lengths = a.x; leap = b.x } in
    let (is, last) = some_pair read r b.rest [] b.then in
    record {
      lengths = a.word;
      leap = b.word;
      form = a.is ∙ ap (λ l. a.word ∷ l) (b.is ∙ ap (λ l. b.word ∷ l) last);
      says_lengths = a.reads ∙ ap (λ (t : YearRow). Some t.lengths) is;
      says_leap = ap (λ (t : YearRow). leap_of t.lengths b.word) (sym is) ∙ b.reads ∙ ap (λ (t : YearRow). Some t.leap) is;
      is_year = ap (λ (t : YearRow). t.year) is;
      is_start = ap (λ (t : YearRow). t.start) is;
    }

lunisolar_is : (words : List (List ℕ)) (r : YearRow) → lunisolar_read words ≡ Some (r, []) → IsLunisolar words r
unfolding lunisolar_read
lunisolar_is words r e =
    let a = next_is int_of words _ (r, []) e in
    let b = next_is int_of a.rest _ (r, []) a.then in
    let c = months_are a.x b.x b.rest r b.then in
    record {
      year = a.word;
      start = b.word;
      lengths = c.lengths;
      leap = c.leap;
      form = a.is ∙ ap (λ l. a.word ∷ l) (b.is ∙ ap (λ l. b.word ∷ l) c.form);
      says_year = a.reads ∙ ap Some c.is_year;
      says_start = b.reads ∙ ap Some c.is_start;
      says_lengths = c.says_lengths;
      says_leap = c.says_leap;
    }

lunar_is : (words : List (List ℕ)) (r : YearRow) → lunar_read words ≡ Some (r, []) → IsLunar words r
unfolding lunar_read
lunar_is words r e =
    let a = next_is int_of words _ (r, []) e in
    let b = next_is int_of a.rest _ (r, []) a.then in
    let c = next_is (lengths_of 12) b.rest _ (r, []) b.then in
    let read : YearRow = record { year = a.x; start = b.x; lengths = c.x; leap = 0 } in
    let (is, last) = some_pair read r c.rest [] c.then in
    record {
      year = a.word;
      start = b.word;
      lengths = c.word;
      form = a.is ∙ ap (λ l. a.word ∷ l) (b.is ∙ ap (λ l. b.word ∷ l) (c.is ∙ ap (λ l. c.word ∷ l) last));
      says_year = a.reads ∙ ap (λ (t : YearRow). Some t.year) is;
      says_start = b.reads ∙ ap (λ (t : YearRow). Some t.start) is;
      says_lengths = c.reads ∙ ap (λ (t : YearRow). Some t.lengths) is;
      no_leap = ap (λ (t : YearRow). t.leap) (sym is);
    }

-- the code and the index of an era, behind its start
abbrev era_end_read : RowDate → List (List ℕ) → Read EraRow
era_end_read start words =
    and_then (next_word code_of words) (λ code words.
    and_then (next_word byte_of words) (λ index words. Some (record { start = start; code = code; index = index }, words)))

record IsEraEnd (start : RowDate) (words : List (List ℕ)) (r : EraRow) : Type 0 where
  code : List ℕ
  index : List ℕ
  form : words ≡ code ∷ index ∷ []
  says_code : code_of code ≡ Some r.code
  says_index : byte_of index ≡ Some r.index
  is : start ≡ r.start

era_end_is : (start : RowDate) (words : List (List ℕ)) (r : EraRow) → era_end_read start words ≡ Some (r, []) → IsEraEnd start words r
era_end_is start words r e =
    let a = next_is code_of words _ (r, []) e in
    let b = next_is byte_of a.rest _ (r, []) a.then in
    let read : EraRow = record { start = start; code = a.x; index = b.x } in
    let (is, last) = some_pair read r b.rest [] b.then in
    record {
      code = a.word;
      index = b.word;
      form = a.is ∙ ap (λ l. a.word ∷ l) (b.is ∙ ap (λ l. b.word ∷ l) last);
      says_code = a.reads ∙ ap (λ (t : EraRow). Some t.code) is;
      says_index = b.reads ∙ ap (λ (t : EraRow). Some t.index) is;
      is = ap (λ (t : EraRow). t.start) is;
    }

era_is : (words : List (List ℕ)) (r : EraRow) → era_read words ≡ Some (r, []) → IsEra words r
unfolding era_read
era_is words r e =
    let a = next_is int_of words _ (r, []) e in
    let b = next_is byte_of a.rest _ (r, []) a.then in
    let c = next_is byte_of b.rest _ (r, []) b.then in
    let d = era_end_is (record { year = a.x; month = b.x; day = c.x }) c.rest r c.then in
    record {
      year = a.word;
      month = b.word;
      day = c.word;
      code = d.code;
      index = d.index;
      form = a.is ∙ ap (λ l. a.word ∷ l) (b.is ∙ ap (λ l. b.word ∷ l) (c.is ∙ ap (λ l. c.word ∷ l) d.form));
      says_year = a.reads ∙ ap (λ (t : RowDate). Some t.year) d.is;
      says_month = b.reads ∙ ap (λ (t : RowDate). Some t.month) d.is;
      says_day = c.reads ∙ ap (λ (t : RowDate). Some t.day) d.is;
      says_code = d.says_code;
      says_index = d.says_index;
    }

-- and they are read, where they say it
lunisolar_reads : (words : List (List ℕ)) (r : YearRow) → IsLunisolar words r → lunisolar_read words ≡ Some (r, [])
unfolding lunisolar_read
lunisolar_reads words r s =
    ap lunisolar_read s.form
    ∙ (next_reads int_of s.year (s.start ∷ s.lengths ∷ s.leap ∷ []) _ r.year s.says_year
    ∙ (next_reads int_of s.start (s.lengths ∷ s.leap ∷ []) _ r.start s.says_start
    ∙ (next_reads (lengths_of 13) s.lengths (s.leap ∷ []) _ r.lengths s.says_lengths
    ∙ next_reads (leap_of r.lengths) s.leap [] _ r.leap s.says_leap)))

lunar_reads : (words : List (List ℕ)) (r : YearRow) → IsLunar words r → lunar_read words ≡ Some (r, [])
unfolding lunar_read
lunar_reads words r s =
    ap lunar_read s.form
    ∙ (next_reads int_of s.year (s.start ∷ s.lengths ∷ []) _ r.year s.says_year
    ∙ (next_reads int_of s.start (s.lengths ∷ []) _ r.start s.says_start
    ∙ (next_reads (lengths_of 12) s.lengths [] _ r.lengths s.says_lengths
    ∙ ap (λ (n : ℕ). Some (record r { leap = n }, [])) (sym s.no_leap))))

era_reads : (words : List (List ℕ)) (r : EraRow) → IsEra words r → era_read words ≡ Some (r, [])
unfolding era_read
era_reads words r s =
    ap era_read s.form
    ∙ (next_reads int_of s.year (s.month ∷ s.day ∷ s.code ∷ s.index ∷ []) _ r.start.year s.says_year
    ∙ (next_reads byte_of s.month (s.day ∷ s.code ∷ s.index ∷ []) _ r.start.month s.says_month
    ∙ (next_reads byte_of s.day (s.code ∷ s.index ∷ []) _ r.start.day s.says_day
    ∙ (next_reads code_of s.code (s.index ∷ []) _ r.code s.says_code
    ∙ next_reads byte_of s.index [] _ r.index s.says_index))))

-- the word for a kind
abbrev kind_name : RowKind → List ℕ
kind_name kind.China = codes "china"
kind_name kind.Korea = codes "korea"
kind_name kind.Hijri = codes "hijri"
kind_name kind.Persian = codes "persian"
kind_name kind.Era = codes "era"

named_or : (here : RowKind) (word : List ℕ) (other : Option RowKind) (k : RowKind) → (other ≡ Some k → word ≡ kind_name k)
    → cond (is_text word (kind_name here)) (Some here) other ≡ Some k → word ≡ kind_name k
named_or here word other k otherwise e = by (is_text word (kind_name here)) refl e
  where
    by : (t : Bool) → is_text word (kind_name here) ≡ t → cond t (Some here) other ≡ Some k → word ≡ kind_name k
    by true q e =
        let same : here ≡ k = cc in
        same_text word (kind_name here) q ∙ ap kind_name same
    by false q e = otherwise e

kind_is : (word : List ℕ) (k : RowKind) → kind_named word ≡ Some k → word ≡ kind_name k
kind_is word k e =
    named_or kind.China word _ k
    (named_or kind.Korea word _ k
    (named_or kind.Hijri word _ k
    (named_or kind.Persian word _ k
    (named_or kind.Era word None k (λ r. cc))))) e

-- what is read behind the word for the kind
abbrev AreOf : RowKind → List (List ℕ) → Row → Type 0
AreOf k words r = (kind_name k ≡ name_of r) × AreParts words r

abbrev Reads : RowKind → List (List ℕ) → Row → Type 0
Reads k words r = parts_read k words ≡ Some (r, [])

moved : (k : RowKind) (words rest : List (List ℕ)) (x r : Row) → ◌≡◌ {A = Option (Row × List (List ℕ))} (Some (x, rest)) (Some (r, []))
    → (rest ≡ [] → AreOf k words x) → AreOf k words r
moved k words rest x r e known =
    let (is, last) = some_pair x r rest [] e in
    subst (AreOf k words) is (known last)

parts_are : (k : RowKind) (words : List (List ℕ)) (r : Row) → Reads k words r → AreOf k words r
parts_are kind.China words r e =
    let h = then_is (lunisolar_read words) _ (r, []) e in
    moved kind.China words h.rest (China h.x) r h.then (λ last. (refl, lunisolar_is words h.x (h.reads ∙ ap (λ l. Some (h.x, l)) last)))
parts_are kind.Korea words r e =
    let h = then_is (lunisolar_read words) _ (r, []) e in
    moved kind.Korea words h.rest (Korea h.x) r h.then (λ last. (refl, lunisolar_is words h.x (h.reads ∙ ap (λ l. Some (h.x, l)) last)))
parts_are kind.Hijri words r e =
    let h = then_is (lunar_read words) _ (r, []) e in
    moved kind.Hijri words h.rest (Hijri h.x) r h.then (λ last. (refl, lunar_is words h.x (h.reads ∙ ap (λ l. Some (h.x, l)) last)))
parts_are kind.Persian words r e =
    let h = next_is int_of words _ (r, []) e in
    moved kind.Persian words h.rest (Persian h.x) r h.then (λ last. (refl, record { year = h.word; form = h.is ∙ ap (λ l. h.word ∷ l) last; says_year = h.reads }))
parts_are kind.Era words r e =
    let h = then_is (era_read words) _ (r, []) e in
    moved kind.Era words h.rest (Era h.x) r h.then (λ last. (refl, era_is words h.x (h.reads ∙ ap (λ l. Some (h.x, l)) last)))

-- no word is left
end_is : (x : Row) (rest : List (List ℕ)) (r : Row) → at_end x rest ≡ Some r → ◌≡◌ {A = Option (Row × List (List ℕ))} (Some (x, rest)) (Some (r, []))
end_is x [] r e =
    let same : x ≡ r = cc in
    ap (λ (t : Row). Some (t, [])) same
end_is x (word ∷ rest) r e = cc

row_is : (words : List (List ℕ)) (r : Row) → row_read words ≡ Some r → IsRow words r
unfolding row_read
row_is words r e =
    let a = next_is (fixed_word (codes "row")) words _ r e in
    let b = next_is kind_named a.rest _ r a.then in
    let c = then_is (parts_read b.x b.rest) at_end r b.then in
    let (name, say) = parts_are b.x b.rest r (c.reads ∙ end_is c.x c.rest r c.then) in
    let row = fixed_is (codes "row") a.word a.x a.reads in
    let named = kind_is b.word b.x b.reads ∙ name in
    record { parts = b.rest; form = a.is ∙ λ i. row i ∷ (b.is ∙ ap (λ w. w ∷ b.rest) named) i; say = say }

row_reads : (parts : List (List ℕ)) (r : Row) → AreParts parts r → row_read (codes "row" ∷ name_of r ∷ parts) ≡ Some r
unfolding row_read
row_reads parts (China r) s = ap (λ o. and_then (and_then o (λ row words. Some (China row, words))) at_end) (lunisolar_reads parts r s)
row_reads parts (Korea r) s = ap (λ o. and_then (and_then o (λ row words. Some (Korea row, words))) at_end) (lunisolar_reads parts r s)
row_reads parts (Hijri r) s = ap (λ o. and_then (and_then o (λ row words. Some (Hijri row, words))) at_end) (lunar_reads parts r s)
row_reads parts (Persian y) s =
    ap (λ words. and_then (parts_read kind.Persian words) at_end) s.form
    ∙ ap (λ o. and_then o at_end) (next_reads int_of s.year [] (λ year words. Some (Persian year, words)) y s.says_year)
row_reads parts (Era r) s = ap (λ o. and_then (and_then o (λ row words. Some (Era row, words))) at_end) (era_reads parts r s)

pub one_form : RowsHaveOneForm
one_form words r = (row_is words r, λ f. ap row_read f.form ∙ row_reads f.parts r f.say)
