-- Words are read as a bag exactly where they say it.
use Rattle.std.proofs.Common.{◌≡◌, ◌≢◌, ℕ, Bool, true, false, cond, not, ◌&&◌, List, [], ◌∷◌, ◌++◌, Option, Some, None, is_none, length, take, drop, refl, ◌∙◌, sym, ap, subst, codes}
use Rattle.std.proofs.lemmas.Bool.Decides.{Decides-eqb}
use Rattle.std.proofs.lemmas.Slice.Eq.{slice_eq-Decides}
use Rattle.std.proofs.lemmas.List.{take-append-drop}
use Rattle.std.specs.Option.{option_map, option_and_then, option_or}
use Rattle.cal_types.specs.Month.{month_read}
use Rattle.cal_types.specs.Bag.{Bag}
use Rattle.word_values.specs.Numbers.{int_of, byte_of}
use Rattle.request_lines.specs.Words.{is_text}
use Rattle.request_lines.specs.Bags.{Field, Era, EraYear, ExtendedYear, Month, MonthCode, OrdinalMonth, Day, bytes_of, has_key, field_read, no_fields, with_field, with_word, bag_before_to, bag_of_all}
use Rattle.request_lines.specs.BagForms.{IsKeyed, SaysField, SayFields, key_of, HasNoKey, KeysOnce, only, beside, bag_with, SaysBag}

-- the texts are the same
pub same_text : (a b : List ℕ) → is_text a b ≡ true → a ≡ b
same_text a b e = (slice_eq-Decides Decides-eqb a b (is_text a b) refl).0 e

pub is_same_text : (a b : List ℕ) → a ≡ b → is_text a b ≡ true
is_same_text a b e = (slice_eq-Decides Decides-eqb a b (is_text a b) refl).1 e

-- a word with a key, or another word
keyed_or : {T : Type 0} (make : T → Field) (key : List ℕ) (read : List ℕ → Option T) (word : List ℕ) (other : Option Field) (f : Field)
    → ((x : T) → IsKeyed key read word x → SaysField word (make x)) → (other ≡ Some f → SaysField word f)
    → cond (has_key key word) (option_map make (read (drop (length key) word))) other ≡ Some f → SaysField word f
keyed_or {T} make key read word other f says otherwise e = by (has_key key word) refl e
  where
    is_key : true ≡ has_key key word → word ≡ key ++ drop (length key) word
    is_key q = sym (take-append-drop (length key) word) ∙ ap (λ l. l ++ drop (length key) word) (same_text (take (length key) word) key (sym q))

    reading : true ≡ has_key key word → (o : Option T) → read (drop (length key) word) ≡ o → option_map make o ≡ Some f
        → SaysField word f
    reading q None r e = cc
    reading q (Some x) r e =
        let same : make x ≡ f = cc in
        subst (λ (g : Field). SaysField word g) same (says x (record { value = drop (length key) word; is = is_key q; reads = r }))

    by : (t : Bool) → t ≡ has_key key word → cond t (option_map make (read (drop (length key) word))) other ≡ Some f → SaysField word f
    by true q e = reading q (read (drop (length key) word)) refl e
    by false q e = otherwise e

-- what is read of a word, it says
field_is : (word : List ℕ) (f : Field) → field_read word ≡ Some f → SaysField word f
field_is word f e =
    keyed_or ExtendedYear (codes "year=") int_of word _ f (λ x h. h)
    (keyed_or Month (codes "month=") month_read word _ f (λ x h. h)
    (keyed_or Day (codes "day=") byte_of word _ f (λ x h. h)
    (keyed_or Era (codes "era=") bytes_of word _ f (λ x h. h)
    (keyed_or EraYear (codes "era-year=") int_of word _ f (λ x h. h)
    (keyed_or MonthCode (codes "month-code=") bytes_of word _ f (λ x h. h)
    (keyed_or OrdinalMonth (codes "ordinal=") byte_of word None f (λ x h. h) (λ r. cc))))))) e

-- what a word says is read of it
pub field_reads : (word : List ℕ) (f : Field) → SaysField word f → field_read word ≡ Some f
field_reads word (Era x) h = ap field_read h.is ∙ ap (option_map Era) h.reads
field_reads word (EraYear x) h = ap field_read h.is ∙ ap (option_map EraYear) h.reads
field_reads word (ExtendedYear x) h = ap field_read h.is ∙ ap (option_map ExtendedYear) h.reads
field_reads word (Month x) h = ap field_read h.is ∙ ap (option_map Month) h.reads
field_reads word (MonthCode x) h = ap field_read h.is ∙ ap (option_map MonthCode) h.reads
field_reads word (OrdinalMonth x) h = ap field_read h.is ∙ ap (option_map OrdinalMonth) h.reads
field_reads word (Day x) h = ap field_read h.is ∙ ap (option_map Day) h.reads

-- a bag with some more fields, one after another
abbrev pub adds : Option Bag → List Field → Option Bag
adds None fields = None
adds (Some bag) [] = Some bag
adds (Some bag) (f ∷ fields) = adds (with_field bag f) fields

-- words that were read as a bag say its fields
record IsRead (b : Bag) (words : List (List ℕ)) (bag : Bag) : Type 0 where
  pub fields : List Field
  pub say : SayFields words fields
  pub adds_to : adds (Some b) fields ≡ Some bag

words_are : (words : List (List ℕ)) (b bag : Bag) → bag_of_all (Some b) words ≡ Some bag → IsRead b words bag
words_are [] b bag e = record { fields = []; say = tt; adds_to = e }
words_are (word ∷ words) b bag e = by (λ next e. words_are words next bag e) (field_read word) refl e
  where
    more : ((next : Bag) → bag_of_all (Some next) words ≡ Some bag → IsRead next words bag) → (f : Field)
        → field_read word ≡ Some f → (o : Option Bag) → with_field b f ≡ o → bag_of_all o words ≡ Some bag
        → IsRead b (word ∷ words) bag
    more others f r None q e = cc
    more others f r (Some next) q e =
        let h = others next e in
        record { fields = f ∷ h.fields; say = (field_is word f r, h.say); adds_to = ap (λ o. adds o h.fields) q ∙ h.adds_to }

    by : ((next : Bag) → bag_of_all (Some next) words ≡ Some bag → IsRead next words bag) → (o : Option Field)
        → field_read word ≡ o → bag_of_all (option_and_then (with_field b) o) words ≡ Some bag → IsRead b (word ∷ words) bag
    by others None r e = cc
    by others (Some f) r e = more others f r (with_field b f) refl e

words_read : (words : List (List ℕ)) (fields : List Field) (b bag : Bag) → SayFields words fields
    → adds (Some b) fields ≡ Some bag → bag_of_all (Some b) words ≡ Some bag
words_read [] [] b bag say e = e
words_read [] (f ∷ fields) b bag say e = absurd say
words_read (word ∷ words) [] b bag say e = absurd say
words_read (word ∷ words) (f ∷ fields) b bag say e =
    ap (λ o. bag_of_all (option_and_then (with_field b) o) words) (field_reads word f say.0) ∙ by (λ next e. words_read words fields next bag say.1 e) (with_field b f) e
  where
    by : ((next : Bag) → adds (Some next) fields ≡ Some bag → bag_of_all (Some next) words ≡ Some bag) → (o : Option Bag)
        → adds o fields ≡ Some bag → bag_of_all o words ≡ Some bag
    by others None e = cc
    by others (Some next) e = others next e

or_none : {T : Type 0} (x : Option T) → option_or x None ≡ x
or_none None = refl
or_none (Some x) = refl

or_assoc : {T : Type 0} (x y z : Option T) → option_or (option_or x y) z ≡ option_or x (option_or y z)
or_assoc None y z = refl
or_assoc (Some x) y z = refl

none_or : {T : Type 0} (x y : Option T) → is_none (option_or x y) ≡ (is_none x && is_none y)
none_or None y = refl
none_or (Some x) y = refl

-- a bag beside one with no fields
beside_none : (b : Bag) → beside b no_fields ≡ b
beside_none b = λ i. record {
  era = or_none b.era i;
  era_year = or_none b.era_year i;
  extended_year = or_none b.extended_year i;
  month = or_none b.month i;
  month_code = or_none b.month_code i;
  ordinal_month = or_none b.ordinal_month i;
  day = or_none b.day i;
}

beside_assoc : (a b c : Bag) → beside (beside a b) c ≡ beside a (beside b c)
beside_assoc a b c = λ i. record {
  era = or_assoc a.era b.era c.era i;
  era_year = or_assoc a.era_year b.era_year c.era_year i;
  extended_year = or_assoc a.extended_year b.extended_year c.extended_year i;
  month = or_assoc a.month b.month c.month i;
  month_code = or_assoc a.month_code b.month_code c.month_code i;
  ordinal_month = or_assoc a.ordinal_month b.ordinal_month c.ordinal_month i;
  day = or_assoc a.day b.day c.day i;
}

-- whether a bag has no field of this one's key
abbrev pub is_free : Bag → Field → Bool
is_free b (Era x) = is_none b.era
is_free b (EraYear x) = is_none b.era_year
is_free b (ExtendedYear x) = is_none b.extended_year
is_free b (Month x) = is_none b.month
is_free b (MonthCode x) = is_none b.month_code
is_free b (OrdinalMonth x) = is_none b.ordinal_month
is_free b (Day x) = is_none b.day

is_free-beside : (a b : Bag) (f : Field) → is_free (beside a b) f ≡ (is_free a f && is_free b f)
is_free-beside a b (Era x) = none_or a.era b.era
is_free-beside a b (EraYear x) = none_or a.era_year b.era_year
is_free-beside a b (ExtendedYear x) = none_or a.extended_year b.extended_year
is_free-beside a b (Month x) = none_or a.month b.month
is_free-beside a b (MonthCode x) = none_or a.month_code b.month_code
is_free-beside a b (OrdinalMonth x) = none_or a.ordinal_month b.ordinal_month
is_free-beside a b (Day x) = none_or a.day b.day

is_free-none : (f : Field) → is_free no_fields f ≡ true
is_free-none (Era x) = refl
is_free-none (EraYear x) = refl
is_free-none (ExtendedYear x) = refl
is_free-none (Month x) = refl
is_free-none (MonthCode x) = refl
is_free-none (OrdinalMonth x) = refl
is_free-none (Day x) = refl

is_free-only : (f g : Field) → is_free (only f) g ≡ not (is_text (key_of g) (key_of f))
is_free-only (Era x) (Era y) = refl
is_free-only (EraYear x) (EraYear y) = refl
is_free-only (ExtendedYear x) (ExtendedYear y) = refl
is_free-only (Month x) (Month y) = refl
is_free-only (MonthCode x) (MonthCode y) = refl
is_free-only (OrdinalMonth x) (OrdinalMonth y) = refl
is_free-only (Day x) (Day y) = refl
is_free-only _ _ = refl

-- a place that is empty is filled, and the others stay
set_one : {T : Type 0} (put : Option T → Bag → Bag) (b : Bag) (old : Option T) (x : T)
    → cond (is_none old) (Some (put (Some x) b)) None ≡ cond (is_none old) (Some (put (option_or old (Some x)) (beside b no_fields))) None
set_one put b None x = ap (λ (c : Bag). Some (put (Some x) c)) (sym (beside_none b))
set_one put b (Some y) x = refl

pub some_pair : {T U : Type 0} (a b : T) (x y : U) → ◌≡◌ {A = Option (T × U)} (Some (a, x)) (Some (b, y)) → (a ≡ b) × (x ≡ y)
some_pair {T} {U} a b x y e =
    let same : ◌≡◌ {A = T × U} (a, x) (b, y) = cc in
    (ap (λ (p : T × U). p.0) same, ap (λ (p : T × U). p.1) same)

-- a field is set where its key is free, and stands beside the others then
with_field-is : (b : Bag) (f : Field) → with_field b f ≡ cond (is_free b f) (Some (beside b (only f))) None
with_field-is b (Era x) = set_one (λ o (c : Bag). record c { era = o }) b b.era x
with_field-is b (EraYear x) = set_one (λ o (c : Bag). record c { era_year = o }) b b.era_year x
with_field-is b (ExtendedYear x) = set_one (λ o (c : Bag). record c { extended_year = o }) b b.extended_year x
with_field-is b (Month x) = set_one (λ o (c : Bag). record c { month = o }) b b.month x
with_field-is b (MonthCode x) = set_one (λ o (c : Bag). record c { month_code = o }) b b.month_code x
with_field-is b (OrdinalMonth x) = set_one (λ o (c : Bag). record c { ordinal_month = o }) b b.ordinal_month x
with_field-is b (Day x) = set_one (λ o (c : Bag). record c { day = o }) b b.day x

-- each key is free in a bag
abbrev pub AreFree : Bag → List Field → Type 0
AreFree b [] = Unit {0}
AreFree b (f ∷ fields) = (is_free b f ≡ true) × AreFree b fields

are_free-none : (fields : List Field) → AreFree no_fields fields
are_free-none [] = tt
are_free-none (f ∷ fields) = (is_free-none f, are_free-none fields)

both : (a b : Bool) → (a && b) ≡ true → (a ≡ true) × (b ≡ true)
both true b e = (refl, e)
both false b e = cc

both_true : (a b : Bool) → a ≡ true → b ≡ true → (a && b) ≡ true
both_true a b p q = rw (p, q) refl

apart : (f g : Field) → is_free (only f) g ≡ true → key_of g ≢ key_of f
apart f g e = λ same.
    let taken : is_free (only f) g ≡ false = is_free-only f g ∙ ap not (is_same_text (key_of g) (key_of f) same) in
    cc

is_apart : (f g : Field) → (key_of g ≢ key_of f) → is_free (only f) g ≡ true
is_apart f g differ = is_free-only f g ∙ by (is_text (key_of g) (key_of f)) refl
  where
    by : (t : Bool) → is_text (key_of g) (key_of f) ≡ t → not t ≡ true
    by true q = absurd (differ (same_text (key_of g) (key_of f) q))
    by false q = refl

-- beside one field more, the keys that are free are those that were, but for its own
split_free : (b : Bag) (f : Field) (fields : List Field) → AreFree (beside b (only f)) fields
    → AreFree b fields × HasNoKey (key_of f) fields
split_free b f [] h = (tt, tt)
split_free b f (g ∷ fields) h =
    let here = both (is_free b g) (is_free (only f) g) (sym (is_free-beside b (only f) g) ∙ h.0) in
    let (free, none) = split_free b f fields h.1 in
    ((here.0, free), (apart f g here.1, none))

join_free : (b : Bag) (f : Field) (fields : List Field) → AreFree b fields → HasNoKey (key_of f) fields
    → AreFree (beside b (only f)) fields
join_free b f [] free none = tt
join_free b f (g ∷ fields) free none =
    (is_free-beside b (only f) g ∙ both_true (is_free b g) (is_free (only f) g) free.0 (is_apart f g none.0), join_free b f fields free.1 none.1)

-- fields that were added, each once
record IsAdded (b : Bag) (fields : List Field) (bag : Bag) : Type 0 where
  pub once : KeysOnce fields
  pub free : AreFree b fields
  pub is : bag ≡ beside b (bag_with fields)

added_is : (fields : List Field) (b bag : Bag) → adds (Some b) fields ≡ Some bag → IsAdded b fields bag
added_is [] b bag e =
    let same : bag ≡ b = cc in
    record { once = tt; free = tt; is = same ∙ sym (beside_none b) }
added_is (f ∷ fields) b bag e = by (λ e. added_is fields (beside b (only f)) bag e) (is_free b f) refl (ap (λ o. adds o fields) (sym (with_field-is b f)) ∙ e)
  where
    by : (adds (Some (beside b (only f))) fields ≡ Some bag → IsAdded (beside b (only f)) fields bag)
        → (t : Bool) → is_free b f ≡ t → adds (cond t (Some (beside b (only f))) None) fields ≡ Some bag → IsAdded b (f ∷ fields) bag
    by others false q e = cc
    by others true q e =
        let h = others e in
        let (free, none) = split_free b f fields h.free in
        record { once = (none, h.once); free = (q, free); is = h.is ∙ beside_assoc b (only f) (bag_with fields) }

adds_reads : (fields : List Field) (b : Bag) → KeysOnce fields → AreFree b fields
    → adds (Some b) fields ≡ Some (beside b (bag_with fields))
adds_reads [] b once free = ap (λ (c : Bag). Some c) (sym (beside_none b))
adds_reads (f ∷ fields) b once free =
    ap (λ o. adds o fields) (with_field-is b f ∙ ap (λ t. cond t (Some (beside b (only f))) None) free.0)
    ∙ (adds_reads fields (beside b (only f)) once.1 (join_free b f fields free.1 once.0)
    ∙ ap (λ (c : Bag). Some c) (beside_assoc b (only f) (bag_with fields)))

-- all words are read as a bag exactly where they say it
pub bag_is : (words : List (List ℕ)) (bag : Bag) → bag_of_all (Some no_fields) words ≡ Some bag → SaysBag words bag
bag_is words bag e =
    let h = words_are words no_fields bag e in
    let added = added_is h.fields no_fields bag h.adds_to in
    record { fields = h.fields; say = h.say; once = added.once; is = added.is }

pub bag_reads : (words : List (List ℕ)) (bag : Bag) → SaysBag words bag → bag_of_all (Some no_fields) words ≡ Some bag
bag_reads words bag s =
    words_read words s.fields no_fields bag s.say
    (adds_reads s.fields no_fields s.once (are_free-none s.fields) ∙ ap (λ (c : Bag). Some c) (sym s.is))

-- words before `to` that were read as a bag
pub record IsReadBefore (b : Bag) (words : List (List ℕ)) (bag : Bag) (rest : List (List ℕ)) : Type 0 where
  pub prefix : List (List ℕ)
  pub form : words ≡ prefix ++ codes "to" ∷ rest
  pub reads : bag_of_all (Some b) prefix ≡ Some bag

pub before_is : (words : List (List ℕ)) (b bag : Bag) (rest : List (List ℕ)) → bag_before_to (Some b) words ≡ Some (bag, rest)
    → IsReadBefore b words bag rest
before_is [] b bag rest e = cc
before_is (word ∷ words) b bag rest e = by (λ next e. before_is words next bag rest e) (is_text word (codes "to")) refl e
  where
    more : ((next : Bag) → bag_before_to (Some next) words ≡ Some (bag, rest) → IsReadBefore next words bag rest)
        → (o : Option Bag) → with_word b word ≡ o → bag_before_to o words ≡ Some (bag, rest)
        → IsReadBefore b (word ∷ words) bag rest
    more others None q e = cc
    more others (Some next) q e =
        let h = others next e in
        record { prefix = word ∷ h.prefix; form = ap (λ l. word ∷ l) h.form; reads = ap (λ o. bag_of_all o h.prefix) q ∙ h.reads }

    by : ((next : Bag) → bag_before_to (Some next) words ≡ Some (bag, rest) → IsReadBefore next words bag rest) → (t : Bool)
        → is_text word (codes "to") ≡ t → cond t (Some (b, words)) (bag_before_to (with_word b word) words) ≡ Some (bag, rest)
        → IsReadBefore b (word ∷ words) bag rest
    by others true q e =
        let (same, last) = some_pair b bag words rest e in
        record { prefix = []; form = λ i. same_text word (codes "to") q i ∷ last i; reads = ap (λ (c : Bag). Some c) same }
    by others false q e = more others (with_word b word) refl e

pub before_reads : (prefix : List (List ℕ)) (b bag : Bag) (rest : List (List ℕ)) → bag_of_all (Some b) prefix ≡ Some bag
    → bag_before_to (Some b) (prefix ++ codes "to" ∷ rest) ≡ Some (bag, rest)
before_reads [] b bag rest e =
    let same : b ≡ bag = cc in
    ap (λ (c : Bag). Some (c, rest)) same
before_reads (word ∷ prefix) b bag rest e = by (λ next e. before_reads prefix next bag rest e) (is_text word (codes "to")) refl
  where
    no_field : is_text word (codes "to") ≡ true → with_word b word ≡ None
    no_field q = ap (with_word b) (same_text word (codes "to") q)

    more : ((next : Bag) → bag_of_all (Some next) prefix ≡ Some bag → bag_before_to (Some next) (prefix ++ codes "to" ∷ rest) ≡ Some (bag, rest))
        → (o : Option Bag) → bag_of_all o prefix ≡ Some bag → bag_before_to o (prefix ++ codes "to" ∷ rest) ≡ Some (bag, rest)
    more others None e = cc
    more others (Some next) e = others next e

    by : ((next : Bag) → bag_of_all (Some next) prefix ≡ Some bag → bag_before_to (Some next) (prefix ++ codes "to" ∷ rest) ≡ Some (bag, rest))
        → (t : Bool) → is_text word (codes "to") ≡ t
        → cond t (Some (b, prefix ++ codes "to" ∷ rest)) (bag_before_to (with_word b word) (prefix ++ codes "to" ∷ rest)) ≡ Some (bag, rest)
    by others true q =
        let none : ◌≡◌ {A = Option Bag} None (Some bag) = ap (λ o. bag_of_all o prefix) (sym (no_field q)) ∙ e in
        cc
    by others false q = more others (with_word b word) e
