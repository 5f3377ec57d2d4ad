-- Words that lead on behind `span` are a request, and the other way round.
use Rattle.cal_types.specs.declared.options.MissingFieldsStrategy.{MissingFieldsStrategy}
use Rattle.std.proofs.Common.{◌≡◌, ℕ, Bool, true, false, cond, List, [], ◌∷◌, ◌++◌, Option, Some, None, refl, ◌∙◌, sym, ap, subst, codes}
use Rattle.std.proofs.lemmas.Bool.{false≢true}
use Rattle.std.specs.List.{list_all}
use Rattle.cal_types.specs.Bag.{Bag}
use Rattle.cal_kinds.specs.KindNames.{kind_named}
use Rattle.request_lines.specs.Words.{is_text}
use Rattle.request_lines.specs.Bags.{bag_of_all, is_word_byte, no_fields, with_whole_word, with_word}
use Rattle.request_lines.specs.Forms.{IsRequest, all_words}
use Rattle.request_lines.specs.Requests.{Request, fixed_word, missing_fields_named, overflow_named, unit_named}
use Rattle.request_lines.proofs.BagLemmas.{bag_is, bag_reads, same_text}
use Rattle.request_lines.proofs.FormLemmas.{fixed_is}
use Rattle.line_faults.specs.Places.{led, with_bag, with_place}
use Rattle.line_faults.specs.FirstFaults.{AreWords}
use Rattle.line_faults.proofs.PassLemmas.{Leads, are_behind, are_first, is_led, leads_on, passes, some_if, start}
use Rattle.line_faults.specs.declared.expected.Expected.TheVariants.{Calendar, Shown, Unit, Overflow, MissingFields, From, FieldOrTo, Field}

-- the words of the second date
pub record IsSecond (bag : Bag) (words : List (List ℕ)) : Type 0 where
  pub to : Bag
  pub reads : bag_of_all (Some bag) words ≡ Some to

pub is_second : (words : List (List ℕ)) (bag : Bag) → passes (Some (Field, bag)) words ≡ true → IsSecond bag words
is_second [] bag e = record { to = bag; reads = refl }
is_second (word ∷ words) bag e = by (λ next e. is_second words next e) (list_all is_word_byte word) e
  where
    more : ((next : Bag) → passes (Some (Field, next)) words ≡ true → IsSecond next words) → (o : Option Bag) → with_word bag word ≡ o
        → passes (with_place Field o) words ≡ true → IsSecond bag (word ∷ words)
    more others None q e = absurd (false≢true e)
    more others (Some next) q e =
        let h = others next e in
        record { to = h.to; reads = ap (λ o. bag_of_all o words) q ∙ h.reads }

    by : ((next : Bag) → passes (Some (Field, next)) words ≡ true → IsSecond next words) → (t : Bool)
        → passes (with_place Field (cond t (with_word bag word) None)) words ≡ true → IsSecond bag (word ∷ words)
    by others false e = absurd (false≢true e)
    by others true e = more others (with_word bag word) refl e

-- the words of the first date, and those behind `to`
pub record IsFirstDate (bag : Bag) (words : List (List ℕ)) : Type 0 where
  pub prefix : List (List ℕ)
  pub suffix : List (List ℕ)
  pub from : Bag
  pub is : words ≡ prefix ++ codes "to" ∷ suffix
  pub reads : bag_of_all (Some bag) prefix ≡ Some from
  pub then : passes (Some (Field, no_fields)) suffix ≡ true

pub is_first_date : (words : List (List ℕ)) (bag : Bag) → passes (Some (FieldOrTo, bag)) words ≡ true → IsFirstDate bag words
is_first_date [] bag e = absurd (false≢true e)
is_first_date (word ∷ words) bag e = by (λ next e. is_first_date words next e) (is_text word (codes "to")) refl e
  where
    more : ((next : Bag) → passes (Some (FieldOrTo, next)) words ≡ true → IsFirstDate next words) → (o : Option Bag) → with_word bag word ≡ o
        → passes (with_place FieldOrTo o) words ≡ true → IsFirstDate bag (word ∷ words)
    more others None q e = absurd (false≢true e)
    more others (Some next) q e =
        let h = others next e in
        record { prefix = word ∷ h.prefix; suffix = h.suffix; from = h.from; is = ap (λ l. word ∷ l) h.is; reads = ap (λ o. bag_of_all o h.prefix) q ∙ h.reads; then = h.then }

    whole : ((next : Bag) → passes (Some (FieldOrTo, next)) words ≡ true → IsFirstDate next words) → (t : Bool)
        → passes (with_place FieldOrTo (cond t (with_word bag word) None)) words ≡ true → IsFirstDate bag (word ∷ words)
    whole others false e = absurd (false≢true e)
    whole others true e = more others (with_word bag word) refl e

    by : ((next : Bag) → passes (Some (FieldOrTo, next)) words ≡ true → IsFirstDate next words) → (t : Bool) → is_text word (codes "to") ≡ t
        → passes (cond t (Some (Field, no_fields)) (with_place FieldOrTo (with_whole_word bag word))) words ≡ true → IsFirstDate bag (word ∷ words)
    by others true q e = record { prefix = []; suffix = words; from = bag; is = ap (λ w. w ∷ words) (same_text word (codes "to") q); reads = refl; then = e }
    by others false q e = whole others (list_all is_word_byte word) e

from_leads : Leads (fixed_word (codes "from")) From FieldOrTo no_fields
from_leads word = ap (λ t. with_bag (led FieldOrTo t) no_fields) (some_if (is_text word (codes "from")) tt)

-- the words from the option for missing fields on
record IsTail (words : List (List ℕ)) : Type 0 where
  missing_fields : List ℕ
  from : List (List ℕ)
  to : List (List ℕ)
  m : Option MissingFieldsStrategy
  first : Bag
  second : Bag
  is : words ≡ missing_fields ∷ codes "from" ∷ (from ++ codes "to" ∷ to)
  says : missing_fields_named missing_fields ≡ Some m
  says_from : bag_of_all (Some no_fields) from ≡ Some first
  says_to : bag_of_all (Some no_fields) to ≡ Some second

is_tail : (words : List (List ℕ)) → passes (Some (MissingFields, no_fields)) words ≡ true → IsTail words
is_tail words e =
    let a = is_led missing_fields_named MissingFields From no_fields refl (λ w. refl) words e in
    let b = is_led (fixed_word (codes "from")) From FieldOrTo no_fields refl from_leads a.rest a.then in
    let from = is_first_date b.rest no_fields b.then in
    let to = is_second from.suffix no_fields from.then in
    record {
      missing_fields = a.word;
      from = from.prefix;
      to = from.suffix;
      m = a.x;
      first = from.from;
      second = to.to;
      is = a.is ∙ ap (λ l. a.word ∷ l) (b.is ∙ (ap (λ w. w ∷ b.rest) (fixed_is (codes "from") b.word b.x b.reads) ∙ ap (λ l. codes "from" ∷ l) from.is));
      says = a.reads;
      says_from = from.reads;
      says_to = to.reads;
    }

-- behind `span` the words lead on where they are those of a request
pub record IsSpan (words : List (List ℕ)) : Type 0 where
  pub request : Request
  pub form : IsRequest (codes "span" ∷ words) request

pub is_span : (words : List (List ℕ)) → passes (Some (Calendar, no_fields)) words ≡ true → IsSpan words
is_span words e =
    let a = is_led kind_named Calendar Shown no_fields refl (λ w. refl) words e in
    let b = is_led kind_named Shown Unit no_fields refl (λ w. refl) a.rest a.then in
    let c = is_led unit_named Unit Overflow no_fields refl (λ w. refl) b.rest b.then in
    let d = is_led overflow_named Overflow MissingFields no_fields refl (λ w. refl) c.rest c.then in
    let t = is_tail d.rest d.then in
    record {
      request = record { calendar = a.x; shown = b.x; unit = c.x; overflow = d.x; missing_fields = t.m; from = t.first; to = t.second };
      form = record {
        parts = record { calendar = a.word; shown = b.word; unit = c.word; overflow = d.word; missing_fields = t.missing_fields; from = t.from; to = t.to };
        form = ap (λ l. codes "span" ∷ l) (a.is ∙ ap (λ l. a.word ∷ l) (b.is ∙ ap (λ l. b.word ∷ l) (c.is ∙ ap (λ l. c.word ∷ l) (d.is ∙ ap (λ l. d.word ∷ l) t.is))));
        says = record {
          calendar = a.reads;
          shown = b.reads;
          unit = c.reads;
          overflow = d.reads;
          missing_fields = t.says;
          from = bag_is t.from t.first t.says_from;
          to = bag_is t.to t.second t.says_to;
        };
      };
    }

second_passes : (words : List (List ℕ)) (bag to : Bag) → AreWords words → bag_of_all (Some bag) words ≡ Some to
    → passes (Some (Field, bag)) words ≡ true
second_passes [] bag to plain e = refl
second_passes (word ∷ words) bag to plain e =
    ap (λ t. passes (with_place Field (cond t (with_word bag word) None)) words) plain.0 ∙ by (λ next e. second_passes words next to plain.1 e) (with_word bag word) e
  where
    by : ((next : Bag) → bag_of_all (Some next) words ≡ Some to → passes (Some (Field, next)) words ≡ true) → (o : Option Bag)
        → bag_of_all o words ≡ Some to → passes (with_place Field o) words ≡ true
    by others None e = cc
    by others (Some next) e = others next e

first_passes : (prefix : List (List ℕ)) (bag from : Bag) (suffix : List (List ℕ)) → AreWords prefix → bag_of_all (Some bag) prefix ≡ Some from
    → passes (Some (FieldOrTo, bag)) (prefix ++ codes "to" ∷ suffix) ≡ passes (Some (Field, no_fields)) suffix
first_passes [] bag from suffix plain e = refl
first_passes (word ∷ prefix) bag from suffix plain e =
    by (λ next e. first_passes prefix next from suffix plain.1 e) (is_text word (codes "to")) refl
  where
    no_field : is_text word (codes "to") ≡ true → with_word bag word ≡ None
    no_field q = ap (with_word bag) (same_text word (codes "to") q)

    more : ((next : Bag) → bag_of_all (Some next) prefix ≡ Some from → passes (Some (FieldOrTo, next)) (prefix ++ codes "to" ∷ suffix) ≡ passes (Some (Field, no_fields)) suffix)
        → (o : Option Bag) → bag_of_all o prefix ≡ Some from
        → passes (with_place FieldOrTo o) (prefix ++ codes "to" ∷ suffix) ≡ passes (Some (Field, no_fields)) suffix
    more others None e = cc
    more others (Some next) e = others next e

    by : ((next : Bag) → bag_of_all (Some next) prefix ≡ Some from → passes (Some (FieldOrTo, next)) (prefix ++ codes "to" ∷ suffix) ≡ passes (Some (Field, no_fields)) suffix)
        → (t : Bool) → is_text word (codes "to") ≡ t
        → passes (cond t (Some (Field, no_fields)) (with_place FieldOrTo (with_whole_word bag word))) (prefix ++ codes "to" ∷ suffix) ≡ passes (Some (Field, no_fields)) suffix
    by others true q =
        let none : ◌≡◌ {A = Option Bag} None (Some from) = ap (λ o. bag_of_all o prefix) (sym (no_field q)) ∙ e in
        cc
    by others false q =
        ap (λ t. passes (with_place FieldOrTo (cond t (with_word bag word) None)) (prefix ++ codes "to" ∷ suffix)) plain.0 ∙ more others (with_word bag word) e

-- a request leads to its end
pub request_passes : (words : List (List ℕ)) (r : Request) → AreWords words → IsRequest words r → passes start words ≡ true
request_passes words r all f =
    let w = f.parts in
    let s = f.says in
    let plain : AreWords (all_words w) = subst AreWords f.form all in
    let bags : AreWords (w.from ++ codes "to" ∷ w.to) = plain.1.1.1.1.1.1.1 in
    let behind : AreWords (codes "to" ∷ w.to) = are_behind w.from (codes "to" ∷ w.to) bags in
    let last = codes "from" ∷ (w.from ++ codes "to" ∷ w.to) in
    ap (passes start) f.form
    ∙ (leads_on kind_named Calendar Shown no_fields (λ w. refl) w.calendar r.calendar (w.shown ∷ w.unit ∷ w.overflow ∷ w.missing_fields ∷ last) s.calendar
    ∙ (leads_on kind_named Shown Unit no_fields (λ w. refl) w.shown r.shown (w.unit ∷ w.overflow ∷ w.missing_fields ∷ last) s.shown
    ∙ (leads_on unit_named Unit Overflow no_fields (λ w. refl) w.unit r.unit (w.overflow ∷ w.missing_fields ∷ last) s.unit
    ∙ (leads_on overflow_named Overflow MissingFields no_fields (λ w. refl) w.overflow r.overflow (w.missing_fields ∷ last) s.overflow
    ∙ (leads_on missing_fields_named MissingFields From no_fields (λ w. refl) w.missing_fields r.missing_fields last s.missing_fields
    ∙ (first_passes w.from no_fields r.from w.to (are_first w.from (codes "to" ∷ w.to) bags) (bag_reads w.from r.from s.from)
    ∙ second_passes w.to no_fields r.to behind.1 (bag_reads w.to r.to s.to)))))))
