-- Words are read as a request exactly where they are of the form of a request line.
use Rattle.std.proofs.Common.{◌≡◌, ℕ, Bool, true, false, cond, List, [], ◌∷◌, ◌++◌, Option, Some, None, refl, ◌∙◌, sym, ap, subst, codes}
use Rattle.std.specs.Option.{option_map}
use Rattle.cal_kinds.specs.declared.any_calendar_kind.AnyCalendarKind.{AnyCalendarKind}
use Rattle.cal_types.specs.declared.duration.DateDurationUnit.{DateDurationUnit}
use Rattle.cal_types.specs.declared.options.Overflow.{Overflow}
use Rattle.request_lines.specs.Words.{is_text}
use Rattle.request_lines.specs.Reading.{Read, next_word, and_then}
use Rattle.request_lines.specs.Bags.{no_fields, bag_before_to, bag_of_all}
use Rattle.request_lines.specs.BagForms.{SaysBag}
use Rattle.cal_kinds.specs.KindNames.{kind_named}
use Rattle.request_lines.specs.Requests.{Request, Header, unit_named, overflow_named, missing_fields_named, fixed_word, header_read, request_read, request_of}
use Rattle.request_lines.specs.Forms.{RequestWords, all_words, Says, IsRequest, RequestsHaveOneForm}
use Rattle.request_lines.proofs.BagLemmas.{same_text, some_pair, bag_is, bag_reads, before_is, before_reads}

-- a next word was read
pub record IsNext {T U : Type 0} (read : List ℕ → Option T) (words : List (List ℕ)) (next : T → List (List ℕ) → Option U) (z : U) : Type 0 where
  pub word : List ℕ
  pub rest : List (List ℕ)
  pub x : T
  pub is : words ≡ word ∷ rest
  pub reads : read word ≡ Some x
  pub then : next x rest ≡ Some z

pub next_is : {T U : Type 0} (read : List ℕ → Option T) (words : List (List ℕ)) (next : T → List (List ℕ) → Option U) (z : U)
    → and_then (next_word read words) next ≡ Some z → IsNext read words next z
next_is read [] next z e = cc
next_is {T} read (word ∷ words) next z e = by (read word) refl e
  where
    by : (o : Option T) → read word ≡ o → and_then (option_map (λ x. (x, words)) o) next ≡ Some z → IsNext read (word ∷ words) next z
    by None q e = cc
    by (Some x) q e = record { word = word; rest = words; x = x; is = refl; reads = q; then = e }

-- two readings were made
pub record IsThen {T U : Type 0} (reading : Read T) (next : T → List (List ℕ) → Option U) (z : U) : Type 0 where
  pub x : T
  pub rest : List (List ℕ)
  pub reads : reading ≡ Some (x, rest)
  pub then : next x rest ≡ Some z

pub then_is : {T U : Type 0} (reading : Read T) (next : T → List (List ℕ) → Option U) (z : U) → and_then reading next ≡ Some z
    → IsThen reading next z
then_is None next z e = cc
then_is (Some (x, words)) next z e = record { x = x; rest = words; reads = refl; then = e }

-- a fixed word is read as itself alone
pub fixed_is : (name word : List ℕ) (x : Unit {0}) → fixed_word name word ≡ Some x → word ≡ name
fixed_is name word x e = by _ refl e
  where
    by : (t : Bool) → t ≡ is_text word name → cond t (Some tt) None ≡ Some x → word ≡ name
    by true q e = same_text word name (sym q)
    by false q e = cc

-- a next word is read
pub next_reads : {T U : Type 0} (read : List ℕ → Option T) (word : List ℕ) (rest : List (List ℕ)) (next : T → List (List ℕ) → Option U) (x : T)
    → read word ≡ Some x → and_then (next_word read (word ∷ rest)) next ≡ next x rest
next_reads read word rest next x e = ap (λ o. and_then (option_map (λ y. (y, rest)) o) next) e

-- a reading that something was made of
record IsMapped {T U : Type 0} (f : T → U) (o : Option T) (z : U) : Type 0 where
  pub x : T
  pub reads : o ≡ Some x
  pub is : f x ≡ z

mapped_is : {T U : Type 0} (f : T → U) (o : Option T) (z : U) → option_map f o ≡ Some z → IsMapped f o z
mapped_is f None z e = cc
mapped_is f (Some x) z e =
    let same : f x ≡ z = cc in
    record { x = x; reads = refl; is = same }

-- a header was read
pub record IsHeaderRead (words : List (List ℕ)) (h : Header) (rest : List (List ℕ)) : Type 0 where
  pub calendar : List ℕ
  pub shown : List ℕ
  pub unit : List ℕ
  pub overflow : List ℕ
  pub missing_fields : List ℕ
  pub form : words ≡ codes "span" ∷ calendar ∷ shown ∷ unit ∷ overflow ∷ missing_fields ∷ codes "from" ∷ rest
  pub says_calendar : kind_named calendar ≡ Some h.calendar
  pub says_shown : kind_named shown ≡ Some h.shown
  pub says_unit : unit_named unit ≡ Some h.unit
  pub says_overflow : overflow_named overflow ≡ Some h.overflow
  pub says_missing : missing_fields_named missing_fields ≡ Some h.missing_fields

-- what is read behind the calendars, and behind the unit and the overflow
abbrev last_read : AnyCalendarKind → AnyCalendarKind → Option DateDurationUnit → Option Overflow → List (List ℕ) → Read Header
last_read calendar shown unit overflow words =
    and_then (next_word missing_fields_named words) (λ missing_fields words.
    and_then (next_word (fixed_word (codes "from")) words) (λ _ words.
    Some (record { calendar = calendar; shown = shown; unit = unit; overflow = overflow; missing_fields = missing_fields }, words)))

abbrev options_read : AnyCalendarKind → AnyCalendarKind → List (List ℕ) → Read Header
options_read calendar shown words =
    and_then (next_word unit_named words) (λ unit words.
    and_then (next_word overflow_named words) (λ overflow words. last_read calendar shown unit overflow words))

-- a header's last option was read; the others were before it
record IsLastRead (read h : Header) (words rest : List (List ℕ)) : Type 0 where
  missing_fields : List ℕ
  form : words ≡ missing_fields ∷ codes "from" ∷ rest
  says_missing : missing_fields_named missing_fields ≡ Some h.missing_fields
  is : read ≡ h

last_is : (calendar shown : AnyCalendarKind) (unit : Option DateDurationUnit) (overflow : Option Overflow) (words rest : List (List ℕ)) (h : Header)
    → last_read calendar shown unit overflow words ≡ Some (h, rest)
    → IsLastRead (record { calendar = calendar; shown = shown; unit = unit; overflow = overflow; missing_fields = h.missing_fields }) h words rest
last_is calendar shown unit overflow words rest h e =
    let a = next_is missing_fields_named words _ (h, rest) e in
    let b = next_is (fixed_word (codes "from")) a.rest _ (h, rest) a.then in
    let (is, last) = some_pair _ h b.rest rest b.then in
    let from = fixed_is (codes "from") b.word b.x b.reads in
    let missing = ap (λ (t : Header). t.missing_fields) is in
    record {
      missing_fields = a.word;
      form = a.is ∙ ap (λ l. a.word ∷ l) (b.is ∙ λ i. from i ∷ last i);
      says_missing = a.reads ∙ ap Some missing;
      is = ap (λ m. record { calendar = calendar; shown = shown; unit = unit; overflow = overflow; missing_fields = m }) (sym missing) ∙ is;
    }

-- a header's options were read
record AreOptionsRead (calendar shown : AnyCalendarKind) (h : Header) (words rest : List (List ℕ)) : Type 0 where
  unit : List ℕ
  overflow : List ℕ
  missing_fields : List ℕ
  form : words ≡ unit ∷ overflow ∷ missing_fields ∷ codes "from" ∷ rest
  says_unit : unit_named unit ≡ Some h.unit
  says_overflow : overflow_named overflow ≡ Some h.overflow
  says_missing : missing_fields_named missing_fields ≡ Some h.missing_fields
  is_calendar : calendar ≡ h.calendar
  is_shown : shown ≡ h.shown

options_are : (calendar shown : AnyCalendarKind) (words rest : List (List ℕ)) (h : Header) → options_read calendar shown words ≡ Some (h, rest)
    → AreOptionsRead calendar shown h words rest
options_are calendar shown words rest h e =
    let a = next_is unit_named words _ (h, rest) e in
    let b = next_is overflow_named a.rest _ (h, rest) a.then in
    let c = last_is calendar shown a.x b.x b.rest rest h b.then in
    record {
      unit = a.word;
      overflow = b.word;
      missing_fields = c.missing_fields;
      form = a.is ∙ ap (λ l. a.word ∷ l) (b.is ∙ ap (λ l. b.word ∷ l) c.form);
      says_unit = a.reads ∙ ap (λ (t : Header). Some t.unit) c.is;
      says_overflow = b.reads ∙ ap (λ (t : Header). Some t.overflow) c.is;
      says_missing = c.says_missing;
      is_calendar = ap (λ (t : Header). t.calendar) c.is;
      is_shown = ap (λ (t : Header). t.shown) c.is;
    }

pub header_is : (words : List (List ℕ)) (h : Header) (rest : List (List ℕ)) → header_read words ≡ Some (h, rest)
    → IsHeaderRead words h rest
unfolding header_read
header_is words h rest e =
    let a = next_is (fixed_word (codes "span")) words _ (h, rest) e in
    let b = next_is kind_named a.rest _ (h, rest) a.then in
    let c = next_is kind_named b.rest _ (h, rest) b.then in
    let d = options_are b.x c.x c.rest rest h c.then in
    let span = fixed_is (codes "span") a.word a.x a.reads in
    let behind : a.rest ≡ b.word ∷ c.word ∷ d.unit ∷ d.overflow ∷ d.missing_fields ∷ codes "from" ∷ rest =
    b.is ∙ ap (λ l. b.word ∷ l) (c.is ∙ ap (λ l. c.word ∷ l) d.form)
    in
    record {
      calendar = b.word;
      shown = c.word;
      unit = d.unit;
      overflow = d.overflow;
      missing_fields = d.missing_fields;
      form = a.is ∙ λ i. span i ∷ behind i;
      says_calendar = b.reads ∙ ap Some d.is_calendar;
      says_shown = c.reads ∙ ap Some d.is_shown;
      says_unit = d.says_unit;
      says_overflow = d.says_overflow;
      says_missing = d.says_missing;
    }

pub request_is : (words : List (List ℕ)) (r : Request) → request_read words ≡ Some r → IsRequest words r
unfolding request_read
request_is words r e =
    let h = then_is (header_read words) _ r e in
    let f = then_is (bag_before_to (Some no_fields) h.rest) _ r h.then in
    let t = mapped_is (request_of h.x f.x) (bag_of_all (Some no_fields) f.rest) r f.then in
    let header = header_is words h.x h.rest h.reads in
    let before = before_is h.rest no_fields f.x f.rest f.reads in
    let is : request_of h.x f.x t.x ≡ r = t.is in
    let from = bag_is before.prefix f.x before.reads in
    let to = bag_is f.rest t.x t.reads in
    record {
      parts = record { calendar = header.calendar; shown = header.shown; unit = header.unit; overflow = header.overflow; missing_fields = header.missing_fields; from = before.prefix; to = f.rest };
      form = header.form ∙ ap (λ l. codes "span" ∷ header.calendar ∷ header.shown ∷ header.unit ∷ header.overflow ∷ header.missing_fields ∷ codes "from" ∷ l) before.form;
      says = record {
        calendar = header.says_calendar ∙ ap (λ (t : Request). Some t.calendar) is;
        shown = header.says_shown ∙ ap (λ (t : Request). Some t.shown) is;
        unit = header.says_unit ∙ ap (λ (t : Request). Some t.unit) is;
        overflow = header.says_overflow ∙ ap (λ (t : Request). Some t.overflow) is;
        missing_fields = header.says_missing ∙ ap (λ (t : Request). Some t.missing_fields) is;
        from = subst (λ (r : Request). SaysBag before.prefix r.from) is from;
        to = subst (λ (r : Request). SaysBag f.rest r.to) is to;
      };
    }

pub header_reads : (t : RequestWords) (r : Request) (rest : List (List ℕ)) → Says t r
    → header_read (codes "span" ∷ t.calendar ∷ t.shown ∷ t.unit ∷ t.overflow ∷ t.missing_fields ∷ codes "from" ∷ rest) ≡ Some (record { calendar = r.calendar; shown = r.shown; unit = r.unit; overflow = r.overflow; missing_fields = r.missing_fields }, rest)
unfolding header_read
header_reads t r rest s =
    next_reads kind_named t.calendar (t.shown ∷ t.unit ∷ t.overflow ∷ t.missing_fields ∷ codes "from" ∷ rest) _ r.calendar s.calendar
    ∙ (next_reads kind_named t.shown (t.unit ∷ t.overflow ∷ t.missing_fields ∷ codes "from" ∷ rest) _ r.shown s.shown
    ∙ (next_reads unit_named t.unit (t.overflow ∷ t.missing_fields ∷ codes "from" ∷ rest) _ r.unit s.unit
    ∙ (next_reads overflow_named t.overflow (t.missing_fields ∷ codes "from" ∷ rest) _ r.overflow s.overflow
    ∙ (next_reads missing_fields_named t.missing_fields (codes "from" ∷ rest) _ r.missing_fields s.missing_fields))))

pub request_reads : (w : RequestWords) (r : Request) → Says w r → request_read (all_words w) ≡ Some r
unfolding request_read
request_reads w r s =
    let h : Header = record { calendar = r.calendar; shown = r.shown; unit = r.unit; overflow = r.overflow; missing_fields = r.missing_fields } in
    let header = header_reads w r (w.from ++ codes "to" ∷ w.to) s in
    ap (λ o. and_then o (λ h words. and_then (bag_before_to (Some no_fields) words) (λ from words. option_map (request_of h from) (bag_of_all (Some no_fields) words)))) header
    ∙ (ap (λ o. and_then o (λ from words. option_map (request_of h from) (bag_of_all (Some no_fields) words))) (before_reads w.from no_fields r.from w.to (bag_reads w.from r.from s.from))
    ∙ ap (option_map (request_of h r.from)) (bag_reads w.to r.to s.to))

pub one_form : RequestsHaveOneForm
one_form words r = (request_is words r, λ f. ap request_read f.form ∙ request_reads f.parts r f.says)
