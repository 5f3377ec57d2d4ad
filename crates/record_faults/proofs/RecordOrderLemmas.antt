-- The fields of a record are read one behind the other.
use Rattle.std.proofs.Common.{◌≡◌, ℕ, zero, suc, ◌==◌, List, [], ◌∷◌, get_or, length, Option, Some, None, is_some, option_and_then, option_map, Result, Ok, cond, refl, ◌∙◌, sym, ap, subst, codes, arith, ℤ, pos, Bool, true, false}
use Rattle.cal_kinds.specs.KindNames.{kind_named}
use Rattle.cal_kinds.specs.declared.any_calendar_kind.AnyCalendarKind.{AnyCalendarKind}
use Rattle.cal_kinds.specs.declared.any_calendar_kind.AnyCalendarKind.TheVariants as kind
use Rattle.cal_base.specs.GregorianList.{gregorian_list}
use Rattle.cal_days.specs.Sums.{span, total}
use Rattle.cal_types.specs.CalendarList.{days_before, place_of, spot, start_of_year}
use Rattle.cal_types.specs.Renumbered.{renumbered}
use Rattle.cal_types.specs.Resolving.{resolve}
use Rattle.cal_types.specs.YearNames.{is_code}
use Rattle.std.proofs.lemmas.Bool.Decides.{Decides-eqb}
use Rattle.std.specs.Cmp.Lexicographic.{pointwise_decides}
use Rattle.csv.specs.Records.{field_at}
use Rattle.cal_holidays.specs.KindMonths.{knows_month}
use Rattle.cal_holidays.specs.RecordMoves.{moves_read, week_moves}
use Rattle.cal_holidays.specs.RecordStarts.{recurrence_read, start_read}
use Rattle.cal_holidays.specs.RecordWords.{day_read, is_julian, is_name, leaping_named, month_of, name_read, nothing, nth_named, offset_read, rule_kind, week_named, weekday_named}
use Rattle.cal_holidays.specs.RecordYears.{every_read, year_of, year_read}
use Rattle.cal_holidays.specs.Records.{TenFields, and_then, by_places, field, kept_read, years_read}
use Rattle.cal_holidays.specs.Rules.{DayRule, Easter, Fixed, Kept, NamedRule, Nth, Recurring, Span, Yearly}
use Rattle.record_faults.specs.FieldTexts.{may_stand}
use Rattle.record_faults.specs.RecordFaults.{calendar_field, every_field, expected_fields, last_field, month_field, text_at, value_field}
use Rattle.record_faults.specs.declared.expected.FieldExpected.{FieldExpected}
use Rattle.record_faults.specs.declared.expected.FieldExpected.TheVariants.{Every, Month, Moves, NoEvery, Recurrence}
use Rattle.record_faults.proofs.ReadingLemmas.{Reads, at, none_some, reads_all, reads_field, reads_then, some_is, stands_at}

-- a text that is read
record IsRead {T : Type 0} (read : List ℕ → Option T) : Type 0 where
  text : List ℕ
  value : T
  is : read text ≡ Some value

-- a value, exactly if it passes a test
some_if : {T : Type 0} (x : T) (t : Bool) → t ≡ is_some (cond t (Some x) None)
some_if x true = refl
some_if x false = refl

-- what may stand in a field is what is read there
abbrev IsReadAs : {T : Type 0} → List (List ℕ) → FieldExpected → (List ℕ → Option T) → Type 0
IsReadAs fields expected read = (text : List ℕ) → may_stand expected fields text ≡ is_some (read text)

-- it is known that the first field of a record is a word
abbrev IsOf : List (List ℕ) → Type 0 → List ℕ → Type 0
IsOf fields K word = K → at (by_places fields) 0 ≡ word

-- a record's texts, by their places
text_get : (fields : List (List ℕ)) (i : ℕ) → text_at fields i ≡ get_or fields i []
unfolding field_at
text_get [] i = refl
text_get (f ∷ fs) zero = refl
text_get (f ∷ fs) (suc i) = text_get fs i

-- what may stand at a place, by the word for the kind of rule
by_kind : {T : Type 0} (fields : List (List ℕ)) (word : List ℕ) (n : ℕ) (read : List ℕ → Option T)
    → at (by_places fields) 0 ≡ word
    → IsReadAs fields (get_or (expected_fields word (text_at fields 6)) (suc n) Moves) read
    → (text : List ℕ) → stands_at fields n text ≡ is_some (read text)
unfolding stands_at
by_kind fields word n read know same text =
    ap (λ s. may_stand (get_or (expected_fields s (text_at fields 6)) (suc n) Moves) fields text)
    (text_get fields 0 ∙ know) ∙ same text

-- the months of the calendar that is named may stand behind it
by_calendar : (fields : List (List ℕ)) (t : List ℕ) (calendar : AnyCalendarKind)
    → at (by_places fields) 2 ≡ t → kind_named t ≡ Some calendar → IsReadAs fields Month (month_of calendar)
by_calendar fields t calendar know is text =
    ap (λ o. is_some (option_and_then (λ c. month_of c text) o)) (ap kind_named (text_get fields 2 ∙ know) ∙ is)

-- with the first year that is read, what is read of the steps may stand
by_since : (fields : List (List ℕ)) (s : List ℕ) (since : Option ℤ)
    → at (by_places fields) 6 ≡ s → year_read s ≡ Some since
    → (text : List ℕ) → stands_at fields 8 text ≡ is_some (every_read since text)
unfolding stands_at
by_since fields s since know is text = ap (λ s. may_stand (every_field s) fields text) own ∙ by (length s == 0) refl
  where
    own : text_at fields 6 ≡ s
    own = text_get fields 6 ∙ know

    by : (t : Bool) → (length s == 0) ≡ t → may_stand (every_field s) fields text ≡ is_some (every_read since text)
    by true e =
        let none : None ≡ since = some_is (sym (ap (λ t. cond t (Some None) (option_map Some (year_of s))) e) ∙ is) in
        ap (λ t. may_stand (cond t NoEvery Every) fields text) e
        ∙ (some_if 1 (length text == 0) ∙ ap (λ since. is_some (every_read since text)) none)
    by false e =
        ap (λ t. may_stand (cond t NoEvery Every) fields text) e
        ∙ ap (λ o. is_some (option_and_then (λ since. every_read since text) o)) (ap year_read own ∙ is)

-- four fields from the third on, in a record with a word for the kind of its rule
four : {fields : List (List ℕ)} {K A B V W : Type 0} (word : List ℕ) → IsOf fields K word
    → (first : List ℕ → Option A) (second : A → List ℕ → Option B) (third : A → List ℕ → Option V)
    (fourth : List ℕ → Option W) (made : A → B → V → W → DayRule)
    → IsRead first → ((a : A) → IsRead (second a)) → ((a : A) → IsRead (third a)) → IsRead fourth
    → IsReadAs fields (calendar_field word) first
    → ((t : List ℕ) (a : A) → at (by_places fields) 2 ≡ t → first t ≡ Some a
    → IsReadAs fields (month_field word) (second a))
    → ((t : List ℕ) (a : A) → at (by_places fields) 2 ≡ t → first t ≡ Some a
    → IsReadAs fields (value_field word) (third a)) → IsReadAs fields (last_field word) fourth
    → Reads fields K 2 6 (λ f. field 3 (first f.calendar) (λ a. field 4 (second a f.month) (λ b.
    field 5 (third a f.value) (λ v. field 6 (fourth f.last) (λ w. Ok (made a b v w))))))
four {fields} word of first second third fourth made one two three last as_one as_two as_three as_last =
    reads_field 2 6 first (λ a f. field 4 (second a f.month) (λ b. field 5 (third a f.value) (λ v. field 6 (fourth f.last) (λ w. Ok (made a b v w)))))
    one.text one.value one.is (omega (arith)) (omega (arith)) (λ le. absurd (omega (arith, le)))
    (λ know. by_kind fields word 2 first (of know) as_one) (λ calendar a named.
    reads_field 3 6 (second a) (λ b f. field 5 (third a f.value) (λ v. field 6 (fourth f.last) (λ w. Ok (made a b v w))))
    (two a).text (two a).value (two a).is (omega (arith)) (omega (arith)) (λ le. absurd (omega (arith, le)))
    (λ know. by_kind fields word 3 (second a) (of know.0) (as_two calendar a know.1 named)) (λ text b is.
    reads_field 4 6 (third a) (λ v f. field 6 (fourth f.last) (λ w. Ok (made a b v w)))
    (three a).text (three a).value (three a).is (omega (arith)) (omega (arith)) (λ le. absurd (omega (arith, le)))
    (λ know. by_kind fields word 4 (third a) (of know.0.0) (as_three calendar a know.0.1 named)) (λ text v is.
    reads_field 5 6 fourth (λ w f. Ok (made a b v w))
    last.text last.value last.is (omega (arith)) (omega (arith)) (λ le. absurd (omega (arith, le)))
    (λ know. by_kind fields word 5 fourth (of know.0.0.0) as_last) (λ text w is.
    reads_all 6 (made a b v w)))))

-- each calendar has a first month
knows_first : (calendar : AnyCalendarKind) → knows_month calendar (record { number = 1; is_leap = false }) ≡ true
knows_first kind.Buddhist = refl
knows_first kind.Chinese = refl
knows_first kind.Coptic = refl
knows_first kind.Dangi = refl
knows_first kind.Ethiopian = refl
knows_first kind.EthiopianAmeteAlem = refl
knows_first kind.Gregorian = refl
knows_first kind.Hebrew = refl
knows_first kind.Indian = refl
knows_first kind.HijriTabularTypeIIFriday = refl
knows_first kind.HijriSimulatedMecca = refl
knows_first kind.HijriTabularTypeIIThursday = refl
knows_first kind.HijriUmmAlQura = refl
knows_first kind.Iso = refl
knows_first kind.Japanese = refl
knows_first kind.JapaneseExtended = refl
knows_first kind.Julian = refl
knows_first kind.Persian = refl
knows_first kind.Roc = refl
knows_first kind.HijriTabularTypeIFriday = refl
knows_first kind.HijriTabularTypeIThursday = refl

first_month : (calendar : AnyCalendarKind) → IsRead (month_of calendar)
first_month calendar = record {
  text = codes "M01";
  value = record { number = 1; is_leap = false };
  is = ap (λ t. cond t (Some (record { number = 1; is_leap = false })) None) (knows_first calendar);
}

iso : IsRead kind_named
iso = record { text = codes "iso"; value = kind.Iso; is = refl }

years_reads : {fields : List (List ℕ)} {K : Type 0} → Reads fields K 6 9 years_read
unfolding stands_at
years_reads =
    reads_field 6 9 year_read (λ since f. field 8 (year_read f.until) (λ until. field 9 (every_read since f.every) (λ every. Ok (record { since = since; until = until; every = every }))))
    [] None refl (omega (arith)) (omega (arith)) (λ le. (None, refl)) (λ know text. refl) (λ s since is.
    reads_field 7 9 year_read (λ until f. field 9 (every_read since f.every) (λ every. Ok (record { since = since; until = until; every = every })))
    [] None refl (omega (arith)) (omega (arith)) (λ le. (None, refl)) (λ know text. refl) (λ text until _.
    reads_field 8 9 (every_read since) (λ every f. Ok (record { since = since; until = until; every = every }))
    [] 1 refl (omega (arith)) (omega (arith)) (λ le. (1, refl))
    (λ know. by_since _ s since know.0.1 is) (λ text every _.
    reads_all 9 (record { since = since; until = until; every = every }))))

-- a rule is read, and then its years and moves
kept_reads : {fields : List (List ℕ)} {K : Type 0} (R : TenFields → Result DayRule ℕ) → Reads fields K 2 6 R
    → Reads {U = Kept} fields K 2 10 (λ f. and_then (R f) (λ rule. and_then (years_read f) (λ years. field 10 (moves_read f.moved) (λ moves. Ok (record { rule = rule; years = years; moves = moves })))))
unfolding stands_at
kept_reads R rule_reads =
    reads_then 2 6 10 R (λ rule f. and_then (years_read f) (λ years. field 10 (moves_read f.moved) (λ moves. Ok (record { rule = rule; years = years; moves = moves }))))
    (omega (arith)) (omega (arith)) rule_reads (λ rule.
    reads_then 6 9 10 years_read (λ years f. field 10 (moves_read f.moved) (λ moves. Ok (record { rule = rule; years = years; moves = moves })))
    (omega (arith)) (omega (arith)) years_reads (λ years.
    reads_field 9 10 moves_read (λ moves f. Ok (record { rule = rule; years = years; moves = moves }))
    [] (week_moves []) refl (omega (arith)) (omega (arith)) (λ le. (week_moves [], refl))
    (λ know text. refl) (λ text moves is.
    reads_all 10 (record { rule = rule; years = years; moves = moves }))))

fixed_reads : {fields : List (List ℕ)} {K : Type 0} → IsOf fields K (codes "fixed")
    → Reads fields K 2 6 (λ f. field 3 (kind_named f.calendar) (λ a. field 4 (month_of a f.month) (λ b. field 5 (day_read f.value) (λ v. field 6 (leaping_named f.last) (λ w. Ok (Yearly (Fixed a b v w)))))))
fixed_reads of =
    four (codes "fixed") of kind_named month_of (λ calendar. day_read) leaping_named (λ a b v w. Yearly (Fixed a b v w)) iso first_month
    (λ calendar. record { text = codes "1"; value = 1; is = refl }) (record { text = codes "exact"; value = _; is = refl })
    (λ text. refl) (by_calendar _) (λ t calendar named is text. refl) (λ text. refl)

easter_reads : {fields : List (List ℕ)} {K : Type 0} → IsOf fields K (codes "easter")
    → Reads fields K 2 6 (λ f. field 3 (is_julian f.calendar) (λ a. field 4 (nothing f.month) (λ b. field 5 (offset_read f.value) (λ v. field 6 (nothing f.last) (λ w. Ok (Yearly (Easter a v)))))))
easter_reads of =
    four (codes "easter") of is_julian (λ julian. nothing) (λ julian. offset_read) nothing (λ julian none offset last. Yearly (Easter julian offset))
    (record { text = codes "gregorian"; value = false; is = refl }) (λ julian. record { text = []; value = []; is = refl })
    (λ julian. record { text = codes "0"; value = _; is = refl }) (record { text = []; value = []; is = refl })
    (λ text. refl) (λ t julian named is text. some_if text (length text == 0)) (λ t julian named is text. refl)
    (λ text. some_if text (length text == 0))

nth_reads : {fields : List (List ℕ)} {K : Type 0} → IsOf fields K (codes "weekday")
    → Reads fields K 2 6 (λ f. field 3 (kind_named f.calendar) (λ a. field 4 (month_of a f.month) (λ b. field 5 (nth_named f.value) (λ v. field 6 (weekday_named f.last) (λ w. Ok (Yearly (Nth a b v w)))))))
nth_reads of =
    four (codes "weekday") of kind_named month_of (λ calendar. nth_named) weekday_named (λ a b v w. Yearly (Nth a b v w)) iso first_month
    (λ calendar. record { text = codes "1"; value = _; is = refl }) (record { text = codes "monday"; value = _; is = refl })
    (λ text. refl) (by_calendar _) (λ t calendar named is text. refl) (λ text. refl)

span_reads : {fields : List (List ℕ)} {K : Type 0} → IsOf fields K (codes "span")
    → Reads fields K 2 6 (λ f. field 3 (kind_named f.calendar) (λ a. field 4 (month_of a f.month) (λ b. field 5 (day_read f.value) (λ v. field 6 (week_named f.last) (λ w. Ok (Yearly (Span a b v w.0 w.1)))))))
span_reads of =
    four (codes "span") of kind_named month_of (λ calendar. day_read) week_named (λ calendar month day week. Yearly (Span calendar month day week.0 week.1)) iso first_month
    (λ calendar. record { text = codes "1"; value = 1; is = refl }) (record { text = codes "monday"; value = _; is = refl })
    (λ text. refl) (by_calendar _) (λ t calendar named is text. refl) (λ text. refl)

-- for each calendar there is a recurrence rule, and there is a start
daily : (calendar : AnyCalendarKind) → IsRead (recurrence_read calendar)
daily calendar = record { text = codes "FREQ=DAILY"; value = codes "FREQ=DAILY"; is = refl }

first_day : IsRead start_read
unfolding resolve start_of_year days_before renumbered gregorian_list spot place_of span total
first_day = record { text = codes "0001-01-01"; value = pos 1; is = refl }

-- the rules for the calendar that is named may stand behind it
by_recurrence : (fields : List (List ℕ)) (t : List ℕ) (calendar : AnyCalendarKind)
    → at (by_places fields) 2 ≡ t → kind_named t ≡ Some calendar → IsReadAs fields Recurrence (recurrence_read calendar)
by_recurrence fields t calendar know is text =
    ap (λ o. is_some (option_and_then (λ c. recurrence_read c text) o)) (ap kind_named (text_get fields 2 ∙ know) ∙ is)

recurring_reads : {fields : List (List ℕ)} {K : Type 0} → IsOf fields K (codes "rule")
    → Reads fields K 2 6 (λ f. field 3 (kind_named f.calendar) (λ a. field 4 (nothing f.month) (λ b. field 5 (recurrence_read a f.value) (λ v. field 6 (start_read f.last) (λ w. Ok (Recurring (record { calendar = a; text = v; start = w })))))))
recurring_reads of =
    four (codes "rule") of kind_named (λ calendar. nothing) recurrence_read start_read (λ a b v w. Recurring (record { calendar = a; text = v; start = w }))
    iso (λ calendar. record { text = []; value = []; is = refl }) daily first_day
    (λ text. refl) (λ t calendar named is text. some_if text (length text == 0)) (by_recurrence _) (λ text. refl)

-- what a record with these fields says
abbrev pub fields_read : TenFields → Result NamedRule ℕ
fields_read f =
    field 1 (rule_kind f.kind) (λ kind.
    field 2 (name_read f.name) (λ name.
    and_then (kept_read kind f) (λ kept. Ok (record { name = name; kept = kept }))))

-- the fields behind a text for the kind of a rule are read in order
abbrev AreReadBy : List (List ℕ) → List ℕ → (TenFields → Result Kept ℕ) → Type 0
AreReadBy fields text R =
    Reads {U = NamedRule} fields (Unit {0} × (at (by_places fields) 0 ≡ text)) 1 10
    (λ f. field 2 (name_read f.name) (λ name. and_then (R f) (λ kept. Ok (record { name = name; kept = kept }))))

-- a name is read, and then what is kept
named_reads : {fields : List (List ℕ)} {word : List ℕ} (R : TenFields → Result Kept ℕ)
    → ((K : Type 0) → IsOf fields K word → Reads fields K 2 10 R) → AreReadBy fields word R
unfolding stands_at
named_reads R kept_reads =
    reads_field 1 10 name_read (λ name f. and_then (R f) (λ kept. Ok (record { name = name; kept = kept })))
    (codes "a") (codes "a") refl (omega (arith)) (omega (arith)) (λ le. absurd (omega (arith, le)))
    (λ know text. some_if text (is_name text)) (λ text name is.
    reads_then 2 10 10 R (λ kept f. Ok (record { name = name; kept = kept }))
    (omega (arith)) (omega (arith)) (kept_reads _ (λ know. know.0.1)) (λ kept.
    reads_all 10 (record { name = name; kept = kept })))

-- a reader of the five words for kinds of rules
by_word : {K : Type 0} (read : List ℕ → Option K) (P : List ℕ → K → Type 0) (text : List ℕ) (kind : K)
    → read text ≡ Some kind
    → (read (codes "fixed") ≡ Some kind → P (codes "fixed") kind)
    → (read (codes "easter") ≡ Some kind → P (codes "easter") kind)
    → (read (codes "weekday") ≡ Some kind → P (codes "weekday") kind)
    → (read (codes "span") ≡ Some kind → P (codes "span") kind)
    → (read (codes "rule") ≡ Some kind → P (codes "rule") kind)
    → (is_code text (codes "fixed") ≡ false → is_code text (codes "easter") ≡ false → is_code text (codes "weekday") ≡ false
    → is_code text (codes "span") ≡ false → is_code text (codes "rule") ≡ false → read text ≡ None)
    → P text kind
by_word read P text kind is fixed easter nth span recurring none =
    on (codes "fixed") fixed (λ a. on (codes "easter") easter (λ b. on (codes "weekday") nth (λ c. on (codes "span") span (λ d.
    on (codes "rule") recurring (λ e. none_some kind (sym (none a b c d e) ∙ is)) (is_code text (codes "rule")) refl)
    (is_code text (codes "span")) refl) (is_code text (codes "weekday")) refl)
    (is_code text (codes "easter")) refl) (is_code text (codes "fixed")) refl
  where
    on : (word : List ℕ) → (read word ≡ Some kind → P word kind) → (is_code text word ≡ false → P text kind)
        → (t : Bool) → is_code text word ≡ t → P text kind
    on word so others true e =
        let same : word ≡ text = sym ((pointwise_decides Decides-eqb text word).0 e) in
        subst (λ s. P s kind) same (so (ap read same ∙ is))
    on word so others false e = others e

pub fields_reads : (fields : List (List ℕ)) → Reads fields (Unit {0}) 0 10 fields_read
unfolding stands_at
fields_reads fields =
    reads_field 0 10 rule_kind (λ kind f. field 2 (name_read f.name) (λ name. and_then (kept_read kind f) (λ kept. Ok (record { name = name; kept = kept }))))
    (codes "fixed") _ refl (omega (arith)) (omega (arith)) (λ le. absurd (omega (arith, le)))
    (λ know text. refl) (λ text kind is.
    by_word rule_kind (λ text kind. AreReadBy fields text (kept_read kind)) text kind is
    (λ e. subst (λ kind. AreReadBy fields (codes "fixed") (kept_read kind)) (some_is e)
    (named_reads _ (λ K of. kept_reads _ (fixed_reads of))))
    (λ e. subst (λ kind. AreReadBy fields (codes "easter") (kept_read kind)) (some_is e)
    (named_reads _ (λ K of. kept_reads _ (easter_reads of))))
    (λ e. subst (λ kind. AreReadBy fields (codes "weekday") (kept_read kind)) (some_is e)
    (named_reads _ (λ K of. kept_reads _ (nth_reads of))))
    (λ e. subst (λ kind. AreReadBy fields (codes "span") (kept_read kind)) (some_is e)
    (named_reads _ (λ K of. kept_reads _ (span_reads of))))
    (λ e. subst (λ kind. AreReadBy fields (codes "rule") (kept_read kind)) (some_is e)
    (named_reads _ (λ K of. kept_reads _ (recurring_reads of))))
    (λ a b c d e. rw (a, b, c, d, e) refl))
