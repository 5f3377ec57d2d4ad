-- Words name a command exactly where they lead to the end of a command line.
use Rattle.std.proofs.Common.{◌≡◌, ℕ, ℤ, Bool, true, false, cond, List, [], ◌∷◌, Option, Some, None, refl, ◌∙◌, sym, ap, codes}
use Rattle.std.proofs.lemmas.Bool.{false≢true}
use Rattle.std.specs.Option.{is_some, option_map}
use Rattle.cal_types.specs.Bag.{Bag}
use Rattle.cal_types.specs.Month.{month_read}
use Rattle.cal_kinds.specs.KindNames.{kind_named}
use Rattle.word_values.specs.Numbers.{byte_of, int_of}
use Rattle.request_lines.specs.Words.{is_text}
use Rattle.request_lines.specs.Reading.{Read, and_then, next_word}
use Rattle.request_lines.specs.Bags.{no_fields, with_whole_word}
use Rattle.command_line.specs.Asked.{anniversary_read, every_of, fields_of, holidays_read, leaping_named, missing_named, recur_header_read, recur_of, unit_named}
use Rattle.command_line.specs.Command.{Asked, Explain, ExplainHolidays, Generate, Recur, Rrule, Span, anniversary_of, at_end, command_of, convert_of, count_of, explain_of, generate_of, holidays_of}
use Rattle.command_line.specs.ConvertAsked.{convert_read, overflow_named}
use Rattle.command_line.specs.RruleAsked.{fields_before, of_fields, on_day, or_else, rrule_header_read, rrule_of, start_and_rule}
use Rattle.command_line.specs.FirstFaults.{NameCommand}
use Rattle.command_line.specs.Forms.{is_argument}
use Rattle.command_line.specs.Places.{First, Before, InFields, AtStart, BehindField, AtHolidays, AtEnd, behind_start, form_place, place_of}
use Rattle.command_line.specs.declared.part.Argument.{Argument}
use Rattle.command_line.specs.declared.part.Argument.TheVariants as argument
use Rattle.command_line.specs.declared.part.Behind.{Behind}
use Rattle.command_line.specs.declared.part.Behind.TheVariants as behind
use Rattle.command_line.proofs.PassLemmas.{passes}

-- something mapped is something
pub mapped : {A B : Type 0} (f : A → B) (o : Option A) → is_some (option_map f o) ≡ is_some o
mapped f None = refl
mapped f (Some x) = refl

-- a word and what goes on behind it
led : {T V : Type 0} (read : List ℕ → Option T) (here : Argument) (arguments : List Argument) (rest : Behind) (next : T → List (List ℕ) → Option V)
    → ((word : List ℕ) → is_argument here word ≡ is_some (read word))
    → ((x : T) (words : List (List ℕ)) → is_some (next x words) ≡ passes (Some (place_of arguments rest)) words)
    → (words : List (List ℕ)) → is_some (and_then (next_word read words) next) ≡ passes (Some (Before here arguments rest)) words
led read here arguments rest next same more [] = refl
led {T} {V} read here arguments rest next same more (word ∷ words) = by (read word) refl
  where
    by : (o : Option T) → read word ≡ o
        → is_some (and_then (option_map (λ x. (x, words)) o) next) ≡ passes (cond (is_argument here word) (Some (place_of arguments rest)) None) words
    by None q = sym (ap (λ t. passes (cond t (Some (place_of arguments rest)) None) words) (same word ∙ ap is_some q))
    by (Some x) q = more x words ∙ sym (ap (λ t. passes (cond t (Some (place_of arguments rest)) None) words) (same word ∙ ap is_some q))

-- two readings and then a third are one reading and then the two others
grouped : {T U V : Type 0} (r : Read T) (next : T → List (List ℕ) → Read U) (last : U → List (List ℕ) → Option V)
    → is_some (and_then (and_then r next) last) ≡ is_some (and_then r (λ x words. and_then (next x words) last))
grouped None next last = refl
grouped (Some (x, words)) next last = refl

-- the same within a reading of several words
led_in : {T U V : Type 0} (read : List ℕ → Option T) (here : Argument) (arguments : List Argument) (rest : Behind)
    (next : T → List (List ℕ) → Read U) (last : U → List (List ℕ) → Option V)
    → ((word : List ℕ) → is_argument here word ≡ is_some (read word))
    → ((x : T) (words : List (List ℕ)) → is_some (and_then (next x words) last) ≡ passes (Some (place_of arguments rest)) words)
    → (words : List (List ℕ)) → is_some (and_then (and_then (next_word read words) next) last) ≡ passes (Some (Before here arguments rest)) words
led_in read here arguments rest next last same more words =
    grouped (next_word read words) next last ∙ led read here arguments rest (λ x words. and_then (next x words) last) same more words

-- nothing stands behind the last word
ended : (asked : Asked) (words : List (List ℕ)) → is_some (at_end asked words) ≡ passes (Some AtEnd) words
ended asked [] = refl
ended asked (word ∷ words) = refl

-- fields lead on where they are a bag
fields_pass : (words : List (List ℕ)) (bag : Bag) → is_some (fields_of (Some bag) words) ≡ passes (Some (InFields bag)) words
fields_pass [] bag = refl
fields_pass (word ∷ words) bag = by (λ next. fields_pass words next) (with_whole_word bag word)
  where
    by : ((next : Bag) → is_some (fields_of (Some next) words) ≡ passes (Some (InFields next)) words)
        → (o : Option Bag) → is_some (fields_of o words) ≡ passes (option_map InFields o) words
    by others None = refl
    by others (Some next) = others next

before_pass : (words : List (List ℕ)) (bag : Bag) (last : List ℕ) → is_some (fields_before (Some bag) last words) ≡ passes (Some (BehindField bag last)) words
before_pass [] bag last = refl
before_pass (word ∷ words) bag last = by (λ next. before_pass words next word) (with_whole_word bag last)
  where
    by : ((next : Bag) → is_some (fields_before (Some next) word words) ≡ passes (Some (BehindField next word)) words)
        → (o : Option Bag) → is_some (fields_before o word words) ≡ passes (option_map (λ fields. BehindField fields word) o) words
    by others None = refl
    by others (Some next) = others next

-- the start and the rule
start_passes : (words : List (List ℕ)) → is_some (start_and_rule words) ≡ passes (Some AtStart) words
start_passes [] = refl
start_passes (word ∷ []) = refl
start_passes (word ∷ (rule ∷ [])) = by (with_whole_word no_fields word) (int_of word)
  where
    by : (o : Option Bag) (day : Option ℤ)
        → is_some (or_else (option_map (on_day rule) day) (option_map of_fields (fields_before o rule [])))
        ≡ passes (behind_start o (is_some day) rule) []
    by None None = refl
    by None (Some n) = refl
    by (Some bag) None = refl
    by (Some bag) (Some n) = refl
start_passes (word ∷ (rule ∷ (next ∷ words))) = by (with_whole_word no_fields word) (is_some (int_of word))
  where
    by : (o : Option Bag) (is_day : Bool)
        → is_some (option_map of_fields (fields_before o rule (next ∷ words))) ≡ passes (behind_start o is_day rule) (next ∷ words)
    by None true = refl
    by None false = refl
    by (Some bag) is_day = mapped of_fields (fields_before (Some bag) rule (next ∷ words)) ∙ before_pass (next ∷ words) bag rule

-- the words behind each name
anniversary_passes : (words : List (List ℕ))
    → is_some (anniversary_of words) ≡ passes (Some (place_of (argument.Calendar ∷ argument.Calendar ∷ argument.Leaping ∷ argument.MonthCode ∷ argument.DayOfMonth ∷ argument.DayNumber ∷ argument.DayNumber ∷ []) behind.End)) words
unfolding anniversary_read
anniversary_passes =
    led_in kind_named argument.Calendar _ behind.End _ _ (λ w. refl) (λ calendar.
    led_in kind_named argument.Calendar _ behind.End _ _ (λ w. refl) (λ shown.
    led_in leaping_named argument.Leaping _ behind.End _ _ (λ w. refl) (λ leaping.
    led_in month_read argument.MonthCode _ behind.End _ _ (λ w. refl) (λ month.
    led_in byte_of argument.DayOfMonth _ behind.End _ _ (λ w. refl) (λ day.
    led_in int_of argument.DayNumber _ behind.End _ _ (λ w. refl) (λ first.
    led_in int_of argument.DayNumber [] behind.End _ _ (λ w. refl) (λ last words. ended _ words)))))))

holidays_pass : (words : List (List ℕ)) → is_some (holidays_of words) ≡ passes (Some (place_of (argument.DayNumber ∷ argument.DayNumber ∷ []) behind.End)) words
unfolding holidays_read
holidays_pass =
    led_in int_of argument.DayNumber _ behind.End _ _ (λ w. refl) (λ first.
    led_in int_of argument.DayNumber [] behind.End _ _ (λ w. refl) (λ last words. ended _ words))

convert_passes : (words : List (List ℕ)) → is_some (convert_of words) ≡ passes (Some (place_of (argument.Calendar ∷ argument.Calendar ∷ argument.Overflow ∷ []) behind.End)) words
unfolding convert_read
convert_passes =
    led_in kind_named argument.Calendar _ behind.End _ _ (λ w. refl) (λ calendar.
    led_in kind_named argument.Calendar _ behind.End _ _ (λ w. refl) (λ shown.
    led_in overflow_named argument.Overflow [] behind.End _ _ (λ w. refl) (λ overflow words. ended _ words)))

generate_passes : (words : List (List ℕ)) → is_some (generate_of words) ≡ passes (Some (place_of (argument.Count ∷ []) behind.End)) words
generate_passes = led count_of argument.Count [] behind.End _ (λ w. refl) (λ count words. ended (Generate count) words)

recur_asked_passes : (words : List (List ℕ))
    → is_some (recur_of words) ≡ passes (Some (place_of (argument.Calendar ∷ argument.Calendar ∷ argument.Unit ∷ argument.Every ∷ argument.Missing ∷ argument.DayNumber ∷ argument.DayNumber ∷ []) behind.Fields)) words
unfolding recur_of recur_header_read
recur_asked_passes =
    led_in kind_named argument.Calendar _ behind.Fields _ _ (λ w. refl) (λ calendar.
    led_in kind_named argument.Calendar _ behind.Fields _ _ (λ w. refl) (λ shown.
    led_in unit_named argument.Unit _ behind.Fields _ _ (λ w. refl) (λ unit.
    led_in every_of argument.Every _ behind.Fields _ _ (λ w. refl) (λ every.
    led_in missing_named argument.Missing _ behind.Fields _ _ (λ w. refl) (λ missing.
    led_in int_of argument.DayNumber _ behind.Fields _ _ (λ w. refl) (λ first.
    led_in int_of argument.DayNumber [] behind.Fields _ _ (λ w. refl) (λ last words. mapped _ (fields_of (Some no_fields) words) ∙ fields_pass words no_fields)))))))

rrule_asked_passes : (words : List (List ℕ))
    → is_some (rrule_of words) ≡ passes (Some (place_of (argument.Calendar ∷ argument.Calendar ∷ argument.DayNumber ∷ argument.DayNumber ∷ []) behind.StartAndRule)) words
unfolding rrule_of rrule_header_read
rrule_asked_passes =
    led_in kind_named argument.Calendar _ behind.StartAndRule _ _ (λ w. refl) (λ calendar.
    led_in kind_named argument.Calendar _ behind.StartAndRule _ _ (λ w. refl) (λ shown.
    led_in int_of argument.DayNumber _ behind.StartAndRule _ _ (λ w. refl) (λ first.
    led_in int_of argument.DayNumber [] behind.StartAndRule _ _ (λ w. refl) (λ last words. mapped _ (start_and_rule words) ∙ start_passes words))))

explain_passes : (words : List (List ℕ)) → is_some (explain_of words) ≡ passes (Some AtHolidays) words
explain_passes [] = refl
explain_passes (word ∷ words) = by (is_text word (codes "holidays"))
  where
    by : (t : Bool) → is_some (cond t (at_end ExplainHolidays words) None) ≡ passes (cond t (Some AtEnd) None) words
    by true = ended ExplainHolidays words
    by false = refl

-- one name, or another
is_or : (t : Bool) (here there : Option Asked) (form other : Option (List Argument × Behind)) (words : List (List ℕ))
    → is_some here ≡ passes (option_map form_place form) words → is_some there ≡ passes (option_map form_place other) words
    → is_some (cond t here there) ≡ passes (option_map form_place (cond t form other)) words
is_or true here there form other words first otherwise = first
is_or false here there form other words first otherwise = otherwise

-- words name a command where they lead to an end
names : (words : List (List ℕ)) → is_some (command_of words) ≡ passes (Some First) words
names [] = refl
names (name ∷ words) =
    is_or (is_text name (codes "span")) (at_end Span words) _ (Some ([], behind.End)) _ words (ended Span words)
    (is_or (is_text name (codes "gen")) (generate_of words) _ (Some (_, behind.End)) _ words (generate_passes words)
    (is_or (is_text name (codes "anniversary")) (anniversary_of words) _ (Some (_, behind.End)) _ words (anniversary_passes words)
    (is_or (is_text name (codes "recur")) (option_map Recur (recur_of words)) _ (Some (_, behind.Fields)) _ words (mapped Recur (recur_of words) ∙ recur_asked_passes words)
    (is_or (is_text name (codes "rrule")) (option_map Rrule (rrule_of words)) _ (Some (_, behind.StartAndRule)) _ words (mapped Rrule (rrule_of words) ∙ rrule_asked_passes words)
    (is_or (is_text name (codes "holidays")) (holidays_of words) _ (Some (_, behind.End)) _ words (holidays_pass words)
    (is_or (is_text name (codes "convert")) (convert_of words) _ (Some (_, behind.End)) _ words (convert_passes words)
    (is_or (is_text name (codes "explain")) (explain_of words) None (Some ([], behind.Holidays)) None words (explain_passes words) refl)))))))

pub command_passes : (words : List (List ℕ)) → NameCommand words → passes (Some First) words ≡ true
command_passes words (asked, e) = sym (names words) ∙ ap is_some e

pub passing_names : (words : List (List ℕ)) → passes (Some First) words ≡ true → NameCommand words
passing_names words e = by (command_of words) refl (names words ∙ e)
  where
    by : (o : Option Asked) → command_of words ≡ o → is_some o ≡ true → NameCommand words
    by None q e = absurd (false≢true e)
    by (Some asked) q e = (asked, q)
