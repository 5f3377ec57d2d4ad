-- A bag that is read a word further on.
use Rattle.std.proofs.Common.{◌≡◌, ℕ, ℤ, Bool, true, false, cond, is_none, is_some, List, [], ◌∷◌, Option, Some, None, codes, refl, ◌∙◌, sym, ap}
use Rattle.std.specs.Option.{option_map, option_and_then}
use Rattle.cal_types.specs.Bag.{Bag}
use Rattle.cal_types.specs.Month.{MonthParts}
use Rattle.request_lines.specs.Words.{is_text}
use Rattle.request_lines.specs.Reading.{Read, next_word}
use Rattle.request_lines.specs.Bags.{Field, ExtendedYear, Month, Day, field_read, with_field, with_word, bag_before_to, bag_of_all}
use Rattle.request_lines.specs.Taking.{after_word}
use Rattle.cal_types.specs.MonthParts.{month_parts}
use Rattle.request_lines.specs.PlainDates.{GoesOn, HasNoMonth, SaysMonth}
use Rattle.request_lines.specs.declared.plain_words.PlainMonth.{PlainMonth}
use Rattle.request_lines.proofs.BagLemmas.{same_text, some_pair}
use Rattle.request_lines.proofs.KeyLemmas.{with_words, bag_goes_on, all_go_on}

-- a word that says a field isn't `to`
field-no_to : (words left : List (List ℕ)) (f : Field) → next_word field_read words ≡ Some (f, left) → after_word (codes "to") words ≡ None
field-no_to [] left f e = refl
field-no_to (word ∷ words) left f e = by (is_text word (codes "to")) refl
  where
    by : (t : Bool) → is_text word (codes "to") ≡ t → cond t (Some words) None ≡ None
    by true q =
        let none : ◌≡◌ {A = Read Field} None (Some (f, left)) =
        ap (λ w. with_words words (field_read w)) (sym (same_text word (codes "to") q)) ∙ e in
        cc
    by false q = refl

-- the field of the next word is set
sets_field : (bag larger : Bag) (words left : List (List ℕ)) (f : Field) → next_word field_read words ≡ Some (f, left)
    → with_field bag f ≡ Some larger → next_word (with_word bag) words ≡ Some (larger, left)
sets_field bag larger [] left f e set = cc
sets_field bag larger (word ∷ words) left f e set = by (field_read word) e
  where
    by : (o : Option Field) → with_words words o ≡ Some (f, left)
        → with_words words (option_and_then (with_field bag) o) ≡ Some (larger, left)
    by None e = cc
    by (Some g) e =
        let same = some_pair g f words left e in
        ap (λ h. with_words words (with_field bag h)) same.0
        ∙ (ap (with_words words) set ∙ ap (λ (w : List (List ℕ)). Some (larger, w)) same.1)

-- one word further
goes_on : (bag larger : Bag) (words left : List (List ℕ)) (f : Field) → next_word field_read words ≡ Some (f, left)
    → with_field bag f ≡ Some larger → GoesOn bag words larger left
goes_on bag larger words left f e set =
    let sets = sets_field bag larger words left f e set in
    record {
      before_to = bag_goes_on bag larger words left (field-no_to words left f e) sets;
      of_all = all_go_on bag larger words left sets;
    }

-- no word further
pub goes_nowhere : (bag : Bag) (words left : List (List ℕ)) → left ≡ words → GoesOn bag words bag left
goes_nowhere bag words left same = record {
  before_to = ap (bag_before_to (Some bag)) (sym same);
  of_all = ap (bag_of_all (Some bag)) (sym same);
}

-- some words further, and then some more
pub and_goes_on : (a b c : Bag) (u v w : List (List ℕ)) → GoesOn a u b v → GoesOn b v c w → GoesOn a u c w
and_goes_on a b c u v w g h = record { before_to = g.before_to ∙ h.before_to; of_all = g.of_all ∙ h.of_all }

-- a field that isn't set
pub not_set : {T U : Type 0} (read : T → U) (o : Option T) → is_some o ≡ false → is_none (option_map read o) ≡ true
not_set read None e = refl
not_set read (Some x) e = cc

pub not_set-plain : {T : Type 0} (o : Option T) → is_some o ≡ false → is_none o ≡ true
not_set-plain None e = refl
not_set-plain (Some x) e = cc

-- the year, the month or the day of the next word is set where none was
pub year_goes_on : (bag : Bag) (words left : List (List ℕ)) (y : ℤ) → is_none bag.extended_year ≡ true
    → next_word field_read words ≡ Some (ExtendedYear y, left) → GoesOn bag words (record bag { extended_year = Some y }) left
year_goes_on bag words left y none reads =
    let larger : Bag = record bag { extended_year = Some y } in
    goes_on bag larger words left (ExtendedYear y) reads (ap (λ t. cond t (Some larger) None) none)

pub month_goes_on : (bag : Bag) (words left : List (List ℕ)) (m : MonthParts) → is_none bag.month ≡ true
    → next_word field_read words ≡ Some (Month m, left) → GoesOn bag words (record bag { month = Some m }) left
month_goes_on bag words left m none reads =
    let larger : Bag = record bag { month = Some m } in
    goes_on bag larger words left (Month m) reads (ap (λ t. cond t (Some larger) None) none)

pub day_goes_on : (bag : Bag) (words left : List (List ℕ)) (d : ℕ) → is_none bag.day ≡ true
    → next_word field_read words ≡ Some (Day d, left) → GoesOn bag words (record bag { day = Some d }) left
day_goes_on bag words left d none reads =
    let larger : Bag = record bag { day = Some d } in
    goes_on bag larger words left (Day d) reads (ap (λ t. cond t (Some larger) None) none)

-- the year and the month of the next two words are set where neither was
pub both_go_on : (bag : Bag) (words left : List (List ℕ)) (it : PlainMonth) → HasNoMonth bag → SaysMonth words it left
    → GoesOn bag words (record bag { extended_year = Some it.year; month = Some (month_parts it.month) }) left
both_go_on bag words left it none says =
    let dated : Bag = record bag { extended_year = Some it.year } in
    let named : Bag = record bag { extended_year = Some it.year; month = Some (month_parts it.month) } in
    and_goes_on bag dated named words says.behind_year left
    (year_goes_on bag words says.behind_year it.year none.year says.year)
    (month_goes_on dated says.behind_year left (month_parts it.month) none.month says.month)
