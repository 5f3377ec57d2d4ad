-- Only what may stand at a place leads on from it.
use Rattle.std.proofs.Common.{◌≡◌, ℕ, Bool, true, false, cond, ◌&&◌, List, Option, Some, None, codes, refl, ◌∙◌, sym}
use Rattle.std.proofs.lemmas.Bool.{false≢true}
use Rattle.std.specs.List.{list_all}
use Rattle.std.specs.Option.{is_some, option_and_then}
use Rattle.cal_types.specs.Bag.{Bag}
use Rattle.word_values.specs.Numbers.{int_of}
use Rattle.request_lines.specs.Bags.{Field, field_read, is_word_byte, no_fields, with_field, with_whole_word}
use Rattle.request_lines.specs.Words.{is_text}
use Rattle.command_line.specs.FirstFaults.{may_stand}
use Rattle.command_line.specs.Forms.{form_of, is_argument}
use Rattle.command_line.specs.Places.{First, Before, InFields, AtStart, BehindStart, BehindField, AtHolidays, AtEnd, Place, behind_field, behind_start, form_place, may_end, part_of, place_of, step}
use Rattle.command_line.proofs.AskedLemmas.{mapped}

-- a command line can't end at a place, or can't go on with a word
pub data IsBad (place : Place) : Type 0 where
  Ends : may_end place ≡ false → IsBad place
  GoesOn : (word : List ℕ) → is_some (step place word) ≡ false → IsBad place

-- a field is a word, of a known key
a_field : (bag : Bag) (word : List ℕ) → is_some (with_whole_word bag word) ≡ true → (list_all is_word_byte word && is_some (field_read word)) ≡ true
a_field bag word e = by (list_all is_word_byte word) (field_read word) e
  where
    by : (t : Bool) (o : Option Field) → is_some (cond t (option_and_then (with_field bag) o) None) ≡ true → (t && is_some o) ≡ true
    by true None e = absurd (false≢true e)
    by true (Some f) e = refl
    by false o e = absurd (false≢true e)

an_argument : (t : Bool) (next : Place) → is_some (cond t (Some next) None) ≡ true → t ≡ true
an_argument true next e = refl
an_argument false next e = absurd (false≢true e)

-- behind a start, and behind a field and a word, it is the words before that matter
alike : (o : Option Bag) (day : Bool) (word other : List ℕ) → is_some (behind_start o day word) ≡ is_some (behind_start o day other)
alike None true word other = refl
alike None false word other = refl
alike (Some bag) day word other = refl

pub stands : (place : Place) → IsBad place → (word : List ℕ) → is_some (step place word) ≡ true → may_stand (part_of place) word ≡ true
stands First bad word e = sym (mapped form_place (form_of word)) ∙ e
stands (Before argument arguments rest) bad word e = an_argument (is_argument argument word) (place_of arguments rest) e
stands (InFields bag) bad word e = a_field bag word (sym (mapped InFields (with_whole_word bag word)) ∙ e)
stands AtStart bad word e = refl
stands (BehindStart start) (Ends f) word e = absurd (false≢true (sym f))
stands (BehindStart start) (GoesOn other f) word e =
    absurd (false≢true (sym f ∙ (alike (with_whole_word no_fields start) (is_some (int_of start)) other word ∙ e)))
stands (BehindField bag last) (Ends f) word e = absurd (false≢true (sym f))
stands (BehindField bag last) (GoesOn other f) word e =
    absurd (false≢true (sym f ∙ (mapped (behind_field other) (with_whole_word bag last) ∙ (sym (mapped (behind_field word) (with_whole_word bag last)) ∙ e))))
stands AtHolidays bad word e = an_argument (is_text word (codes "holidays")) AtEnd e
stands AtEnd bad word e = absurd (false≢true e)
