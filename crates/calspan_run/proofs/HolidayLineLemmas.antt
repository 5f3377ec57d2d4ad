-- The line of a holiday as it is pushed.
use Rattle.std.proofs.Common.{◌≡◌, ℕ, ℤ, pos, List, [], ◌∷◌, ◌++◌, Err, codes, ap, ◌∙◌}
use Rattle.std.specs.Fmt.{decimal}
use Rattle.std.proofs.lemmas.List.{append_assoc}
use Rattle.cal_base.specs.IsoSystem.{iso_list, iso_system}
use Rattle.cal_base.specs.laws.OffsetListLaws.{offset_list-lawful}
use Rattle.cal_holidays.specs.Rules.{NamedRule}
use Rattle.cal_types.specs.CalendarList.{Date, IsOn}
use Rattle.cal_types.specs.DayDates.{date_on}
use Rattle.cal_types.proofs.DayDateLemmas.{date_on-on}
use Rattle.cal_types.proofs.ListLemmas.{on-unique}
use Rattle.reply_texts.specs.DateTexts.{date_text}
use Rattle.calspan_run.specs.DayLines.{list_text}
use Rattle.calspan_run.specs.HolidayLines.{holiday_line, name_of, record_fault}

-- the line of a day and a rule was pushed, piece by piece
pub pushed_holiday : (rules : List NamedRule) (n : ℤ) (r : ℕ) (t : Date) (old a b c new : List ℕ) → IsOn iso_list n t → a ≡ old ++ date_text iso_system t → b ≡ a ++ 32 ∷ [] → c ≡ b ++ name_of rules r → new ≡ c ++ 10 ∷ []
    → new ≡ old ++ holiday_line rules (n, r)
pushed_holiday rules n r t old a b c new on e f g h =
    let day = on-unique iso_list n t (date_on iso_list n) on (date_on-on iso_list (offset_list-lawful (pos 0)) n) in
    let text = date_text iso_system t in
    let name = name_of rules r in
    let line : c ≡ old ++ (text ++ (32 ∷ name)) =
    g ∙ (ap (λ x. x ++ name) (f ∙ ap (λ x. x ++ 32 ∷ []) e) ∙ (append_assoc (old ++ text) (32 ∷ []) name ∙ append_assoc old text (32 ∷ name))) in
    h
    ∙ (ap (λ x. x ++ 10 ∷ []) line
    ∙ (append_assoc old (text ++ (32 ∷ name)) (10 ∷ [])
    ∙ ap (λ (d : Date). old ++ ((date_text iso_system d ++ (32 ∷ name)) ++ 10 ∷ [])) day))

-- the line that refuses a record was pushed, piece by piece
pub pushed_fault : (number field wide : ℕ) (a b c d e f : List ℕ) → a ≡ [] → b ≡ a ++ codes "err record " → c ≡ b ++ decimal number → d ≡ c ++ codes " field " → e ≡ d ++ decimal wide → wide ≡ field → f ≡ e ++ 10 ∷ []
    → f ≡ list_text (Err (record_fault number field))
pushed_fault number field wide a b c d e f none record_word number_text field_word field_text same end =
    let first : b ≡ codes "err record " = record_word ∙ ap (λ x. x ++ codes "err record ") none in
    let second : c ≡ codes "err record " ++ decimal number = number_text ∙ ap (λ x. x ++ decimal number) first in
    let third : d ≡ codes "err record " ++ decimal number ++ codes " field " = field_word ∙ ap (λ x. x ++ codes " field ") second in
    let fourth : e ≡ codes "err record " ++ ((decimal number ++ codes " field ") ++ decimal field) =
    field_text ∙ (ap (λ x. x ++ decimal wide) third ∙ ap (λ (n : ℕ). codes "err record " ++ ((decimal number ++ codes " field ") ++ decimal n)) same) in
    end ∙ ap (λ x. x ++ 10 ∷ []) fourth
