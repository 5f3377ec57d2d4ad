-- The lines of days, and windows.
use Rattle.std.proofs.Common.{◌≡◌, ℕ, ℤ, List, [], ◌∷◌, ◌++◌, ap, ◌∙◌}
use Rattle.std.proofs.lemmas.List.{append_assoc}
use Rattle.cal_types.specs.CalendarList.{Date, IsLawful, IsOn}
use Rattle.cal_types.specs.CalendarSystem.{CalendarSystem}
use Rattle.cal_types.specs.DayDates.{date_on}
use Rattle.cal_types.proofs.DayDateLemmas.{date_on-on}
use Rattle.cal_types.proofs.ListLemmas.{on-unique}
use Rattle.reply_texts.specs.DateTexts.{day_text}
use Rattle.calspan_run.specs.DayLines.{day_line}

-- the two dates of a day are those of its line
pub day_line_of : (s shown : CalendarSystem) → IsLawful s.list → IsLawful shown.list → (n : ℤ) (t u : Date) → IsOn s.list n t → IsOn shown.list n u → day_text s shown t u ++ 10 ∷ [] ≡ day_line s shown n
day_line_of s shown law other n t u on on2 =
    let first = on-unique s.list n t (date_on s.list n) on (date_on-on s.list law n) in
    let second = on-unique shown.list n u (date_on shown.list n) on2 (date_on-on shown.list other n) in
    ap (λ (x : Date). day_text s shown x u ++ 10 ∷ []) first ∙ ap (λ (y : Date). day_text s shown (date_on s.list n) y ++ 10 ∷ []) second

-- the line of a day was pushed
pub pushed_line : (s shown : CalendarSystem) → IsLawful s.list → IsLawful shown.list → (n : ℤ) (t u : Date) (old mid new : List ℕ) → IsOn s.list n t → IsOn shown.list n u → mid ≡ old ++ day_text s shown t u → new ≡ mid ++ 10 ∷ [] → new ≡ old ++ day_line s shown n
pushed_line s shown law other n t u old mid new on on2 e f =
    f ∙ (ap (λ x. x ++ 10 ∷ []) e ∙ (append_assoc old (day_text s shown t u) (10 ∷ []) ∙ ap (λ x. old ++ x) (day_line_of s shown law other n t u on on2)))
