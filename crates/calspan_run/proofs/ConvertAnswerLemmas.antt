-- The answers to the lines of `convert`, as they are pushed.
use Rattle.std.proofs.Common.{◌≡◌, ℕ, ℤ, ◌-◌, ◌==◌, Bool, true, false, cond, nat_lt, List, [], ◌∷◌, ◌++◌, length, take, drop, codes, Option, Result, Ok, Err, true≢false, refl, arith, ◌∙◌, sym, ap, subst}
use Rattle.std.proofs.lemmas.Bool.{eqb-true}
use Rattle.std.proofs.lemmas.List.{append_assoc, length-take, take_all, take_rest}
use borrow.Author.Tests.{ltb-false}
use Rattle.std.specs.Result.{IsErr}
use Rattle.byte_io.specs.declared.Failed.{Failed}
use Rattle.cal_errors.specs.declared.errors.DateFromFieldsError.{DateFromFieldsError}
use Rattle.cal_tables.specs.Kinds.{TableContents}
use Rattle.cal_types.specs.CalendarList.{Date, IsLawful, IsOn}
use Rattle.cal_types.specs.CalendarSystem.{CalendarSystem}
use Rattle.cal_types.specs.DayDates.{date_on}
use Rattle.cal_types.proofs.DayDateLemmas.{date_on-on}
use Rattle.cal_types.proofs.ListLemmas.{on-unique}
use Rattle.command_line.specs.ConvertAsked.{ConvertAsked}
use Rattle.calspan_run.specs.Converted.{Answer, date_answer, day_answer, line_answer, shown_date, tab_place, text_answer}
use Rattle.calspan_run.specs.Converting.{AnsweredLine, IsPushed}
use Rattle.calspan_run.specs.TextSoFar.{TextSoFar}
use Rattle.calspan_run.specs.Written.{WrotePrefix}
use Rattle.calspan_run.proofs.WriterLemmas.{short_more, text_more}

-- the date of a day was pushed
pub shown_pushed : (s : CalendarSystem) → IsLawful s.list → (day : Result ℤ DateFromFieldsError) (n : ℤ) (t : Date) (old new : List ℕ) → day ≡ Ok n → IsOn s.list n t → new ≡ old ++ shown_date s t → IsPushed false old new (day_answer s day)
shown_pushed s law day n t old new is on e =
    let same = on-unique s.list n t (date_on s.list n) on (date_on-on s.list law n) in
    subst (λ (d : Result ℤ DateFromFieldsError). IsPushed false old new (day_answer s d)) (sym is) (record { bad = refl; text = e ∙ ap (λ (x : Date). old ++ shown_date s x) same })

-- where a write failed, a prefix is written
pub answered_err : (r : Result Bool Failed) (before now : Option (List ℕ)) (pending text : List ℕ) (answer : Answer) → IsErr r → WrotePrefix before now (text ++ answer.0) → AnsweredLine r before now pending text answer
answered_err (Ok x) before now pending text answer failed h = absurd (true≢false (sym failed))
answered_err (Err e) before now pending text answer failed h = h

-- an answer that is another's
pub answered_as : (before now : Option (List ℕ)) (pending text : List ℕ) (bad : Bool) (x y : Answer) → y ≡ x → bad ≡ x.1 → TextSoFar before now pending (text ++ x.0) → (bad ≡ y.1) × TextSoFar before now pending (text ++ y.0)
answered_as before now pending text bad x y e is so_far = subst (λ (z : Answer). (bad ≡ z.1) × TextSoFar before now pending (text ++ z.0)) (sym e) (is, so_far)

pub empty_of : (whole text : List ℕ) → text ≡ take 65536 whole → (length text == 0) ≡ true → whole ≡ []
empty_of [] text is none = refl
empty_of (b ∷ line) text is none =
    let zero : length text ≡ 0 = eqb-true _ _ none in
    absurd (omega (arith, zero, ap length is, length-take 65536 (b ∷ line)))

-- a line that isn't long is all that the buffer holds
pub whole_of : (whole text : List ℕ) → text ≡ take 65536 whole → nat_lt 65536 (length whole) ≡ false → text ≡ whole
whole_of whole text is short = is ∙ take_all 65536 whole (ltb-false 65536 (length whole) short)

module _ (a : ConvertAsked) (tables : TableContents) where
  pub empty_answer : (whole text : List ℕ) → text ≡ take 65536 whole → (length text == 0) ≡ true → line_answer a tables whole ≡ (10 ∷ [], false)
  empty_answer whole text is none = ap (line_answer a tables) (empty_of whole text is none)

  pub long_answer : (whole : List ℕ) → nat_lt 65536 (length whole) ≡ true → line_answer a tables whole ≡ (codes "!long" ++ 10 ∷ [], true)
  long_answer [] long = cc
  long_answer (b ∷ line) long = ap (λ t. cond t (codes "!long" ++ 10 ∷ [], true) (text_answer a tables (b ∷ line))) long

  of_some : (whole : List ℕ) → nat_lt 65536 (length whole) ≡ false → (length whole == 0) ≡ false → line_answer a tables whole ≡ text_answer a tables whole
  of_some [] short some = cc
  of_some (b ∷ line) short some = ap (λ t. cond t (codes "!long" ++ 10 ∷ [], true) (text_answer a tables (b ∷ line))) short

  pub short_answer : (whole text : List ℕ) → text ≡ take 65536 whole → nat_lt 65536 (length whole) ≡ false → (length text == 0) ≡ false → line_answer a tables whole ≡ text_answer a tables text
  short_answer whole text is short some =
      let same = whole_of whole text is short in
      of_some whole short (ap (λ (t : List ℕ). length t == 0) (sym same) ∙ some) ∙ ap (text_answer a tables) (sym same)

  -- the answer to the date of a line, its rest, and its LF
  module _ (text : List ℕ) (at : ℕ) (is : at ≡ tab_place text) (bad : Bool) (old mid : List ℕ) (p : IsPushed bad old mid (date_answer a tables (take at text))) (before taken : Option (List ℕ)) (so_far : List ℕ)
      (h : TextSoFar before taken old so_far) where
    abbrev pub date : Answer
    date = date_answer a tables (take (tab_place text) text)

    pushed : IsPushed bad old mid date
    pushed = subst (λ (n : ℕ). IsPushed bad old mid (date_answer a tables (take n text))) is p

    pub dated : TextSoFar before taken mid (so_far ++ date.0)
    dated = text_more before taken old date.0 mid so_far h pushed.text

    rest : take (length text - at) (drop at text) ≡ drop (tab_place text) text
    rest = take_rest text at ∙ ap (λ (n : ℕ). drop n text) is

    all : ((so_far ++ date.0) ++ take (length text - at) (drop at text)) ++ 10 ∷ [] ≡ so_far ++ (text_answer a tables text).0
    all =
        ap (λ (r : List ℕ). ((so_far ++ date.0) ++ r) ++ 10 ∷ []) rest
        ∙ (ap (λ (t : List ℕ). t ++ 10 ∷ []) (append_assoc so_far date.0 (drop (tab_place text) text))
        ∙ append_assoc so_far (date.0 ++ drop (tab_place text) text) (10 ∷ []))

    pub rest_short : (now : Option (List ℕ)) → WrotePrefix before now ((so_far ++ date.0) ++ take (length text - at) (drop at text)) → WrotePrefix before now (so_far ++ (text_answer a tables text).0)
    rest_short now short =
        subst (λ (t : List ℕ). WrotePrefix before now t) all (short_more before now ((so_far ++ date.0) ++ take (length text - at) (drop at text)) (10 ∷ []) short)

    pub end_short : (now : Option (List ℕ)) → WrotePrefix before now (((so_far ++ date.0) ++ take (length text - at) (drop at text)) ++ 10 ∷ []) → WrotePrefix before now (so_far ++ (text_answer a tables text).0)
    end_short now short = subst (λ (t : List ℕ). WrotePrefix before now t) all short

    pub answered : (now : Option (List ℕ)) (new : List ℕ) → TextSoFar before now new (((so_far ++ date.0) ++ take (length text - at) (drop at text)) ++ 10 ∷ []) → (bad ≡ (text_answer a tables text).1) × TextSoFar before now new (so_far ++ (text_answer a tables text).0)
    answered now new whole = (pushed.bad, subst (λ (t : List ℕ). TextSoFar before now new t) all whole)
