use Rattle.std.proofs.Common.{◌≡◌, ℕ, List, [], ◌∷◌, ◌++◌, ◌∙◌, append_assoc, arith, to_z, of_z, to_z-of_z, FitsSigned, rules, w32, w64}
use Rattle.std.proofs.lemmas.Grind.{common_steps}
use Rattle.std.specs.Fmt.{signed_decimal}
use Rattle.cal_days.proofs.Signed.{signed}
use Rattle.cal_types.specs.CalendarList.{day_number}
use Rattle.cal_types.specs.Month.{code_text}
use Rattle.reply_texts.specs.DateTexts.{year_text}
use Rattle.reply_texts.specs.Texts.{two_digits}
use Rattle.reply_texts.proofs.date_texts.push_date.Goals as goal

-- the parts of a date, one after another
pushed : (old year printed month day number a b d e f g h k all : List ℕ) → a ≡ old ++ year → b ≡ a ++ 47 ∷ [] → d ≡ b ++ printed → e ≡ d ++ 47 ∷ []
    → f ≡ e ++ month → g ≡ f ++ 47 ∷ [] → h ≡ g ++ day → k ≡ h ++ 64 ∷ [] → all ≡ k ++ number
    → all ≡ old ++ (year ++ 47 ∷ printed ++ 47 ∷ month ++ 47 ∷ day ++ 64 ∷ number)
pushed old year printed month day number a b d e f g h k all e1 e2 e3 e4 e5 e6 e7 e8 e9 =
    rw (e9, e8, e7, e6, e5, e4, e3, e2, e1) (simp append_assoc)

pub returns-clause-items : goal.returns-clause-items
returns-clause-items c s t h =
    let old = c.args.text.now.items in
    let extended : c.extended_year.result ≡ t.year = c.extended_year.ensures ∙ h.extended_year in
    let small : FitsSigned w32 c.extended_year.result = search rules in
    let year : to_z w32 (of_z w32 c.extended_year.result) ≡ t.year = to_z-of_z small ∙ extended in
    let number : to_z w64 (of_z w64 c.to_i64_date.result) ≡ day_number s.list t = omega (arith, signed, c.to_i64_date.ensures.value, h.rata_die) in
    pushed old _ _ _ _ _ _ _ _ _ _ _ _ _ _ c.push_year_number.ensures.items c.push.ensures.items c.push_year.ensures.items c.push-2.ensures.items
    c.push_month.ensures.items c.push-3.ensures.items c.push_two_digits.ensures c.push-4.ensures.items c.push_day_number.ensures.items
    ∙ λ i. old ++ (signed_decimal (year i) ++ 47 ∷ year_text (h.year i) ++ 47 ∷ code_text (h.month i) ++ 47 ∷ two_digits (h.day i) ++ 64 ∷ signed_decimal (number i))

pub returns-clause-len : goal.returns-clause-len
returns-clause-len c = grind (arith, common_steps)

pub push-requires-4 : goal.push-requires-4
push-requires-4 c = grind (arith, common_steps)

pub push_day_number-requires : goal.push_day_number-requires
push_day_number-requires c = grind (arith, common_steps)
