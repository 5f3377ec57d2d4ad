use Rattle.std.proofs.Common.{◌≡◌, ℕ, List, ◌++◌, sym, ap, ◌∙◌, append_assoc, arith, codes}
use Rattle.std.proofs.lemmas.Grind.{common_steps}
use Rattle.std.specs.Fmt.{decimal}
use Rattle.cal_errors.specs.declared.errors.DateFromFieldsError.{DateFromFieldsError}
use Rattle.cal_errors.specs.declared.errors.DateFromFieldsError.TheVariants as cause
use Rattle.reply_texts.specs.DateTexts.{cause_text}
use Rattle.reply_texts.proofs.date_texts.push_cause.Goals as goal

-- what was pushed is the text of the cause
said : (old all : List ℕ) (cause named : DateFromFieldsError) → all ≡ old ++ cause_text named → cause ≡ named → all ≡ old ++ cause_text cause
said old all cause named pushed is = pushed ∙ ap (λ e. old ++ cause_text e) (sym is)

-- a word, and a number behind it
numbered : (old word a all : List ℕ) (read max : ℕ) → a ≡ old ++ word → all ≡ a ++ decimal read → read ≡ max → all ≡ old ++ (word ++ decimal max)
numbered old word a all read max first second same =
    second ∙ (ap (λ t. t ++ decimal read) first ∙ (append_assoc old word (decimal read) ∙ ap (λ n. old ++ (word ++ decimal n)) same))

pub returns-in-NotEnoughFields-clause-items : goal.returns-in-NotEnoughFields-clause-items
returns-in-NotEnoughFields-clause-items c = said c.args.text.now.items _ _ cause.NotEnoughFields c.push_all.ensures c.in-NotEnoughFields.is

pub returns-in-TooManyFields-clause-items : goal.returns-in-TooManyFields-clause-items
returns-in-TooManyFields-clause-items c = said c.args.text.now.items _ _ cause.TooManyFields c.push_all-in-TooManyFields.ensures c.in-TooManyFields.is

pub returns-in-Overflow-clause-items : goal.returns-in-Overflow-clause-items
returns-in-Overflow-clause-items c = said c.args.text.now.items _ _ cause.Overflow c.push_all-in-Overflow.ensures c.in-Overflow.is

pub returns-in-InvalidEra-clause-items : goal.returns-in-InvalidEra-clause-items
returns-in-InvalidEra-clause-items c = said c.args.text.now.items _ _ cause.InvalidEra c.push_all-in-InvalidEra.ensures c.in-InvalidEra.is

pub returns-in-InconsistentYear-clause-items : goal.returns-in-InconsistentYear-clause-items
returns-in-InconsistentYear-clause-items c = said c.args.text.now.items _ _ cause.InconsistentYear c.push_all-in-InconsistentYear.ensures c.in-InconsistentYear.is

pub returns-in-MonthCodeInvalidSyntax-clause-items : goal.returns-in-MonthCodeInvalidSyntax-clause-items
returns-in-MonthCodeInvalidSyntax-clause-items c = said c.args.text.now.items _ _ cause.MonthCodeInvalidSyntax c.push_all-in-MonthCodeInvalidSyntax.ensures c.in-MonthCodeInvalidSyntax.is

pub returns-in-MonthNotInCalendar-clause-items : goal.returns-in-MonthNotInCalendar-clause-items
returns-in-MonthNotInCalendar-clause-items c = said c.args.text.now.items _ _ cause.MonthNotInCalendar c.push_all-in-MonthNotInCalendar.ensures c.in-MonthNotInCalendar.is

pub returns-in-MonthNotInYear-clause-items : goal.returns-in-MonthNotInYear-clause-items
returns-in-MonthNotInYear-clause-items c = said c.args.text.now.items _ _ cause.MonthNotInYear c.push_all-in-MonthNotInYear.ensures c.in-MonthNotInYear.is

pub returns-in-InconsistentMonth-clause-items : goal.returns-in-InconsistentMonth-clause-items
returns-in-InconsistentMonth-clause-items c = said c.args.text.now.items _ _ cause.InconsistentMonth c.push_all-in-InconsistentMonth.ensures c.in-InconsistentMonth.is

pub returns-in-InvalidOrdinalMonth-clause-items : goal.returns-in-InvalidOrdinalMonth-clause-items
returns-in-InvalidOrdinalMonth-clause-items c =
    let old = c.args.text.now.items in
    said old _ _ (cause.InvalidOrdinalMonth c.in-InvalidOrdinalMonth.max)
    (numbered old (codes "InvalidOrdinalMonth ") _ _ _ _ c.push_all-in-InvalidOrdinalMonth.ensures c.push_number.ensures.items c.from.ensures)
    c.in-InvalidOrdinalMonth.is

pub returns-in-InvalidDay-clause-items : goal.returns-in-InvalidDay-clause-items
returns-in-InvalidDay-clause-items c =
    let old = c.args.text.now.items in
    said old _ _ (cause.InvalidDay c.in-InvalidDay.max)
    (numbered old (codes "InvalidDay ") _ _ _ _ c.push_all-in-InvalidDay.ensures c.push_number-in-InvalidDay.ensures.items c.from-in-InvalidDay.ensures)
    c.in-InvalidDay.is

pub returns-in-InvalidOrdinalMonth-clause-len : goal.returns-in-InvalidOrdinalMonth-clause-len
returns-in-InvalidOrdinalMonth-clause-len c = grind (arith, common_steps)

pub returns-in-InvalidDay-clause-len : goal.returns-in-InvalidDay-clause-len
returns-in-InvalidDay-clause-len c = grind (arith, common_steps)
