-- The answers to lines: there are some, there is one text only, and they follow one another.
use Rattle.std.proofs.Common.{◌≡◌, ℕ, ◌+◌, Bool, true, false, cond, List, [], ◌∷◌, ◌++◌, inl, inr, length, refl, arith, ◌∙◌, sym, ap, subst, codes}
use Rattle.std.proofs.lemmas.List.{append-nil, append_assoc}
use Rattle.cal_tables.specs.Kinds.{TableContents, kind_system}
use Rattle.cal_tables.proofs.KindLemmas.{kind_lawful}
use Rattle.cal_types.specs.Difference.{largest_unit_of}
use Rattle.cal_types.proofs.SpanLemmas.{span-exists, span-unique}
use Rattle.request_lines.specs.Lines.{Line, Nothing, GivesRow, Requests, RequestLine, Long, Asks, Malformed, line_of}
use Rattle.request_lines.proofs.LineLemmas.{line_says, line_is}
use Rattle.reply_texts.specs.DateTexts.{reply_text, is_refusal}
use Rattle.calspan_run.specs.Answers.{Standing, Answering, Ended, IsRequestAnswer, IsAnswerTo, AnswersLine, AreAnswers, AnswersAll, status_at, span_behind, IsAnswers}
use Rattle.calspan_run.specs.BehindRows.{OverTables, RefusesTables}
use Rattle.calspan_run.specs.Laws.{EveryInputHas, IsUnique, PrefixesHavePrefixes, AreLasting}
use Rattle.calspan_run.specs.Refusals.{refusal, status_of}
use Rattle.calspan_run.specs.Replies.{options_of}
use Rattle.calspan_run.specs.Rules.{span_rules}
use Rattle.table_rows.specs.TableRows.{TableRows, AreAccepted, contents_of}
use Rattle.calspan_run.specs.TableTexts.{row_refusal}
use Rattle.calspan_run.specs.declared.status.Status.{Status}
use Rattle.calspan_run.specs.declared.status.Status.TheVariants.{Done, TableRefused}
use Rattle.table_rows.specs.declared.table.RowFault.TheVariants.{Late}
use Rattle.calspan_run.proofs.KindLimits.{kind_limits}
use Rattle.table_rows.proofs.RowMemoryLemmas.{row_lacks}
use Rattle.calspan_run.proofs.BehindRowsLemmas.{AlwaysWrites, WritesOnce, KeepsEnd, GrowsAtLine, over_exists, over_unique, behind_exists, behind_unique, behind_ends, behind_prefix}

-- there is an answer to each request line
request_exists : (rows : TableRows) → AreAccepted rows → (line : RequestLine) (n : ℕ) → (text : List ℕ) × (refused : Bool) × IsRequestAnswer (contents_of rows) line n text refused
request_exists rows accepted Long n = (refusal n (codes "long"), true, (refl, refl))
request_exists rows accepted (Asks r) n =
    let tables = contents_of rows in
    let c = kind_system tables r.calendar in let shown = kind_system tables r.shown in
    let found = span-exists c shown.list (kind_lawful tables r.calendar) (kind_lawful tables r.shown) (kind_limits rows accepted r.calendar) r.from r.to (options_of r) (largest_unit_of r.unit) in
    (reply_text c shown found.0, is_refusal found.0, record { answer = found.0; span = found.1; says = refl; refuses = refl })
request_exists rows accepted Malformed n = (refusal n (codes "syntax"), true, (refl, refl))

-- and one only
pub request_unique : (tables : TableContents) (line : RequestLine) (n : ℕ) (a b : List ℕ) (p q : Bool) → IsRequestAnswer tables line n a p → IsRequestAnswer tables line n b q → (a ≡ b) × (p ≡ q)
request_unique tables Long n a b p q (x, e) (y, f) = (x ∙ sym y, e ∙ sym f)
request_unique tables (Asks r) n a b p q x y =
    let c = kind_system tables r.calendar in let shown = kind_system tables r.shown in
    let same = span-unique c shown.list r.from r.to (options_of r) (largest_unit_of r.unit) x.answer y.answer x.span y.span in
    (x.says ∙ (ap (reply_text c shown) same ∙ sym y.says), x.refuses ∙ (ap is_refusal same ∙ sym y.refuses))
request_unique tables Malformed n a b p q (x, e) (y, f) = (x ∙ sym y, e ∙ sym f)

-- the answers to some lines, and to those that follow
pub answers_append : (tables : TableContents) (first more : List (List ℕ)) (n : ℕ) (s m e : Standing) (a b : List ℕ) → AreAnswers tables first n s a m → AreAnswers tables more (n + length first) m b e → AreAnswers tables (first ++ more) n s (a ++ b) e
answers_append tables [] more n s m e a b (x, stands) answers =
    let none : n + 0 ≡ n = omega arith in
    let from_s : AreAnswers tables more (n + 0) s b e = subst (λ (t : Standing). AreAnswers tables more (n + 0) t b e) stands answers in
    let at_n : AreAnswers tables more n s b e = subst (λ (k : ℕ). AreAnswers tables more k s b e) none from_s in
    subst (λ (t : List ℕ). AreAnswers tables more n s t e) (ap (λ t. t ++ b) (sym x)) at_n
answers_append tables (line ∷ first) more n s m e a b (added, rest, next, answer, x, answers) others =
    let count : n + length (line ∷ first) ≡ n + 1 + length first = omega arith in
    let behind = answers_append tables first more (n + 1) next m e rest b answers (subst (λ (k : ℕ). AreAnswers tables more k m b e) count others) in
    (added, rest ++ b, next, answer, ap (λ t. t ++ b) x ∙ append_assoc added rest b, behind)

-- there is an answer to each line behind row lines, over accepted rows
line_exists : (line : Line) (rows : TableRows) → AreAccepted rows → (n : ℕ) (s : Standing) → (text : List ℕ) × (next : Standing) × IsAnswerTo line (contents_of rows) n s text next
line_exists Nothing rows accepted n s = ([], s, (refl, refl))
line_exists (GivesRow row) rows accepted n (Answering before) = (row_refusal n Late, Ended, (refl, refl))
line_exists (GivesRow row) rows accepted n Ended = ([], Ended, (refl, refl))
line_exists (Requests line) rows accepted n (Answering before) =
    let (text, refused, answer) = request_exists rows accepted line n in
    (text, Answering (cond refused true before), record { refused = refused; answer = answer; stands = refl })
line_exists (Requests line) rows accepted n Ended = ([], Ended, (refl, refl))

pub lines_exist : (lines : List (List ℕ)) (rows : TableRows) → AreAccepted rows → (n : ℕ) (s : Standing) → (text : List ℕ) × (end : Standing) × AreAnswers (contents_of rows) lines n s text end
lines_exist [] rows accepted n s = ([], s, (refl, refl))
lines_exist (line ∷ more) rows accepted n s =
    let (added, next, answer) = line_exists (line_of line) rows accepted n s in
    let (rest, end, answers) = lines_exist more rows accepted (n + 1) next in
    (added ++ rest, end, (added, rest, next, record { said = line_of line; says = line_says line; answer = answer }, refl, answers))

all_exist : (lines : List (List ℕ)) (n : ℕ) (rows : TableRows) → AreAccepted rows → (text : List ℕ) × (status : Status) × AnswersAll (contents_of rows) lines n text status
all_exist lines n rows accepted =
    let (text, end, answers) = lines_exist lines rows accepted n (Answering false) in
    (text, status_at end, record { end = end; answers = answers; ends = refl })

span_always : AlwaysWrites span_behind
span_always = record {
  at_end = λ rows accepted. ([], Done, (refl, refl));
  at_line = λ rows n request others. over_exists (λ tables t s. AnswersAll tables others n t s) rows (all_exist others n rows);
}

pub span_exists : EveryInputHas IsAnswers
span_exists = behind_exists span_behind span_always

-- and there is no other one
line_unique : (line : Line) (tables : TableContents) (n : ℕ) (s : Standing) (a b : List ℕ) (p q : Standing) → IsAnswerTo line tables n s a p → IsAnswerTo line tables n s b q → (a ≡ b) × (p ≡ q)
line_unique Nothing tables n s a b p q (x, e) (y, f) = (x ∙ sym y, e ∙ sym f)
line_unique (GivesRow row) tables n (Answering before) a b p q (x, e) (y, f) = (x ∙ sym y, e ∙ sym f)
line_unique (GivesRow row) tables n Ended a b p q (x, e) (y, f) = (x ∙ sym y, e ∙ sym f)
line_unique (Requests line) tables n (Answering before) a b p q x y =
    let (text, refused) = request_unique tables line n a b x.refused y.refused x.answer y.answer in
    (text, x.stands ∙ (ap (λ r. Answering (cond r true before)) refused ∙ sym y.stands))
line_unique (Requests line) tables n Ended a b p q (x, e) (y, f) = (x ∙ sym y, e ∙ sym f)

as_read : (tables : TableContents) (line : List ℕ) (n : ℕ) (s : Standing) (text : List ℕ) (next : Standing) → AnswersLine tables line n s text next → IsAnswerTo (line_of line) tables n s text next
as_read tables line n s text next h = subst (λ (l : Line). IsAnswerTo l tables n s text next) (line_is line h.said h.says) h.answer

lines_unique : (lines : List (List ℕ)) (tables : TableContents) (n : ℕ) (s : Standing) (a b : List ℕ) (p q : Standing) → AreAnswers tables lines n s a p → AreAnswers tables lines n s b q → (a ≡ b) × (p ≡ q)
lines_unique [] tables n s a b p q (x, e) (y, f) = (x ∙ sym y, e ∙ sym f)
lines_unique (line ∷ more) tables n s a b p q (added, rest, next, h, x, answers) (added', rest', next', k, y, answers') =
    let (same, stands) = line_unique (line_of line) tables n s added added' next next' (as_read tables line n s added next h) (as_read tables line n s added' next' k) in
    let others : AreAnswers tables more (n + 1) next rest' q = subst (λ (t : Standing). AreAnswers tables more (n + 1) t rest' q) (sym stands) answers' in
    let (same_rest, ends) = lines_unique more tables (n + 1) next rest rest' p q answers others in
    (x ∙ (ap (λ t. t ++ rest) same ∙ (ap (λ t. added' ++ t) same_rest ∙ sym y)), ends)

all_unique : (lines : List (List ℕ)) (n : ℕ) (tables : TableContents) (a b : List ℕ) (s t : Status) → AnswersAll tables lines n a s → AnswersAll tables lines n b t → (a ≡ b) × (s ≡ t)
all_unique lines n tables a b s t h k =
    let (text, ends) = lines_unique lines tables n (Answering false) a b h.end k.end h.answers k.answers in
    (text, h.ends ∙ (ap status_at ends ∙ sym k.ends))

span_once : WritesOnce span_behind
span_once = record {
  at_end = λ tables x y s t (e, d) (f, g). (e ∙ sym f, d ∙ sym g);
  at_line = λ rows n request others x y s t h k. over_unique (λ tables a q. AnswersAll tables others n a q) (all_unique others n) rows x y s t h k;
}

pub span_unique : IsUnique IsAnswers
span_unique = behind_unique span_behind span_once

-- behind a line that ended the run nothing is answered
ended_line : (line : Line) (tables : TableContents) (n : ℕ) → IsAnswerTo line tables n Ended [] Ended
ended_line Nothing tables n = (refl, refl)
ended_line (GivesRow row) tables n = (refl, refl)
ended_line (Requests line) tables n = (refl, refl)

ended_more : (lines : List (List ℕ)) (tables : TableContents) (n : ℕ) → AreAnswers tables lines n Ended [] Ended
ended_more [] tables n = (refl, refl)
ended_more (line ∷ more) tables n =
    ([], [], Ended, record { said = line_of line; says = line_says line; answer = ended_line (line_of line) tables n }, refl, ended_more more tables (n + 1))

pub ended_append : (lines more : List (List ℕ)) (tables : TableContents) (n : ℕ) (s : Standing) (text : List ℕ) → AreAnswers tables lines n s text Ended → AreAnswers tables (lines ++ more) n s text Ended
ended_append [] more tables n s text (x, e) =
    subst (λ (t : List ℕ). AreAnswers tables more n s t Ended) (sym x) (subst (λ (t : Standing). AreAnswers tables more n t [] Ended) e (ended_more more tables n))
ended_append (line ∷ lines) more tables n s text (added, rest, next, h, x, answers) = (added, rest, next, h, x, ended_append lines more tables (n + 1) next rest answers)

ended_with : (end : Standing) (status : Status) → status ≡ status_at end → status ≡ TableRefused → end ≡ Ended
ended_with Ended status e refused = refl
ended_with (Answering bad) status e refused = absurd (differ bad (sym e ∙ refused))
  where
    differ : (c : Bool) → status_of c ≡ TableRefused → ⊥
    differ true e = cc
    differ false e = cc

all_append : (lines more : List (List ℕ)) (tables : TableContents) (n : ℕ) (text : List ℕ) (status : Status) → status ≡ TableRefused → AnswersAll tables lines n text status → AnswersAll tables (lines ++ more) n text status
all_append lines more tables n text status refused h =
    let ended = ended_with h.end status h.ends refused in
    record {
      end = Ended;
      answers = ended_append lines more tables n (Answering false) text (subst (λ (s : Standing). AreAnswers tables lines n (Answering false) text s) ended h.answers);
      ends = refused;
    }

done_goes_on : ◌≡◌ {A = Status} Done TableRefused → ⊥
done_goes_on e = cc

span_keeps_end : KeepsEnd span_behind (λ status. status ≡ TableRefused)
span_keeps_end = record {
  done = done_goes_on;
  at_line = λ rows n request others more text status ends h. by rows n others more text status ends h;
}
  where
    by : (rows : TableRows) (n : ℕ) (others more : List (List ℕ)) (text : List ℕ) (status : Status) → status ≡ TableRefused → OverTables (λ tables t s. AnswersAll tables others n t s) rows text status
        → OverTables (λ tables t s. AnswersAll tables (others ++ more) n t s) rows text status
    by rows n others more text status ends (inl (accepted, all)) = inl (accepted, all_append others more (contents_of rows) n text status ends all)
    by rows n others more text status ends (inr refuses) = inr refuses

pub span_lasts : AreLasting span_rules
span_lasts = record { ends = behind_ends span_behind (λ status. status ≡ TableRefused) span_keeps_end; lacks = row_lacks }

-- where more lines come, their answers come behind those to the first
span_grows : GrowsAtLine span_behind
span_grows = record { at_line = λ rows n request others more text status h. by rows n others more text status h }
  where
    by : (rows : TableRows) (n : ℕ) (others more : List (List ℕ)) (text : List ℕ) (status : Status) → OverTables (λ tables t s. AnswersAll tables others n t s) rows text status
        → (added : List ℕ) × (next : Status) × OverTables (λ tables t s. AnswersAll tables (others ++ more) n t s) rows (text ++ added) next
    by rows n others more text status (inl (accepted, all)) =
        let (added, end, answers) = lines_exist more rows accepted (n + length others) all.end in
        (added, status_at end, inl (accepted, record { end = end; answers = answers_append (contents_of rows) others more n (Answering false) all.end end text added all.answers answers; ends = refl }))
    by rows n others more text status (inr (refuses, e)) = ([], status, inr (subst (RefusesTables rows) (sym (append-nil text)) refuses, e))

pub span_prefix : PrefixesHavePrefixes IsAnswers
span_prefix = behind_prefix span_behind span_once span_grows
