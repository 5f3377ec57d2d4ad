use Rattle.std.proofs.Common.{◌≡◌, ◌∙◌, ℕ, length, List, [], ◌++◌, Bool, true, false, refl, ap, subst}
use Rattle.cal_tables.specs.Kinds.{table_contents}
use Rattle.request_lines.specs.Lines.{line_of}
use Rattle.calspan_run.specs.Answers.{Answering, IsAnswerTo}
use Rattle.calspan_run.specs.Progress.{standing_of}
use Rattle.calspan_run.specs.Status.{code_of}
use Rattle.date_calls.specs.Rooms.{IsPut}
use Rattle.icu_calendar_wasm.proofs.line.answer_over.Goals as goal

-- what was pending is the answer
held : (before now text : List ℕ) → before ≡ [] → now ≡ before ++ text → now ≡ text
held before now text none added = added ∙ ap (λ (b : List ℕ). b ++ text) none

-- and what is put is the answer
put-as : (b : Bool) (made text before now : List ℕ) → made ≡ text → (fits : Bool) → b ≡ fits → IsPut b made before now → IsPut fits text before now
put-as b made text before now same fits is h =
    subst (λ (f : Bool). IsPut f text before now) is (subst (λ (t : List ℕ). IsPut b t before now) same h)

pub returns-then-put : goal.returns-then-put
returns-then-put c =
    let (text, added, answer) = c.answer-answered.ensures c.args.line.now (c.extend.ensures [] c.new-buffer.ensures) in
    let all = c.deref.ensures.0 ∙ held _ _ text c.new-pending.ensures added in
    record {
      text = text;
      answered = c.answer-answered.result;
      answer = subst (λ (b : Bool). IsAnswerTo (line_of c.args.line.now) (table_contents c.args.tables.now) c.args.number (Answering b) text (standing_of c.answer-answered.result)) c.new.ensures answer;
      fits = true;
      put = put-as c.put.result _ text _ _ all true c.if-put.true c.put.ensures.put;
      ends = c.code.ensures ∙ ap code_of c.status.ensures;
      count = c.put.ensures.count ∙ ap length all;
    }

pub returns-else-put : goal.returns-else-put
returns-else-put c =
    let (text, added, answer) = c.answer-answered.ensures c.args.line.now (c.extend.ensures [] c.new-buffer.ensures) in
    let all = c.deref.ensures.0 ∙ held _ _ text c.new-pending.ensures added in
    record {
      text = text;
      answered = c.answer-answered.result;
      answer = subst (λ (b : Bool). IsAnswerTo (line_of c.args.line.now) (table_contents c.args.tables.now) c.args.number (Answering b) text (standing_of c.answer-answered.result)) c.new.ensures answer;
      fits = false;
      put = put-as c.put.result _ text _ _ all false c.if-put.false c.put.ensures.put;
      ends = refl;
      count = c.put.ensures.count ∙ ap length all;
    }
