-- Lines about lines, one after another.
use Rattle.std.proofs.Common.{◌≡◌, ℕ, ◌+◌, ◌≤◌, ◌||◌, Bool, true, false, List, [], ◌∷◌, ◌++◌, length, take, Option, inl, inr, refl, arith, ◌∙◌, sym, ap, subst}
use Rattle.std.proofs.lemmas.List.{append-nil, append_assoc, length_push, take_all}
use Rattle.std.specs.Io.KnownBytes.{Consumes, IsAtEnd, Keeps}
use Rattle.std.proofs.KnownBytes.{Consumes-kept, Consumes-nil, Consumes-trans}
use Rattle.byte_io.specs.Faults.{Rose}
use Rattle.byte_io.specs.Buffer.{Holds}
use Rattle.byte_io.specs.Lines.{lines_in, open_line}
use Rattle.byte_io.specs.Reader.{IsAt, GivesLine, GivesAll, GivesTooLong, lines_given}
use Rattle.byte_io.specs.declared.buffer.LineBuffer.{LineBuffer}
use Rattle.byte_io.specs.declared.reader.Reader.{Reader}
use Rattle.byte_io.proofs.PrefixLemmas.{given_in_all}
use Rattle.row_faults.specs.Stages.{after_line, after_lines}
use Rattle.row_faults.specs.declared.stages.Stage.{Stage}
use Rattle.row_faults.specs.declared.stages.Stage.TheVariants.{Rows}
use Rattle.table_rows.specs.Gathering.{with_open_line}
use Rattle.table_rows.proofs.InputLemmas.{consumes_end, lines_in-whole, opened}
use Rattle.calspan_run.specs.Endings.{EndsWith, IsEnd, MayEnd}
use Rattle.calspan_run.specs.Explained.{any_malformed, explained, explained_line}
use Rattle.calspan_run.specs.Explaining.{IsExplaining}
use Rattle.calspan_run.specs.Laws.{AreLasting}
use Rattle.calspan_run.specs.Refusals.{status_of}
use Rattle.calspan_run.specs.Rules.{explain_rules}
use Rattle.calspan_run.specs.Run.{Outside, outside, limit}
use Rattle.calspan_run.specs.Serving.{Serves, StoppedReading, StoppedWriting, TookTooMuch}
use Rattle.calspan_run.specs.TextSoFar.{TextSoFar}
use Rattle.calspan_run.specs.Written.{WrotePrefix}
use Rattle.calspan_run.specs.declared.status.Status.{Status}
use Rattle.calspan_run.specs.declared.status.Status.TheVariants.{WriteFault}
use Rattle.calspan_run.proofs.EndLemmas.{ends_serve}
use Rattle.calspan_run.proofs.UnderwayLemmas.{ends_from}
use Rattle.calspan_run.proofs.WriterLemmas.{short_more, text_all, text_begins}

-- no line ends a run
pub explain_lasts : AreLasting explain_rules
explain_lasts = record {
  ends = λ bytes more whole text status ends says. absurd ends;
  lacks = λ bytes more lacks. absurd lacks;
}

-- lines behind others
pub explained-append : (lines others : List (List ℕ)) (stage : Stage) (n : ℕ)
    → explained stage n (lines ++ others) ≡ explained stage n lines ++ explained (after_lines stage lines) (n + length lines) others
explained-append [] others stage n =
    let count : n ≡ n + length {A = List ℕ} [] = omega arith in
    ap (λ k. explained stage k others) count
explained-append (line ∷ lines) others stage n =
    let after = after_line stage line in
    let count : (n + 1) + length lines ≡ n + length (line ∷ lines) = omega arith in
    ap (λ t. (explained_line stage n line).0 ++ t) (explained-append lines others after (n + 1) ∙ ap (λ k. explained after (n + 1) lines ++ explained (after_lines after lines) k others) count)
    ∙ sym (append_assoc (explained_line stage n line).0 (explained after (n + 1) lines) (explained (after_lines after lines) (n + length (line ∷ lines)) others))

pub malformed-append : (lines others : List (List ℕ)) (before : Bool) (stage : Stage) (n : ℕ)
    → any_malformed before stage n (lines ++ others) ≡ any_malformed (any_malformed before stage n lines) (after_lines stage lines) (n + length lines) others
malformed-append [] others before stage n =
    let count : n ≡ n + length {A = List ℕ} [] = omega arith in
    ap (λ k. any_malformed before stage k others) count
malformed-append (line ∷ lines) others before stage n =
    let after = after_line stage line in
    let count : (n + 1) + length lines ≡ n + length (line ∷ lines) = omega arith in
    malformed-append lines others (before || (explained_line stage n line).1) after (n + 1)
    ∙ ap (λ k. any_malformed (any_malformed (before || (explained_line stage n line).1) after (n + 1) lines) (after_lines after lines) k others) count

-- the stage behind one line more
pub stage-push : (lines : List (List ℕ)) (stage : Stage) (line : List ℕ) → after_lines stage (lines ++ line ∷ []) ≡ after_line (after_lines stage lines) line
stage-push [] stage line = refl
stage-push (first ∷ lines) stage line = stage-push lines (after_line stage first) line

-- one line more
pub explained-push : (lines : List (List ℕ)) (line : List ℕ) (stage : Stage) (number : ℕ) → stage ≡ after_lines Rows lines → number ≡ length lines + 1
    → explained Rows 1 lines ++ (explained_line stage number line).0 ≡ explained Rows 1 (lines ++ line ∷ [])
explained-push lines line stage number stands is =
    let count : number ≡ 1 + length lines = omega (arith, is) in
    (λ i. explained Rows 1 lines ++ (explained_line (stands i) (count i) line).0)
    ∙ (ap (λ t. explained Rows 1 lines ++ t) (sym (append-nil (explained_line (after_lines Rows lines) (1 + length lines) line).0)) ∙ sym (explained-append lines (line ∷ []) Rows 1))

pub malformed-push : (lines : List (List ℕ)) (line : List ℕ) (stage : Stage) (number : ℕ) → stage ≡ after_lines Rows lines → number ≡ length lines + 1
    → (any_malformed false Rows 1 lines || (explained_line stage number line).1) ≡ any_malformed false Rows 1 (lines ++ line ∷ [])
malformed-push lines line stage number stands is =
    let count : number ≡ 1 + length lines = omega (arith, is) in
    (λ i. any_malformed false Rows 1 lines || (explained_line (stands i) (count i) line).1) ∙ sym (malformed-append lines (line ∷ []) false Rows 1)

pub status_is_end : (t : Bool) → IsEnd (status_of t)
status_is_end true = inr (inl refl)
status_is_end false = inl refl

-- a write failed behind these lines
pub short_behind : (old : Outside) (l t2 : Option (List ℕ)) (r w w2 : ℕ) (bytes : List ℕ) (first others : List (List ℕ)) → Consumes old.left l bytes → lines_in bytes false ≡ first ++ others
    → old.write_faults ≤ w → Rose w w2 → WrotePrefix old.taken t2 (explained Rows 1 first) → StoppedWriting explain_rules old (outside l t2 r w2)
short_behind old l t2 r w w2 bytes first others took all later rose short =
    let rest = explained (after_lines Rows first) (1 + length first) others in
    let (prefix, wrote, begins) = short_more old.taken t2 (explained Rows 1 first) rest short in
    record {
      bytes = bytes;
      prefix = prefix;
      text = explained Rows 1 first ++ rest;
      whole = false;
      status = status_of (any_malformed false Rows 1 (lines_in bytes false));
      rose = omega (arith, later, rose);
      exchanged = record { took = took; wrote = wrote };
      begins = begins;
      says = (sym (ap (explained Rows 1) all ∙ explained-append first others Rows 1), refl);
      at_end = λ e. cc;
    }

module _ (old : Outside) (l t : Option (List ℕ)) (r w : ℕ) (reader : Reader) (line : LineBuffer) (pending : List ℕ) (malformed : Bool) (stage : Stage) (h : IsExplaining old (outside l t r w) reader line pending malformed stage) where
  -- the next line was explained
  pub line_on : (t2 : Option (List ℕ)) (w2 : ℕ) (q : Reader) (buffer cleared : LineBuffer) (new : List ℕ) (number : ℕ) (this : Bool) (next : Stage) → (f : GivesLine q buffer h.bytes h.lines) → lines_given q ≡ lines_given reader + 1 → number ≡ lines_given q
      → this ≡ (explained_line stage number f.line).1 → next ≡ after_line stage f.line → TextSoFar old.taken t2 new (explained Rows 1 h.lines ++ (explained_line stage number f.line).0) → Holds cleared [] → w ≤ w2
      → IsExplaining old (outside l t2 r w2) q cleared new (malformed || this) next
  line_on t2 w2 q buffer cleared new number this next f counts is said stands so_far empty later =
      let count : number ≡ length h.lines + 1 = is ∙ (counts ∙ ap (λ k. k + 1) h.counted) in
      record {
        bytes = h.bytes;
        lines = h.lines ++ f.line ∷ [];
        rest = [];
        took = h.took;
        at = f.at;
        holds = empty;
        counted = counts ∙ (ap (λ k. k + 1) h.counted ∙ sym (length_push h.lines f.line));
        known = (λ i. h.known i || said i) ∙ malformed-push h.lines f.line stage number h.stands count;
        stands = stands ∙ (ap (λ (s : Stage). after_line s f.line) h.stands ∙ sym (stage-push h.lines Rows f.line));
        so_far = subst (λ (x : List ℕ). TextSoFar old.taken t2 new x) (explained-push h.lines f.line stage number h.stands count) so_far;
        read_later = h.read_later;
        write_later = omega (arith, h.write_later, later);
      }

  -- a write failed in the next line
  pub line_stopped : (t2 : Option (List ℕ)) (w2 : ℕ) (q : Reader) (buffer : LineBuffer) (number : ℕ) → (f : GivesLine q buffer h.bytes h.lines) → lines_given q ≡ lines_given reader + 1 → number ≡ lines_given q
      → Rose w w2 → WrotePrefix old.taken t2 (explained Rows 1 h.lines ++ (explained_line stage number f.line).0) → StoppedWriting explain_rules old (outside l t2 r w2)
  line_stopped t2 w2 q buffer number f counts is rose short =
      let count : number ≡ length h.lines + 1 = is ∙ (counts ∙ ap (λ k. k + 1) h.counted) in
      let (others, all) = given_in_all q h.bytes (h.lines ++ f.line ∷ []) [] f.at in
      short_behind old l t2 r w w2 h.bytes (h.lines ++ f.line ∷ []) others h.took all h.write_later rose
      (subst (λ (x : List ℕ). WrotePrefix old.taken t2 x) (explained-push h.lines f.line stage number h.stands count) short)

  -- the next chunk was read
  pub chunk_on : (l2 t2 : Option (List ℕ)) (r2 w2 : ℕ) (mid q : Reader) (buffer : LineBuffer) (none x : List ℕ) → (f : GivesAll mid buffer h.bytes h.lines) → lines_given mid ≡ lines_given reader → lines_given q ≡ lines_given mid → TextSoFar old.taken t2 none (explained Rows 1 h.lines) → Consumes l l2 x
      → IsAt q (h.bytes ++ x) h.lines (open_line h.bytes) → r ≤ r2 → w ≤ w2 → IsExplaining old (outside l2 t2 r2 w2) q buffer none malformed stage
  chunk_on l2 t2 r2 w2 mid q buffer none x f same still so_far took at read write = record {
    bytes = h.bytes ++ x;
    lines = h.lines;
    rest = open_line h.bytes;
    took = Consumes-trans old.left l l2 h.bytes x h.took took;
    at = at;
    holds = f.holds;
    counted = still ∙ (same ∙ h.counted);
    known = h.known;
    stands = h.stands;
    so_far = so_far;
    read_later = omega (arith, h.read_later, read);
    write_later = omega (arith, h.write_later, write);
  }

  -- a write failed
  pub write_stopped : (t2 : Option (List ℕ)) (w2 : ℕ) → Rose w w2 → WrotePrefix old.taken t2 (explained Rows 1 h.lines) → StoppedWriting explain_rules old (outside l t2 r w2)
  write_stopped t2 w2 rose short =
      let (others, all) = given_in_all reader h.bytes h.lines h.rest h.at in
      short_behind old l t2 r w w2 h.bytes h.lines others h.took all h.write_later rose short

  -- a read failed
  pub read_stopped : (l2 t2 : Option (List ℕ)) (r2 w2 : ℕ) (mid : Reader) (buffer : LineBuffer) (none : List ℕ) → GivesAll mid buffer h.bytes h.lines → TextSoFar old.taken t2 none (explained Rows 1 h.lines) → none ≡ [] → Keeps l l2 → Rose r r2 → StoppedReading explain_rules old (outside l2 t2 r2 w2)
  read_stopped l2 t2 r2 w2 mid buffer none f so_far e keeps rose = record {
    bytes = h.bytes;
    text = explained Rows 1 h.lines;
    status = status_of (any_malformed false Rows 1 (lines_in h.bytes false));
    rose = omega (arith, h.read_later, rose);
    exchanged = record { took = Consumes-kept old.left l l2 h.bytes h.took keeps; wrote = text_all old.taken t2 none (explained Rows 1 h.lines) so_far e };
    says = (sym (ap (explained Rows 1) f.all), refl);
    goes_on = λ ends. ends;
  }

  -- more came than is read
  pub too_much : (t2 : Option (List ℕ)) (w2 : ℕ) (none : List ℕ) → GivesTooLong h.bytes h.lines → TextSoFar old.taken t2 none (explained Rows 1 h.lines) → none ≡ [] → TookTooMuch explain_rules old (outside l t2 r w2)
  too_much t2 w2 none f so_far e = record {
    bytes = h.bytes;
    text = explained Rows 1 h.lines;
    status = status_of (any_malformed false Rows 1 (lines_in (take limit h.bytes) false));
    more = f.size;
    exchanged = record { took = h.took; wrote = text_all old.taken t2 none (explained Rows 1 h.lines) so_far e };
    says = (sym (ap (explained Rows 1) f.all), refl);
    goes_on = λ ends. ends;
  }

  -- the input came to its end
  pub input_ends : (l2 : Option (List ℕ)) (mid : Reader) (buffer : LineBuffer) → GivesAll mid buffer h.bytes h.lines → Consumes l l2 [] → IsAtEnd l2
      → (let all = with_open_line h.lines (open_line h.bytes) in MayEnd explain_rules old.left l2 (explained Rows 1 all) (status_of (any_malformed false Rows 1 all)))
  input_ends l2 mid buffer f took end =
      let whole = ap (λ b. lines_in b true) (take_all limit h.bytes f.size) ∙ lines_in-whole h.bytes h.lines f.all in
      record {
        bytes = h.bytes;
        whole = true;
        took = consumes_end old.left l l2 h.bytes h.took took;
        says = (sym (ap (explained Rows 1) whole), ap (λ y. status_of (any_malformed false Rows 1 y)) (sym whole));
        at_end = λ e. (end, f.size);
        at_line = λ e. cc;
      }

-- the last text of a run of `explain` was written
pub explain_ends : (old : Outside) (l t2 : Option (List ℕ)) (r w w2 : ℕ) (text : List ℕ) (t : Bool) (result : Status) → old.write_faults ≤ w → MayEnd explain_rules old.left l text (status_of t) → EndsWith result (status_of t) old.taken t2 w w2 text → Serves explain_rules result old (outside l t2 r w2)
explain_ends old l t2 r w w2 text t result later may ends =
    ends_serve explain_rules explain_lasts old.left l old.taken t2 old.read_faults r old.write_faults w2 text (status_of t) may result (status_is_end t)
    (ends_from result (status_of t) (status_of t) old.taken t2 old.write_faults w w2 text refl later ends)

-- nothing follows the last LF
pub ends_none : (result : Status) (before now : Option (List ℕ)) (w w2 : ℕ) (closed : List (List ℕ)) (last : List ℕ) (malformed : Bool) → last ≡ [] → malformed ≡ any_malformed false Rows 1 closed
    → EndsWith result (status_of malformed) before now w w2 (explained Rows 1 closed)
    → EndsWith result (status_of (any_malformed false Rows 1 (with_open_line closed last))) before now w w2 (explained Rows 1 (with_open_line closed last))
ends_none result before now w w2 closed last malformed none known ends =
    subst (λ (y : List (List ℕ)). EndsWith result (status_of (any_malformed false Rows 1 y)) before now w w2 (explained Rows 1 y)) (sym (ap (with_open_line closed) none))
    (subst (λ (b : Bool). EndsWith result (status_of b) before now w w2 (explained Rows 1 closed)) known ends)

-- a last line was explained
pub ends_one : (result : Status) (before now : Option (List ℕ)) (w mid w2 : ℕ) (closed : List (List ℕ)) (last : List ℕ) (malformed this all : Bool) (stage : Stage) → (last ≡ [] → ⊥) → {number : ℕ} → number ≡ length closed + 1 → stage ≡ after_lines Rows closed → malformed ≡ any_malformed false Rows 1 closed
    → this ≡ (explained_line stage number last).1 → all ≡ (malformed || this) → w ≤ mid → EndsWith result (status_of all) before now mid w2 (explained Rows 1 closed ++ (explained_line stage number last).0)
    → EndsWith result (status_of (any_malformed false Rows 1 (with_open_line closed last))) before now w w2 (explained Rows 1 (with_open_line closed last))
ends_one result before now w mid w2 closed last malformed this all stage some {number} count stands known said is later ends =
    let bad : all ≡ any_malformed false Rows 1 (closed ++ last ∷ []) = is ∙ ((λ i. known i || said i) ∙ malformed-push closed last stage number stands count) in
    subst (λ (y : List (List ℕ)). EndsWith result (status_of (any_malformed false Rows 1 y)) before now w w2 (explained Rows 1 y)) (sym (opened closed last some))
    (subst (λ (x : List ℕ). EndsWith result (status_of (any_malformed false Rows 1 (closed ++ last ∷ []))) before now w w2 x) (explained-push closed last stage number stands count)
    (ends_from result (status_of all) (status_of (any_malformed false Rows 1 (closed ++ last ∷ []))) before now w mid w2 (explained Rows 1 closed ++ (explained_line stage number last).0) (ap status_of bad) later ends))

-- a write failed in the last line
pub one_short : (before now : Option (List ℕ)) (w w2 : ℕ) (closed : List (List ℕ)) (last : List ℕ) (stage : Stage) → (last ≡ [] → ⊥) → {number : ℕ} → number ≡ length closed + 1 → stage ≡ after_lines Rows closed
    → WrotePrefix before now (explained Rows 1 closed ++ (explained_line stage number last).0) → Rose w w2
    → EndsWith WriteFault (status_of (any_malformed false Rows 1 (with_open_line closed last))) before now w w2 (explained Rows 1 (with_open_line closed last))
one_short before now w w2 closed last stage some {number} count stands short rose =
    inr (refl, subst (λ (x : List ℕ). WrotePrefix before now x) (explained-push closed last stage number stands count ∙ ap (explained Rows 1) (sym (opened closed last some))) short, rose)

-- a run begins
pub explaining_begins : (l t : Option (List ℕ)) (r w : ℕ) (reader : Reader) (line : LineBuffer) (pending : List ℕ) → IsAt reader [] [] [] → Holds line [] → lines_given reader ≡ 0 → pending ≡ []
    → IsExplaining (outside l t r w) (outside l t r w) reader line pending false Rows
explaining_begins l t r w reader line pending at holds none empty = record {
  bytes = [];
  lines = [];
  rest = [];
  took = Consumes-nil l;
  at = at;
  holds = holds;
  counted = none;
  known = refl;
  stands = refl;
  so_far = text_begins t pending empty;
  read_later = omega arith;
  write_later = omega arith;
}
