-- A run of `convert` over a whole input: with no fault and with memory, all of its text is written.
use Rattle.std.proofs.Common.{◌≡◌, ℕ, ◌<◌, ◌≤◌, Bool, true, false, List, [], ◌∷◌, ◌++◌, length, Option, Some, None, IfSome, inl, inr, refl, arith, ◌∙◌, sym, ap, subst}
use Rattle.std.proofs.lemmas.List.{append-nil, length-append}
use Rattle.std.specs.Io.KnownBytes.{Consumes, IsAtEnd}
use Rattle.byte_io.specs.Faults.{counted_on}
use Rattle.byte_io.specs.Lines.{lines_in}
use Rattle.table_rows.specs.RowLines.{RowOutcome, Kept, Faulty}
use Rattle.table_rows.specs.TableRows.{TableRows, contents_of, no_rows}
use Rattle.table_rows.proofs.InputLemmas.{lines_in-prefix}
use Rattle.calspan_run.specs.BehindRows.{OverTables}
use Rattle.command_line.specs.ConvertAsked.{ConvertAsked}
use Rattle.calspan_run.specs.ConvertTexts.{AtLine, Behind, Comment, Converts, Dated, HeadLine, RowLine, SaysConvert, SaysFrom, any_bad, head_line}
use Rattle.calspan_run.specs.Run.{NoFault, outside}
use Rattle.calspan_run.specs.Serving.{IsAnswered}
use Rattle.calspan_run.specs.Streaming.{StreamAnswered, Streams, convert_rules, most_reads}
use Rattle.calspan_run.specs.declared.status.Status.{Status}
use Rattle.calspan_run.specs.declared.status.Status.TheVariants.{Done, Refused, Words, ReadFault, WriteFault, NoMemory, TableRefused, TooLong}
use Rattle.calspan_run.proofs.ConvertHeadLemmas.{RefusedAt}
use Rattle.calspan_run.proofs.ConvertRunLemmas.{goes_on}

all_taken : (l : Option (List ℕ)) (input b : List ℕ) → Consumes (Some input) l b → IsAtEnd l → b ≡ input
all_taken None input b took end = absurd took
all_taken (Some ys) input b took end = sym (took ∙ (ap (λ r. b ++ r) end ∙ append-nil b))

taken_first : (l : Option (List ℕ)) (input b : List ℕ) → Consumes (Some input) l b → (rest : List ℕ) × (input ≡ b ++ rest)
taken_first None input b took = absurd took
taken_first (Some ys) input b took = (ys, took)

-- over tables that are refused, whatever the lines are
still_refused : (a : ConvertAsked) (rows : TableRows) (lines more : List (List ℕ)) (text : List ℕ) → OverTables (Converts a lines) rows text TableRefused → OverTables (Converts a more) rows text TableRefused
still_refused a rows lines more text (inl (accepted, (is, e))) = absurd (goes_on (any_bad a (contents_of rows) false lines) (sym e))
still_refused a rows lines more text (inr h) = inr h

-- at a line, where what follows it lasts
module _ (a : ConvertAsked) (whole : Bool) (rows : TableRows) (n : ℕ) (line : List ℕ) (more others : List (List ℕ)) (text : List ℕ)
    (on : (r : TableRows) → SaysFrom a false r (counted_on n) more text TableRefused → SaysFrom a whole r (counted_on n) (more ++ others) text TableRefused) where
  behind : (outcome : RowOutcome) → Behind outcome (λ r. SaysFrom a false r (counted_on n) more text TableRefused) (RefusedAt n text TableRefused)
      → Behind outcome (λ r. SaysFrom a whole r (counted_on n) (more ++ others) text TableRefused) (RefusedAt n text TableRefused)
  behind (Kept next) h = on next h
  behind (Faulty why) h = h

  line_lasts : (x : HeadLine) → AtLine x rows (λ r. SaysFrom a false r (counted_on n) more text TableRefused) (RefusedAt n text TableRefused) (OverTables (Converts a (line ∷ more)) rows text TableRefused)
      → AtLine x rows (λ r. SaysFrom a whole r (counted_on n) (more ++ others) text TableRefused) (RefusedAt n text TableRefused) (OverTables (Converts a (line ∷ (more ++ others))) rows text TableRefused)
  line_lasts Comment h = on rows h
  line_lasts (RowLine row) (outcome, takes, h) = (outcome, takes, behind outcome h)
  line_lasts Dated h = still_refused a rows (line ∷ more) (line ∷ (more ++ others)) text h

-- what a row or the tables end, they end whatever follows
lasts : (a : ConvertAsked) (whole : Bool) (rows : TableRows) (n : ℕ) (lines others : List (List ℕ)) (text : List ℕ) → SaysFrom a false rows n lines text TableRefused → SaysFrom a whole rows n (lines ++ others) text TableRefused
lasts a whole rows n [] others text (none, e) = cc
lasts a whole rows n (line ∷ more) others text h = line_lasts a whole rows n line more others text (λ r g. lasts a whole r (counted_on n) more others text g) (head_line line) h

module _ (a : ConvertAsked) (input : List ℕ) where
  says_to : (l2 : Option (List ℕ)) (bytes text : List ℕ) (whole : Bool) (status : Status) → Consumes (Some input) l2 bytes → (whole ≡ true → IsAtEnd l2) → (whole ≡ false → status ≡ TableRefused) → SaysConvert a bytes whole text status → SaysConvert a input true text status
  says_to l2 bytes text true status took end at_line h = subst (λ (y : List ℕ). SaysConvert a y true text status) (all_taken l2 input bytes took (end refl)) h
  says_to l2 bytes text false status took end at_line h =
      let (rest, all) = taken_first l2 input bytes took in
      let (others, lines) = lines_in-prefix bytes rest true in
      let e = at_line refl in
      subst (λ (y : List ℕ). SaysConvert a y true text status) (sym all)
      (subst (λ (s : Status). SaysConvert a (bytes ++ rest) true text s) (sym e)
      (subst (λ (y : List (List ℕ)). SaysFrom a true no_rows 1 y text TableRefused) (sym lines) (lasts a true no_rows 1 (lines_in bytes false) others text (subst (λ (s : Status). SaysConvert a bytes false text s) e h))))

  answered : (status : Status) (l2 t t2 : Option (List ℕ)) (r r2 w w2 : ℕ) → StreamAnswered (convert_rules a) (outside (Some input) t r w) (outside l2 t2 r2 w2) status → IsAnswered (convert_rules a) (outside (Some input) t r w) (outside l2 t2 r2 w2) status input
  answered status l2 t t2 r r2 w w2 h = record {
    text = h.text;
    wrote = h.exchanged.wrote;
    says = says_to l2 h.bytes h.text h.whole status h.exchanged.took h.at_end h.at_line h.says;
  }

taken_length : (l : Option (List ℕ)) (input b : List ℕ) → Consumes (Some input) l b → length b ≤ length input
taken_length None input b took = absurd took
taken_length (Some ys) input b took = omega (arith, ap length took, length-append b ys)

pub stream_headline : (a : ConvertAsked) (status : Status) (l l2 t t2 : Option (List ℕ)) (r r2 w w2 : ℕ) → Streams (convert_rules a) status (outside l t r w) (outside l2 t2 r2 w2)
    → IfSome l (λ input. length input < most_reads → NoFault (outside l t r w) (outside l2 t2 r2 w2) → (status ≡ NoMemory → ⊥) → IsAnswered (convert_rules a) (outside l t r w) (outside l2 t2 r2 w2) status input)
stream_headline a status None l2 t t2 r r2 w w2 h = tt
stream_headline a Done (Some input) l2 t t2 r r2 w w2 h = λ small quiet memory. answered a input Done l2 t t2 r r2 w w2 h
stream_headline a Refused (Some input) l2 t t2 r r2 w w2 h = λ small quiet memory. answered a input Refused l2 t t2 r r2 w w2 h
stream_headline a Words (Some input) l2 t t2 r r2 w w2 h = λ small quiet memory. absurd h
stream_headline a ReadFault (Some input) l2 t t2 r r2 w w2 h = λ small quiet memory. absurd (quiet.reads h.rose)
stream_headline a WriteFault (Some input) l2 t t2 r r2 w w2 h = λ small quiet memory. absurd (quiet.writes h.rose)
stream_headline a NoMemory (Some input) l2 t t2 r r2 w w2 h = λ small quiet memory. absurd (memory refl)
stream_headline a TableRefused (Some input) l2 t t2 r r2 w w2 h = λ small quiet memory. answered a input TableRefused l2 t t2 r r2 w w2 h
stream_headline a TooLong (Some input) l2 t t2 r r2 w w2 h = λ small quiet memory. absurd (omega (arith, h.more, small, taken_length l2 input h.bytes h.exchanged.took))
