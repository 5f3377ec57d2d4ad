-- The line about a line of `explain`, as it is pushed.
use Rattle.std.proofs.Common.{◌≡◌, ℕ, ◌-◌, true, false, cond, nat_lt, List, [], ◌∷◌, ◌++◌, length, drop, Option, Some, Result, ◌∙◌, sym, ap, subst}
use Rattle.std.proofs.lemmas.List.{append-nil, append_assoc, take_all}
use Rattle.std.specs.Str.Lines.{strip_carriage_return}
use borrow.Author.Tests.{ltb-false}
use Rattle.byte_io.specs.Buffer.{Holds}
use Rattle.byte_io.specs.declared.Failed.{Failed}
use Rattle.byte_io.specs.declared.buffer.LineBuffer.{LineBuffer}
use Rattle.request_lines.specs.Lines.{is_silent, line_of}
use Rattle.request_lines.specs.Words.{words_of}
use Rattle.line_faults.specs.Faults.{first_of}
use Rattle.row_faults.specs.Stages.{line_fault, said_fault, word_of}
use Rattle.row_faults.specs.declared.faults.Fault.{Fault}
use Rattle.row_faults.specs.declared.stages.Stage.{Stage}
use Rattle.calspan_run.specs.Converted.{Answer}
use Rattle.calspan_run.specs.Explained.{explained_line, fault_explained, fault_text, long_text}
use Rattle.calspan_run.specs.TextSoFar.{TextSoFar, Pushed}
use Rattle.calspan_run.specs.Written.{WrotePrefix}

pub silent_so_far : (before now : Option (List ℕ)) (pending text : List ℕ) → TextSoFar before now pending text → TextSoFar before now pending (text ++ [])
silent_so_far before now pending text h = subst (λ (x : List ℕ). TextSoFar before now pending x) (sym (append-nil text)) h

-- what is said of a line that isn't ignored, and isn't long
abbrev short_text : Stage → ℕ → List ℕ → Answer
short_text stage n line = fault_explained n (words_of (strip_carriage_return line)) (line_fault stage line)

pub silent_line : (stage : Stage) (n : ℕ) (line : List ℕ) → is_silent line ≡ true → explained_line stage n line ≡ ([], false)
silent_line stage n line silent =
    ap (λ t. cond t ([], false) (cond (nat_lt 512 (length line)) (long_text n, true) (short_text stage n line))) silent

not_silent : (stage : Stage) (n : ℕ) (line : List ℕ) → is_silent line ≡ false
    → explained_line stage n line ≡ cond (nat_lt 512 (length line)) (long_text n, true) (short_text stage n line)
not_silent stage n line silent =
    ap (λ t. cond t ([], false) (cond (nat_lt 512 (length line)) (long_text n, true) (short_text stage n line))) silent

pub long_line : (stage : Stage) (n : ℕ) (line : List ℕ) → is_silent line ≡ false → nat_lt 512 (length line) ≡ true → explained_line stage n line ≡ (long_text n, true)
long_line stage n line silent long =
    not_silent stage n line silent ∙ ap (λ t. cond t (long_text n, true) (short_text stage n line)) long

pub whole_text : (line prefix text : List ℕ) {buffer : LineBuffer} → Holds buffer line → nat_lt 512 (length line) ≡ false
    → prefix ≡ buffer.prefix.items → text ≡ strip_carriage_return prefix → text ≡ strip_carriage_return line
whole_text line prefix text {buffer} holds short is stripped =
    stripped ∙ ap strip_carriage_return (is ∙ (holds.prefix ∙ take_all 512 line (ltb-false 512 (length line) short)))

pub short_line : (stage : Stage) (n : ℕ) (line text : List ℕ) (fault : Option Fault) → is_silent line ≡ false → nat_lt 512 (length line) ≡ false
    → text ≡ strip_carriage_return line → fault ≡ said_fault (line_of line) stage (words_of text)
    → explained_line stage n line ≡ fault_explained n (words_of text) fault
short_line stage n line text fault silent short is found =
    not_silent stage n line silent
    ∙ (ap (λ t. cond t (long_text n, true) (short_text stage n line)) short
    ∙ (ap (λ (x : List ℕ). fault_explained n (words_of x) (said_fault (line_of line) stage (words_of x))) (sym is)
    ∙ ap (fault_explained n (words_of text)) (sym found)))

-- a text that is grouped otherwise
pub regrouped : (before now : Option (List ℕ)) (pending text a b : List ℕ) → TextSoFar before now pending ((text ++ a) ++ b) → TextSoFar before now pending (text ++ (a ++ b))
regrouped before now pending text a b h = subst (λ (x : List ℕ). TextSoFar before now pending x) (append_assoc text a b) h

pub regrouped_short : (before now : Option (List ℕ)) (text a b : List ℕ) → WrotePrefix before now ((text ++ a) ++ b) → WrotePrefix before now (text ++ (a ++ b))
regrouped_short before now text a b h = subst (λ (x : List ℕ). WrotePrefix before now x) (append_assoc text a b) h

-- two pieces were pushed
pub two_pieces : (old mid new a b : List ℕ) → mid ≡ old ++ a → new ≡ mid ++ b → new ≡ old ++ (a ++ b)
two_pieces old mid new a b e f = f ∙ (ap (λ t. t ++ b) e ∙ append_assoc old a b)

-- a place, a space and a word behind a text
pub word_behind : (text place word : List ℕ) → ((text ++ place) ++ 32 ∷ []) ++ word ≡ text ++ (place ++ 32 ∷ word)
word_behind text place word = append_assoc (text ++ place) (32 ∷ []) word ∙ append_assoc text place (32 ∷ word)

pub regrouped_pushed : {T : Type 0} (r : Result T Failed) (before now : Option (List ℕ)) (pending text a b : List ℕ) → Pushed r before now pending ((text ++ a) ++ b) → Pushed r before now pending (text ++ (a ++ b))
regrouped_pushed r before now pending text a b h = subst (λ (x : List ℕ). Pushed r before now pending x) (append_assoc text a b) h

-- a fault was found, and the word that stands there
abbrev pub malformed : ℕ → Fault → Option (List ℕ) → Answer
malformed n fault word = (fault_text n fault word, true)

pub fault_found : (n : ℕ) (words : List (List ℕ)) (fault : Fault) (word : Option (List ℕ)) (number k : ℕ) → number ≡ word_of fault
    → word ≡ first_of (drop k words) → k ≡ number - 1 → fault_explained n words (Some fault) ≡ malformed n fault word
fault_found n words fault word number k counted is count =
    ap (malformed n fault) (sym (is ∙ ap (λ m. first_of (drop m words)) (count ∙ ap (λ m. m - 1) counted)))
