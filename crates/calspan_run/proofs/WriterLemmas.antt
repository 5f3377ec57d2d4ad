-- A text that is written in pieces.
use Rattle.std.proofs.Common.{◌≡◌, ℕ, Bool, OnOk, List, [], ◌∷◌, ◌++◌, map, drop, length, Option, None, Result, Ok, Err, true≢false, refl, ◌∙◌, sym, ap, subst}
use Rattle.std.proofs.lemmas.List.{append-nil, append_assoc, take-append-drop}
use Rattle.std.proofs.lemmas.Iterator.Consumers.{YieldsList-so_far, YieldsList-end}
use Rattle.std.specs.Iterator.{AlwaysYields, Yields}
use Rattle.std.specs.Result.{IsErr, IsOk}
use Rattle.std.specs.Io.KnownBytes.{Appends}
use Rattle.byte_io.specs.declared.Failed.{Failed}
use Rattle.calspan_run.specs.Endings.{EndsList}
use Rattle.calspan_run.specs.declared.status.Status.{Status}
use Rattle.calspan_run.specs.TextSoFar.{TextSoFar, Pushed, lines_text}
use Rattle.calspan_run.specs.Written.{WrotePrefix, Wrote}
use Rattle.calspan_run.proofs.KnownLemmas.{appends_none, appends_then, wrote_behind, prefix_more}

-- before anything is written or pending
pub text_begins : (t : Option (List ℕ)) (none : List ℕ) → none ≡ [] → TextSoFar t t none []
text_begins t none e = record { written = []; wrote = appends_none t; all = e }

-- what was pending is written
pub text_written : (before mid now : Option (List ℕ)) (pending none text : List ℕ) → TextSoFar before mid pending text → Appends mid now pending → none ≡ [] → TextSoFar before now none text
text_written before mid now pending none text h wrote e = record {
  written = h.written ++ pending;
  wrote = appends_then before mid now h.written pending h.wrote wrote;
  all = ap (λ t. (h.written ++ pending) ++ t) e ∙ (append-nil (h.written ++ pending) ∙ h.all);
}

-- a prefix of what was pending is written
pub text_short : (before mid now : Option (List ℕ)) (pending text : List ℕ) → TextSoFar before mid pending text → WrotePrefix mid now pending → WrotePrefix before now text
text_short before mid now pending text h wrote = subst (λ (t : List ℕ). WrotePrefix before now t) h.all (wrote_behind before mid now h.written pending h.wrote wrote)

-- a prefix of a text is one of any text that goes on from it
pub short_more : (before now : Option (List ℕ)) (text more : List ℕ) → WrotePrefix before now text → WrotePrefix before now (text ++ more)
short_more before now text more (prefix, wrote, begins) = (prefix, wrote, prefix_more prefix text more begins)

-- one piece more is pending
pub text_more : (before now : Option (List ℕ)) (pending piece new text : List ℕ) → TextSoFar before now pending text → new ≡ pending ++ piece → TextSoFar before now new (text ++ piece)
text_more before now pending piece new text h e = record {
  written = h.written;
  wrote = h.wrote;
  all = ap (λ t. h.written ++ t) e ∙ (sym (append_assoc h.written pending piece) ∙ ap (λ t. t ++ piece) h.all);
}

-- where nothing is pending, what was written is the text
pub text_all : (before now : Option (List ℕ)) (none text : List ℕ) → TextSoFar before now none text → none ≡ [] → Appends before now text
text_all before now none text h e = subst (λ (t : List ℕ). Appends before now t) (sym (append-nil h.written) ∙ (ap (λ t. h.written ++ t) (sym e) ∙ h.all)) h.wrote

-- a piece was written behind a text of which nothing was pending
pub written_past : (r : Result Unit Failed) (before mid now : Option (List ℕ)) (pending piece text : List ℕ) → TextSoFar before mid pending text → pending ≡ [] → Wrote r mid now piece → Pushed r before now pending (text ++ piece)
written_past (Ok x) before mid now pending piece text h e wrote = record {
  written = text ++ piece;
  wrote = appends_then before mid now text piece (text_all before mid pending text h e) wrote;
  all = ap (λ t. (text ++ piece) ++ t) e ∙ append-nil (text ++ piece);
}
written_past (Err f) before mid now pending piece text h e wrote = wrote_behind before mid now text piece (text_all before mid pending text h e) wrote

-- where it failed, a prefix is written
pub pushed_err : {T : Type 0} (r : Result T Failed) (before now : Option (List ℕ)) (pending text : List ℕ) → IsErr r → WrotePrefix before now text → Pushed r before now pending text
pushed_err (Ok x) before now pending text failed h = absurd (true≢false (sym failed))
pushed_err (Err e) before now pending text failed h = h

-- the lines of more items
pub lines_text-append : {A : Type 0} (line : A → List ℕ) (xs ys : List A) → lines_text line (xs ++ ys) ≡ lines_text line xs ++ lines_text line ys
lines_text-append line [] ys = refl
lines_text-append line (x ∷ xs) ys = ap (λ t. line x ++ t) (lines_text-append line xs ys) ∙ sym (append_assoc (line x) (lines_text line xs) (lines_text line ys))

map_id : {A : Type 0} (xs : List A) → map (λ x. x) xs ≡ xs
map_id [] = refl
map_id (x ∷ xs) = ap (λ t. x ∷ t) (map_id xs)

-- the items so far begin the list, and their lines its text
pub lines_so_far : {S A : Type 0} (steps : S → Option A → S → Type 0) (line : A → List ℕ) (s t : S) (all xs : List A) → AlwaysYields steps (λ x. x) s all → Yields steps s xs t → lines_text line all ≡ lines_text line xs ++ lines_text line (drop (length xs) all)
lines_so_far steps line s t all xs yields so_far =
    let same = YieldsList-so_far {steps = steps} {s = s} (record { runs = yields }) xs t so_far in
    ap (lines_text line) (sym (take-append-drop (length xs) all) ∙ ap (λ y. y ++ drop (length xs) all) (sym same ∙ map_id xs)) ∙ lines_text-append line xs (drop (length xs) all)

-- at the end they are all of them
pub lines_end : {S A : Type 0} (steps : S → Option A → S → Type 0) (line : A → List ℕ) (s t u : S) (all xs : List A) (r : Option A) → AlwaysYields steps (λ x. x) s all → Yields steps s xs t → r ≡ None → steps t r u → lines_text line xs ≡ lines_text line all
lines_end steps line s t u all xs r yields so_far none next =
    ap (lines_text line) (sym (map_id xs) ∙ (YieldsList-end {steps = steps} {s = s} (record { runs = yields }) xs t so_far r u none next).0)

-- one item more
pub lines_more : {A : Type 0} (line : A → List ℕ) (text : List ℕ) (xs : List A) (x : A) → text ++ lines_text line (xs ++ x ∷ []) ≡ (text ++ lines_text line xs) ++ line x
lines_more line text xs x =
    ap (λ t. text ++ t) (lines_text-append line xs (x ∷ []) ∙ ap (λ t. lines_text line xs ++ t) (append-nil (line x))) ∙ sym (append_assoc text (lines_text line xs) (line x))

-- all of a text was flushed
pub flushed_all : (r : Result Unit Failed) (before now : Option (List ℕ)) (pending text : List ℕ) → Pushed r before now pending text → OnOk r (pending ≡ []) → Wrote r before now text
flushed_all (Ok x) before now pending text h none = text_all before now pending text h none
flushed_all (Err e) before now pending text h none = h

-- a list whose text failed to be written
pub ended_err : (r : Result Bool Failed) (before now : Option (List ℕ)) (Ends : List ℕ → Status → Type 0) (text : List ℕ) (status : Status) → IsErr r → Ends text status → WrotePrefix before now text → EndsList r before now Ends
ended_err (Ok x) before now Ends text status failed ends wrote = absurd (true≢false (sym failed))
ended_err (Err e) before now Ends text status failed ends wrote = (text, status, ends, wrote)

-- a result isn't both
pub not_both : {T E P : Type 0} (r : Result T E) → IsOk r → IsErr r → P
not_both (Ok x) ok err = absurd (true≢false (sym err))
not_both (Err e) ok err = absurd (true≢false (sym ok))
