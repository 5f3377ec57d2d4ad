-- Calls in turn, on the bytes that a sink tells.
use Rattle.std.proofs.Common.{ℕ, ◌+◌, ◌-◌, take, drop, length, subst, List, [], ◌++◌, Option, Some, None, Result, Ok, Err, true≢false, ◌∙◌, sym, ap}
use Rattle.std.proofs.lemmas.List.{append-nil, append_assoc, take_rest, take-append-drop}
use Rattle.std.proofs.Math.Seq.{take-add}
use Rattle.std.specs.Result.{IsErr}
use Rattle.std.specs.Io.KnownBytes.{Appends, Keeps}
use Rattle.byte_io.specs.declared.Failed.{Failed}
use Rattle.byte_io.specs.Bytes.{IsPrefix}
use Rattle.calspan_run.specs.Written.{WrotePrefix, Wrote}

pub appends_none : (a : Option (List ℕ)) → Appends a a []
appends_none None = tt
appends_none (Some xs) = sym (append-nil xs)

pub appends_then : (a b c : Option (List ℕ)) (x y : List ℕ) → Appends a b x → Appends b c y → Appends a c (x ++ y)
appends_then None b c x y p q = tt
appends_then (Some xs) None c x y p q = absurd p
appends_then (Some xs) (Some ys) None x y p q = absurd q
appends_then (Some xs) (Some ys) (Some zs) x y p q = q ∙ (ap (λ r. r ++ y) p ∙ append_assoc xs x y)

pub appends_keeps : (a b c : Option (List ℕ)) (x : List ℕ) → Appends a b x → Keeps b c → Appends a c x
appends_keeps None b c x p q = tt
appends_keeps (Some xs) None c x p q = absurd p
appends_keeps (Some xs) (Some ys) None x p q = absurd q
appends_keeps (Some xs) (Some ys) (Some zs) x p q = q ∙ p

-- a prefix of a text is a prefix of what goes on from it
pub prefix_more : (x y z : List ℕ) → IsPrefix x y → IsPrefix x (y ++ z)
prefix_more x y z (rest, e) = (rest ++ z, ap (λ r. r ++ z) e ∙ append_assoc x rest z)

-- behind a text, a prefix of the next
pub prefix_behind : (w x y : List ℕ) → IsPrefix x y → IsPrefix (w ++ x) (w ++ y)
prefix_behind w x y (rest, e) = (rest, ap (λ r. w ++ r) e ∙ sym (append_assoc w x rest))

-- what was written, and then a prefix of the next text
pub wrote_behind : (a b c : Option (List ℕ)) (x y : List ℕ) → Appends a b x → WrotePrefix b c y → WrotePrefix a c (x ++ y)
wrote_behind a b c x y p (prefix, q, more) = (x ++ prefix, appends_then a b c x prefix p q, prefix_behind x prefix y more)

-- a piece of a text more
pub sent_more : (a b c : Option (List ℕ)) (text : List ℕ) (at n : ℕ) → Appends a b (take at text) → Appends b c (take n (take (length text - at) (drop at text))) → Appends a c (take (at + n) text)
sent_more a b c text at n p q =
    let r : Appends b c (take n (drop at text)) = subst (λ (t : List ℕ). Appends b c (take n t)) (take_rest text at) q in
    subst (λ (t : List ℕ). Appends a c t) (sym (take-add at n text)) (appends_then a b c (take at text) (take n (drop at text)) p r)

-- no more of it
pub sent_prefix : (a b c : Option (List ℕ)) (text : List ℕ) (at : ℕ) → Appends a b (take at text) → Keeps b c → WrotePrefix a c text
sent_prefix a b c text at p q = (take at text, appends_keeps a b c (take at text) p q, (drop at text, sym (take-append-drop at text)))

pub wrote_err : {T : Type 0} (r : Result T Failed) (a b : Option (List ℕ)) (text : List ℕ) → IsErr r → WrotePrefix a b text → Wrote r a b text
wrote_err (Ok x) a b text failed h = absurd (true≢false (sym failed))
wrote_err (Err e) a b text failed h = h

pub prefix_then : (x y z : List ℕ) → IsPrefix x y → IsPrefix y z → IsPrefix x z
prefix_then x y z (r, e) (s, f) = (r ++ s, f ∙ (ap (λ t. t ++ s) e ∙ append_assoc x r s))
