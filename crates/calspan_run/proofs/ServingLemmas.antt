-- Any command: with no fault, within the limit and with memory, all of its text for the input is written.
use Rattle.std.proofs.Common.{◌≡◌, ℕ, ◌≤◌, Bool, true, false, List, ◌++◌, length, take, Option, Some, None, IfSome, refl, arith, ◌∙◌, sym, ap, subst}
use Rattle.std.proofs.lemmas.List.{append-nil, take_all, length-append}
use Rattle.std.specs.Io.KnownBytes.{Consumes, IsAtEnd}
use Rattle.calspan_run.specs.Laws.{AreLasting}
use Rattle.calspan_run.specs.Run.{outside, NoFault, limit}
use Rattle.calspan_run.specs.Serving.{Rules, Answered, Serves, IsAnswered}
use Rattle.calspan_run.specs.declared.status.Status.{Status}
use Rattle.calspan_run.specs.declared.status.Status.TheVariants.{Done, Refused, Words, ReadFault, WriteFault, NoMemory, TableRefused, TooLong}

-- what was taken begins the input
taken_first : (l : Option (List ℕ)) (input b : List ℕ) → Consumes (Some input) l b → (rest : List ℕ) × (input ≡ b ++ rest)
taken_first None input b took = absurd took
taken_first (Some ys) input b took = (ys, took)

all_taken : (l : Option (List ℕ)) (input b : List ℕ) → Consumes (Some input) l b → IsAtEnd l → b ≡ input
all_taken None input b took end = absurd took
all_taken (Some ys) input b took end = sym (took ∙ (ap (λ r. b ++ r) end ∙ append-nil b))

taken_length : (l : Option (List ℕ)) (input b : List ℕ) → Consumes (Some input) l b → length b ≤ length input
taken_length None input b took = absurd took
taken_length (Some ys) input b took = omega (arith, ap length took, length-append b ys)

module _ (c : Rules) (lasting : AreLasting c) (input : List ℕ) (small : length input ≤ limit) where
  -- what is said of the bytes that were taken is said of the input
  says_to : (l2 : Option (List ℕ)) (bytes text : List ℕ) (whole : Bool) (status : Status) → Consumes (Some input) l2 bytes → (whole ≡ true → IsAtEnd l2) → (whole ≡ false → c.EndsAtLine status) → c.Says (take limit bytes) whole text status → c.Says input true text status
  says_to l2 bytes text true status took end at_line h =
      let within : length bytes ≤ limit = omega (arith, small, taken_length l2 input bytes took) in
      subst (λ (y : List ℕ). c.Says y true text status) (take_all limit bytes within ∙ all_taken l2 input bytes took (end refl)) h
  says_to l2 bytes text false status took end at_line h =
      let within : length bytes ≤ limit = omega (arith, small, taken_length l2 input bytes took) in
      let (rest, all) = taken_first l2 input bytes took in
      let first : c.Says bytes false text status = subst (λ (y : List ℕ). c.Says y false text status) (take_all limit bytes within) h in
      subst (λ (y : List ℕ). c.Says y true text status) (sym all) (lasting.ends bytes rest true text status (at_line refl) first)

  answered : (status : Status) (l2 t t2 : Option (List ℕ)) (r r2 w w2 : ℕ) → Answered c (outside (Some input) t r w) (outside l2 t2 r2 w2) status → IsAnswered c (outside (Some input) t r w) (outside l2 t2 r2 w2) status input
  answered status l2 t t2 r r2 w w2 h = record {
    text = h.text;
    wrote = h.exchanged.wrote;
    says = says_to l2 h.bytes h.text h.whole status h.exchanged.took (λ e. (h.at_end e).0) h.at_line h.says;
  }

  may_lack : (l2 : Option (List ℕ)) (bytes : List ℕ) (whole : Bool) → Consumes (Some input) l2 bytes → (whole ≡ true → IsAtEnd l2) → c.MayLack (take limit bytes) whole → c.MayLack input true
  may_lack l2 bytes true took end h =
      let within : length bytes ≤ limit = omega (arith, small, taken_length l2 input bytes took) in
      subst (λ (y : List ℕ). c.MayLack y true) (take_all limit bytes within ∙ all_taken l2 input bytes took (end refl)) h
  may_lack l2 bytes false took end h =
      let within : length bytes ≤ limit = omega (arith, small, taken_length l2 input bytes took) in
      let (rest, all) = taken_first l2 input bytes took in
      let first : c.MayLack bytes false = subst (λ (y : List ℕ). c.MayLack y false) (take_all limit bytes within) h in
      subst (λ (y : List ℕ). c.MayLack y true) (sym all) (lasting.lacks bytes rest first)

pub headline : (c : Rules) → AreLasting c → (status : Status) (l l2 t t2 : Option (List ℕ)) (r r2 w w2 : ℕ) → Serves c status (outside l t r w) (outside l2 t2 r2 w2)
    → IfSome l (λ input. length input ≤ limit → NoFault (outside l t r w) (outside l2 t2 r2 w2) → (c.MayLack input true → status ≡ NoMemory → ⊥)
    → IsAnswered c (outside l t r w) (outside l2 t2 r2 w2) status input)
headline c lasting status None l2 t t2 r r2 w w2 h = tt
headline c lasting Done (Some input) l2 t t2 r r2 w w2 h = λ small quiet memory. answered c lasting input small Done l2 t t2 r r2 w w2 h
headline c lasting Refused (Some input) l2 t t2 r r2 w w2 h = λ small quiet memory. answered c lasting input small Refused l2 t t2 r r2 w w2 h
headline c lasting Words (Some input) l2 t t2 r r2 w w2 h = λ small quiet memory. absurd h
headline c lasting ReadFault (Some input) l2 t t2 r r2 w w2 h = λ small quiet memory. absurd (quiet.reads h.rose)
headline c lasting WriteFault (Some input) l2 t t2 r r2 w w2 h = λ small quiet memory. absurd (quiet.writes h.rose)
headline c lasting NoMemory (Some input) l2 t t2 r r2 w w2 h = λ small quiet memory.
    absurd (memory (may_lack c lasting input small l2 h.bytes h.whole h.exchanged.took (λ e. (h.at_end e).0) h.may) refl)
headline c lasting TableRefused (Some input) l2 t t2 r r2 w w2 h = λ small quiet memory. answered c lasting input small TableRefused l2 t t2 r r2 w w2 h
headline c lasting TooLong (Some input) l2 t t2 r r2 w w2 h = λ small quiet memory. absurd (omega (arith, h.more, small, taken_length l2 input h.bytes h.exchanged.took))
