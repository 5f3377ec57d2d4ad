-- The fault that a walk over words finds is the first one.
use Rattle.std.proofs.Common.{◌≡◌, ℕ, ◌+◌, Bool, true, false, cond, List, [], ◌∷◌, ◌++◌, Option, Some, None, MatchOption, length, refl, ◌∙◌, sym, ap, subst, arith}
use Rattle.std.proofs.lemmas.Bool.{false≢true}
use Rattle.std.proofs.lemmas.List.{append_assoc, append-nil, length-append}
use Rattle.std.specs.Option.{is_some}
use Rattle.command_line.specs.Places.{First, Place, may_end, part_of, step}
use Rattle.command_line.specs.Faults.{fault_at, fault_in}
use Rattle.command_line.specs.FirstFaults.{Begins, FaultsAreFirst, IsFirstFault, NameCommand, may_stand}
use Rattle.command_line.proofs.AskedLemmas.{command_passes, passing_names}
use Rattle.command_line.proofs.PassLemmas.{completes, completion, passes}
use Rattle.command_line.proofs.StandLemmas.{Ends, GoesOn, IsBad, stands}
use Rattle.command_line.specs.declared.part.CommandPart.{CommandPart}
use Rattle.command_line.specs.declared.part.CommandPart.TheVariants.{Command}

-- the words before lead to a place
abbrev LeadTo : List (List ℕ) → Place → Type 0
LeadTo before place = (more : List (List ℕ)) → passes (Some First) (before ++ more) ≡ passes (Some place) more

-- words that lead to a place begin a command
begins : (before : List (List ℕ)) (place : Place) → LeadTo before place → Begins before
begins before place lead = record {
  more = completion place;
  name = passing_names (before ++ completion place) (lead (completion place) ∙ completes place);
}

-- no command goes on with a word that leads nowhere
goes_wrong : (before : List (List ℕ)) (word : List ℕ) (place : Place) → LeadTo before place → step place word ≡ None
    → Begins (before ++ word ∷ []) → ⊥
goes_wrong before word place lead none b =
    let again : (before ++ word ∷ []) ++ b.more ≡ before ++ word ∷ b.more = append_assoc before (word ∷ []) b.more in
    let ends = command_passes ((before ++ word ∷ []) ++ b.more) b.name in
    false≢true (sym (ap (passes (Some First)) again ∙ (lead (word ∷ b.more) ∙ ap (λ s. passes s b.more) none)) ∙ ends)

-- a command goes on with what may stand at a place only
goes_on : (before : List (List ℕ)) (place : Place) → LeadTo before place → IsBad place → (word : List ℕ) → Begins (before ++ word ∷ [])
    → may_stand (part_of place) word ≡ true
goes_on before place lead bad word b = by (step place word) refl
  where
    by : (o : Option Place) → step place word ≡ o → may_stand (part_of place) word ≡ true
    by None e = absurd (goes_wrong before word place lead e b)
    by (Some next) e = stands place bad word (ap is_some e)

lead_further : (before : List (List ℕ)) (word : List ℕ) (place next : Place) → LeadTo before place
    → step place word ≡ Some next → LeadTo (before ++ word ∷ []) next
lead_further before word place next lead e more =
    ap (passes (Some First)) (append_assoc before (word ∷ []) more) ∙ (lead (word ∷ more) ∙ ap (λ s. passes s more) e)

-- the walk goes on behind these words
found : (words before all : List (List ℕ)) (n : ℕ) (place : Place) (last : CommandPart) → all ≡ before ++ words → n ≡ length before
    → LeadTo before place
    → MatchOption (fault_in (Some place) last n words) (NameCommand all) (λ fault. IsFirstFault all fault)
found [] before all n place last is count lead = by (may_end place) refl
  where
    by : (t : Bool) → may_end place ≡ t → MatchOption (cond t None (Some (fault_at (n + 1) (part_of place)))) (NameCommand all) (λ fault. IsFirstFault all fault)
    by true e = subst NameCommand (sym is) (passing_names (before ++ []) (lead [] ∙ e))
    by false e = record {
      before = before;
      behind = [];
      parts = is;
      counted = ap (λ k. k + 1) count;
      begins = begins before place lead;
      wrong = λ w. false≢true (sym (lead [] ∙ e) ∙ (ap (passes (Some First)) (append-nil before) ∙ command_passes before w));
      others = goes_on before place lead (Ends e);
    }
found (word ∷ words) before all n place last is count lead =
    by (λ next e. found words (before ++ word ∷ []) all (n + 1) next (part_of place) (is ∙ sym (append_assoc before (word ∷ []) words)) further (lead_further before word place next lead e)) (step place word) refl
  where
    further : n + 1 ≡ length (before ++ word ∷ [])
    further = omega (arith, count, length-append before (word ∷ []))

    by : ((next : Place) → step place word ≡ Some next → MatchOption (fault_in (Some next) (part_of place) (n + 1) words) (NameCommand all) (λ fault. IsFirstFault all fault))
        → (o : Option Place) → step place word ≡ o
        → MatchOption (fault_in o (part_of place) (n + 1) words) (NameCommand all) (λ fault. IsFirstFault all fault)
    by others None e = record {
      before = before;
      behind = word ∷ words;
      parts = is;
      counted = ap (λ k. k + 1) count;
      begins = begins before place lead;
      wrong = goes_wrong before word place lead e;
      others = goes_on before place lead (GoesOn word (ap is_some e));
    }
    by others (Some next) e = others next e

pub first_faults : FaultsAreFirst
first_faults words = found words [] words 0 First Command refl refl (λ more. refl)
