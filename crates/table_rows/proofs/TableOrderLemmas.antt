-- The first table that isn't accepted: there is one exactly where not all are accepted, and it is one.
use Rattle.std.proofs.Common.{◌≡◌, ◌<◌, inl, inr, ◌⊎◌, refl, subst, arith}
use Rattle.cal_days.proofs.Signed.{by_lt}
use Rattle.cal_errors.specs.declared.errors.TableFault.{TableFault}
use Rattle.table_rows.specs.TableRows.{rank}
use Rattle.table_rows.specs.declared.table.Table.{Table}
use Rattle.table_rows.specs.declared.table.Table.TheVariants.{China, Korea, Hijri, Persian}

one_table : (s t : Table) → rank s ≡ rank t → s ≡ t
one_table China China e = refl
one_table Korea Korea e = refl
one_table Hijri Hijri e = refl
one_table Persian Persian e = refl
one_table _ _ e = absurd (omega arith)

module _ (Accepted : Table → Type 0) (Fault : Table → TableFault → Type 0) where
  abbrev IsFirst : Table → TableFault → Type 0
  IsFirst table fault = Fault table fault × ((before : Table) → rank before < rank table → Accepted before)

  abbrev Decided : Table → Type 0
  Decided table = Accepted table ⊎ ((fault : TableFault) × Fault table fault)

  pub before_china : (t : Table) → rank t < 0 → Accepted t
  before_china t lt = absurd (omega (arith, lt))

  pub before_korea : Accepted China → (t : Table) → rank t < 1 → Accepted t
  before_korea a China lt = a
  before_korea a Korea lt = absurd (omega arith)
  before_korea a Hijri lt = absurd (omega arith)
  before_korea a Persian lt = absurd (omega arith)

  pub before_hijri : Accepted China → Accepted Korea → (t : Table) → rank t < 2 → Accepted t
  before_hijri a b China lt = a
  before_hijri a b Korea lt = b
  before_hijri a b Hijri lt = absurd (omega arith)
  before_hijri a b Persian lt = absurd (omega arith)

  pub before_persian : Accepted China → Accepted Korea → Accepted Hijri → (t : Table) → rank t < 3 → Accepted t
  before_persian a b c China lt = a
  before_persian a b c Korea lt = b
  before_persian a b c Hijri lt = c
  before_persian a b c Persian lt = absurd (omega arith)

  pub all_accepted : Accepted China → Accepted Korea → Accepted Hijri → Accepted Persian → (t : Table) → Accepted t
  all_accepted a b c d China = a
  all_accepted a b c d Korea = b
  all_accepted a b c d Hijri = c
  all_accepted a b c d Persian = d

  abbrev Outcome : Type 0
  Outcome = ((t : Table) → Accepted t) ⊎ ((t : Table) × (fault : TableFault) × IsFirst t fault)

  fourth : Accepted China → Accepted Korea → Accepted Hijri → Decided Persian → Outcome
  fourth a b c (inl d) = inl (all_accepted a b c d)
  fourth a b c (inr (f, h)) = inr (Persian, f, (h, before_persian a b c))

  third : Accepted China → Accepted Korea → Decided Hijri → Decided Persian → Outcome
  third a b (inl c) persian = fourth a b c persian
  third a b (inr (f, h)) persian = inr (Hijri, f, (h, before_hijri a b))

  second : Accepted China → Decided Korea → Decided Hijri → Decided Persian → Outcome
  second a (inl b) hijri persian = third a b hijri persian
  second a (inr (f, h)) hijri persian = inr (Korea, f, (h, before_korea a))

  first : Decided China → Decided Korea → Decided Hijri → Decided Persian → Outcome
  first (inl a) korea hijri persian = second a korea hijri persian
  first (inr (f, h)) korea hijri persian = inr (China, f, (h, before_china))

  pub first_decided : ((t : Table) → Decided t) → Outcome
  first_decided decided = first (decided China) (decided Korea) (decided Hijri) (decided Persian)

  module _ (exclusive : (t : Table) (f : TableFault) → Fault t f → Accepted t → ⊥) (unique : (t : Table) (f g : TableFault) → Fault t f → Fault t g → f ≡ g) where
    pub first_refuses : (t : Table) (f : TableFault) → IsFirst t f → ((s : Table) → Accepted s) → ⊥
    first_refuses t f h accepted = exclusive t f h.0 (accepted t)

    one_fault : (s t : Table) (f g : TableFault) → s ≡ t → Fault s f → Fault t g → f ≡ g
    one_fault s t f g same h k = unique t f g (subst (λ (x : Table). Fault x f) same h) k

    pub one_first : (s t : Table) (f g : TableFault) → IsFirst s f → IsFirst t g → (s ≡ t) × (f ≡ g)
    one_first s t f g h k =
        by_lt {P = (s ≡ t) × (f ≡ g)} (rank s) (rank t)
        (λ lt. absurd (exclusive s f h.0 (k.1 s lt)))
        (λ le.
        by_lt {P = (s ≡ t) × (f ≡ g)} (rank t) (rank s)
        (λ lt. absurd (exclusive t g k.0 (h.1 t lt)))
        (λ ge.
        let same : s ≡ t = one_table s t (omega (arith, le, ge)) in
        (same, one_fault s t f g same h.0 k.0)))
