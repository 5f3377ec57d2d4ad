-- Rows have a first fault exactly where they aren't accepted, and they have one.
use Rattle.std.proofs.Common.{◌≡◌, ℕ, zero, suc, ◌+◌, ◌<◌, ◌≤◌, Bool, true, false, List, length, inl, inr, ◌⊎◌, ⊎_elim, refl, sym, ap, subst, ◌∙◌, arith}
use Rattle.std.specs.Prelude.{IsTrue}
use Rattle.std.proofs.lemmas.Option.{slice_get_cases, slice_get_within}
use Rattle.cal_days.proofs.Signed.{by_lt}
use Rattle.cal_types.specs.Rows.{IsRow}
use Rattle.cal_types.specs.laws.RowLaws.{one_row, rows_before_next}
use Rattle.cal_types.specs.Faults.{rank, MeetsAll, IsAccepted, IsFirstBroken, IsFirstFault}
use Rattle.cal_errors.specs.declared.errors.TableFault.{TableFault}
use Rattle.cal_errors.specs.declared.errors.TablePart.{TablePart}
use Rattle.cal_errors.specs.declared.errors.TablePart.TheVariants.{Range, Year, Join, End, Leap, Rule}

differ : {P : Type 0} (b : Bool) → b ≡ true → b ≡ false → P
differ b on off = let e : true ≡ false = sym on ∙ off in absurd cc

part_by_rank : (p q : TablePart) → rank p ≡ rank q → p ≡ q
part_by_rank Range Range e = refl
part_by_rank Year Year e = refl
part_by_rank Join Join e = refl
part_by_rank End End e = refl
part_by_rank Leap Leap e = refl
part_by_rank Rule Rule e = refl
part_by_rank _ _ e = absurd (omega arith)

abbrev fault_of : ℕ → TablePart → TableFault
fault_of row part = record { row = row; part = part }

module _ (meets : TablePart → Bool) where
  before_year : IsTrue (meets Range) → (e : TablePart) → rank e < 1 → IsTrue (meets e)
  before_year g Range lt = g
  before_year g Year lt = absurd (omega arith)
  before_year g Join lt = absurd (omega arith)
  before_year g End lt = absurd (omega arith)
  before_year g Leap lt = absurd (omega arith)
  before_year g Rule lt = absurd (omega arith)

  before_join : IsTrue (meets Range) → IsTrue (meets Year) → (e : TablePart) → rank e < 2 → IsTrue (meets e)
  before_join g a Range lt = g
  before_join g a Year lt = a
  before_join g a Join lt = absurd (omega arith)
  before_join g a End lt = absurd (omega arith)
  before_join g a Leap lt = absurd (omega arith)
  before_join g a Rule lt = absurd (omega arith)

  before_end : IsTrue (meets Range) → IsTrue (meets Year) → IsTrue (meets Join) → (e : TablePart) → rank e < 3 → IsTrue (meets e)
  before_end g a b Range lt = g
  before_end g a b Year lt = a
  before_end g a b Join lt = b
  before_end g a b End lt = absurd (omega arith)
  before_end g a b Leap lt = absurd (omega arith)
  before_end g a b Rule lt = absurd (omega arith)

  before_leap : IsTrue (meets Range) → IsTrue (meets Year) → IsTrue (meets Join) → IsTrue (meets End) → (e : TablePart) → rank e < 4 → IsTrue (meets e)
  before_leap g a b c Range lt = g
  before_leap g a b c Year lt = a
  before_leap g a b c Join lt = b
  before_leap g a b c End lt = c
  before_leap g a b c Leap lt = absurd (omega arith)
  before_leap g a b c Rule lt = absurd (omega arith)

  before_rule : IsTrue (meets Range) → IsTrue (meets Year) → IsTrue (meets Join) → IsTrue (meets End) → IsTrue (meets Leap) → (e : TablePart) → rank e < 5 → IsTrue (meets e)
  before_rule g a b c d Range lt = g
  before_rule g a b c d Year lt = a
  before_rule g a b c d Join lt = b
  before_rule g a b c d End lt = c
  before_rule g a b c d Leap lt = d
  before_rule g a b c d Rule lt = absurd (omega arith)

  all_met : IsTrue (meets Range) → IsTrue (meets Year) → IsTrue (meets Join) → IsTrue (meets End) → IsTrue (meets Leap) → IsTrue (meets Rule) → (e : TablePart) → IsTrue (meets e)
  all_met g a b c d r Range = g
  all_met g a b c d r Year = a
  all_met g a b c d r Join = b
  all_met g a b c d r End = c
  all_met g a b c d r Leap = d
  all_met g a b c d r Rule = r

  -- all parts are met, or there is a first one that isn't
  parts_decided : MeetsAll meets ⊎ ((part : TablePart) × IsFirstBroken meets part)
  parts_decided = by (meets Range) (meets Year) (meets Join) (meets End) (meets Leap) (meets Rule) refl refl refl refl refl refl
    where
      by : (g a b c d r : Bool) → meets Range ≡ g → meets Year ≡ a → meets Join ≡ b → meets End ≡ c → meets Leap ≡ d → meets Rule ≡ r
          → MeetsAll meets ⊎ ((part : TablePart) × IsFirstBroken meets part)
      by false a b c d r o p q s t u = inr (Range, (o, λ e lt. absurd (omega (arith, lt))))
      by true false b c d r o p q s t u = inr (Year, (p, before_year o))
      by true true false c d r o p q s t u = inr (Join, (q, before_join o p))
      by true true true false d r o p q s t u = inr (End, (s, before_end o p q))
      by true true true true false r o p q s t u = inr (Leap, (t, before_leap o p q s))
      by true true true true true false o p q s t u = inr (Rule, (u, before_rule o p q s t))
      by true true true true true true o p q s t u = inl (all_met o p q s t u)

module _ {Y : Type 0} (meets : ℕ → Y → TablePart → Bool) (rows : List Y) where
  abbrev MeetBefore : ℕ → Type 0
  MeetBefore n = (j : ℕ) (row : Y) → j < n → IsRow rows j row → MeetsAll (meets j row)

  -- the first n rows are met, or one of them has the first fault
  decided_before : (n : ℕ) → n ≤ length rows → MeetBefore n ⊎ ((fault : TableFault) × IsFirstFault meets rows fault)
  decided_before zero le = inl (λ j row lt there. absurd (omega (arith, lt)))
  decided_before (suc n) le = with (decided_before n (omega (arith, le)))
    where
      at : MeetBefore n → (row : Y) → IsRow rows n row → MeetsAll (meets n row) ⊎ ((part : TablePart) × IsFirstBroken (meets n row) part)
          → MeetBefore (suc n) ⊎ ((fault : TableFault) × IsFirstFault meets rows fault)
      at before row here (inl met) = inl (λ j r lt there. rows_before_next (λ i x. MeetsAll (meets i x)) rows n row here met before j r (omega (arith, lt)) there)
      at before row here (inr (part, first)) = inr (fault_of (n + 1) part, (n, refl, (row, here, first), before))

      there : MeetBefore n → MeetBefore (suc n) ⊎ ((fault : TableFault) × IsFirstFault meets rows fault)
      there before =
          ⊎_elim {C = MeetBefore (suc n) ⊎ ((fault : TableFault) × IsFirstFault meets rows fault)}
          (λ found. at before found.0 found.2 (parts_decided (meets n found.0)))
          (λ past. absurd (omega (arith, le, past.0)))
          ((slice_get_cases rows n).1)

      with : MeetBefore n ⊎ ((fault : TableFault) × IsFirstFault meets rows fault) → MeetBefore (suc n) ⊎ ((fault : TableFault) × IsFirstFault meets rows fault)
      with (inl before) = there before
      with (inr fault) = inr fault

  -- rows are accepted, or they have a first fault
  pub faults_decided : IsAccepted meets rows ⊎ ((fault : TableFault) × IsFirstFault meets rows fault)
  faults_decided = all (decided_before (length rows) (omega arith))
    where
      all : MeetBefore (length rows) ⊎ ((fault : TableFault) × IsFirstFault meets rows fault) → IsAccepted meets rows ⊎ ((fault : TableFault) × IsFirstFault meets rows fault)
      all (inl before) = inl (λ i row there. before i row (slice_get_within rows i row there) there)
      all (inr fault) = inr fault

  -- and not both
  pub fault_refuses : (f : TableFault) → IsFirstFault meets rows f → IsAccepted meets rows → ⊥
  fault_refuses f (i, n, (row, there, (breaks, earlier)), before) accepted = differ (meets i row f.part) (accepted i row there f.part) breaks

  -- no row before the fault's breaks a part, so no fault is before another
  not_before : (a b : TableFault) (p : IsFirstFault meets rows a) (q : IsFirstFault meets rows b) → p.0 < q.0 → ⊥
  not_before a b p q lt = let row = p.2 in differ (meets p.0 row.0 a.part) (q.3 p.0 row.0 lt row.1 a.part) row.2.0

  -- nor is a part of its row before it
  not_earlier : (i : ℕ) (row other : Y) (p q : TablePart) → row ≡ other → IsFirstBroken (meets i row) p → IsFirstBroken (meets i other) q → rank p < rank q → ⊥
  not_earlier i row other p q same h k lt =
      let met = subst (λ (r : Y). meets i r p ≡ true) (sym same) (k.1 p lt) in
      differ (meets i row p) met h.0

  one_part : (i : ℕ) (row other : Y) (p q : TablePart) → row ≡ other → IsFirstBroken (meets i row) p → IsFirstBroken (meets i other) q → p ≡ q
  one_part i row other p q same h k =
      by_lt {P = p ≡ q} (rank p) (rank q)
      (λ lt. absurd (not_earlier i row other p q same h k lt))
      (λ le.
      by_lt {P = p ≡ q} (rank q) (rank p)
      (λ lt. absurd (not_earlier i other row q p (sym same) k h lt))
      (λ ge. part_by_rank p q (omega arith)))

  -- rows have one first fault
  pub one_fault : (a b : TableFault) → IsFirstFault meets rows a → IsFirstFault meets rows b → a ≡ b
  one_fault a b p q =
      by_lt {P = a ≡ b} p.0 q.0
      (λ lt. absurd (not_before a b p q lt))
      (λ le.
      by_lt {P = a ≡ b} q.0 p.0
      (λ lt. absurd (not_before b a q p lt))
      (λ ge.
      let same : p.0 ≡ q.0 = omega arith in
      let there : IsRow rows q.0 (p.2).0 = subst (λ (i : ℕ). IsRow rows i (p.2).0) same (p.2).1 in
      let broken : IsFirstBroken (meets q.0 (p.2).0) a.part = subst (λ (i : ℕ). IsFirstBroken (meets i (p.2).0) a.part) same (p.2).2 in
      let row : a.row ≡ b.row = omega arith in
      let part = one_part q.0 (p.2).0 (q.2).0 a.part b.part (one_row rows q.0 (p.2).0 (q.2).0 there (q.2).1) broken (q.2).2 in
      ap (λ (r : ℕ). fault_of r a.part) row ∙ ap (fault_of b.row) part))
