use Rattle.std.proofs.Common.{◌≡◌, Bool, true, false, ℕ, suc, ◌+◌, ◌<◌, Option, Some, ℤ, pos, FitsSigned, to_z, of_z, w32, rules, refl, sym, ap, subst, ◌∙◌, arith, length, get_or}
use Rattle.cal_days.proofs.Signed.{signed}
use Rattle.std.proofs.lemmas.Option.{slice_get-get_or, slice_get_within}
use Rattle.cal_types.specs.laws.FaultLaws.{fault_refuses}
use Rattle.cal_types.specs.laws.RowLaws.{row_before-next, rows_before_next}
use Rattle.cal_julian.specs.PersianAccepted.{IsListed, MeetsAll, meets_at, year_before}
use Rattle.cal_julian.proofs.persian_corrections.check.Goals as goal

differ : ◌≡◌ {A = Bool} false true → ⊥
differ e = cc

pub loop-index-preserved : goal.loop-index-preserved
loop-index-preserved c =
    let years = c.args.years.now in
    let i = c.loop-index.index in
    let y = get_or years i (pos 0) in
    let here : IsListed years i y = slice_get-get_or years i (pos 0) c.loop-index-test.true in
    let fits : FitsSigned w32 y = search rules in
    let kept : to_z w32 (of_z w32 y) ≡ y = omega (arith, signed, fits) in
    let met : MeetsAll c.loop-index.before y = subst (λ (z : ℤ). MeetsAll c.loop-index.before z) kept c.in_default.ensures in
    let all : MeetsAll (year_before years i) y = subst (λ (b : Option ℤ). MeetsAll b y) c.loop-index.invariant.last met in
    let next : suc i ≡ i + 1 = omega arith in
    record {
      met = rows_before_next (λ (j : ℕ) (z : ℤ). MeetsAll (year_before years j) z) years i y here all c.loop-index.invariant.met;
      last = ap (λ (z : ℤ). Some z) kept ∙ (sym (row_before-next years i y here) ∙ ap (year_before years) next);
    }

pub returns-in-Some-clause-first : goal.returns-in-Some-clause-first
returns-in-Some-clause-first c =
    let years = c.args.years.now in
    let i = c.loop-index.index in
    let y = get_or years i (pos 0) in
    let here : IsListed years i y = slice_get-get_or years i (pos 0) c.loop-index-test.true in
    let fits : FitsSigned w32 y = search rules in
    let kept : to_z w32 (of_z w32 y) ≡ y = omega (arith, signed, fits) in
    (i, refl, (y, here, rw (kept, c.loop-index.invariant.last) at c.in-Some.ensures), c.loop-index.invariant.met)

pub returns-in-Some-clause-exact : goal.returns-in-Some-clause-exact
returns-in-Some-clause-exact c =
    (λ ok. absurd (differ ok), λ accepted. absurd (fault_refuses (meets_at c.args.years.now) c.args.years.now _ (returns-in-Some-clause-first c) accepted))

pub returns-clause-first : goal.returns-clause-first
returns-clause-first c i y h =
    let within : i < length c.args.years.now = slice_get_within c.args.years.now i y h in
    c.loop-index.invariant.met i y (omega (arith, c.loop-index-test.false)) h

pub returns-clause-exact : goal.returns-clause-exact
returns-clause-exact c = (λ ok. returns-clause-first c, λ accepted. refl)
