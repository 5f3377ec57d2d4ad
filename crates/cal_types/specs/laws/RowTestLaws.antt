-- Rows are accepted where a test which computes holds for all of them.
use Rattle.std.proofs.Common.{◌≡◌, ℕ, zero, suc, ◌+◌, Bool, true, false, ◌&&◌, List, [], ◌∷◌, refl, subst, arith, sym}
use Rattle.cal_types.specs.Rows.{IsRow}
use Rattle.cal_types.specs.Faults.{MeetsAll, IsAccepted}
use Rattle.cal_types.specs.RowTests.{meets_every, all_from}
use Rattle.cal_errors.specs.declared.errors.TablePart.{TablePart}
use Rattle.cal_errors.specs.declared.errors.TablePart.TheVariants.{Range, Year, Join, End, Leap, Rule}

pub left : (a b : Bool) → (a && b) ≡ true → a ≡ true
left true b e = refl
left false b e = e

pub right : (a b : Bool) → (a && b) ≡ true → b ≡ true
right true b e = e
right false b e = absurd cc

every-meets : (meets : TablePart → Bool) → meets_every meets ≡ true → MeetsAll meets
every-meets meets e Range = left (meets Range) _ e
every-meets meets e Year = left (meets Year) _ (right (meets Range) _ e)
every-meets meets e Join = left (meets Join) _ (right (meets Year) _ (right (meets Range) _ e))
every-meets meets e End = left (meets End) _ (right (meets Join) _ (right (meets Year) _ (right (meets Range) _ e)))
every-meets meets e Leap = left (meets Leap) _ (right (meets End) _ (right (meets Join) _ (right (meets Year) _ (right (meets Range) _ e))))
every-meets meets e Rule = right (meets Leap) _ (right (meets End) _ (right (meets Join) _ (right (meets Year) _ (right (meets Range) _ e))))

all-meet : {Y : Type 0} (meets : ℕ → Y → TablePart → Bool) (i : ℕ) (rows : List Y) → all_from meets i rows ≡ true → (j : ℕ) (row : Y) → IsRow rows j row → MeetsAll (meets (i + j) row)
unfolding all_from
all-meet meets i [] e j row h = absurd cc
all-meet meets i (first ∷ rest) e zero row h =
    let same : first ≡ row = cc in
    let here : i + 0 ≡ i = omega arith in
    subst (λ (n : ℕ). MeetsAll (meets n row)) (sym here) (subst (λ (x : _). MeetsAll (meets i x)) same (every-meets (meets i first) (left (meets_every (meets i first)) _ e)))
all-meet meets i (first ∷ rest) e (suc j) row h =
    let next : i + suc j ≡ suc i + j = omega arith in
    subst (λ (n : ℕ). MeetsAll (meets n row)) (sym next) (all-meet meets (suc i) rest (right (meets_every (meets i first)) _ e) j row h)

-- rows are accepted where the test of all of them computes to true
pub accepted-by : {Y : Type 0} (meets : ℕ → Y → TablePart → Bool) (rows : List Y) → all_from meets 0 rows ≡ true → IsAccepted meets rows
accepted-by meets rows e i row h =
    let same : 0 + i ≡ i = omega arith in
    subst (λ (n : ℕ). MeetsAll (meets n row)) same (all-meet meets 0 rows e i row h)
