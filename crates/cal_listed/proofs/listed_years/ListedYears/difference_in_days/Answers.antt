use Rattle.std.proofs.Common.{◌≡◌, ℕ, ◌<◌, ◌↔◌, IsTrue, nat_lt, refl, arith, ℤ, pos, ◌+ℤ◌, ◌<ℤ◌}
use Rattle.std.proofs.lemmas.Bool.Decides.{nat_tests}
use Rattle.cal_days.proofs.Signed.{signed}
use Rattle.cal_types.specs.CalendarList.{day_number}
use Rattle.cal_listed.specs.ListedYears.{date_of}
use Rattle.cal_types.proofs.DifferenceLaws.{days-difference}
use Rattle.cal_listed.proofs.listed_years.ListedYears.difference_in_days.Goals as goal

-- the later of two days lies further from the first
sign_of : (f n m : ℤ) (a b : ℕ) → n ≡ f +ℤ pos a → m ≡ f +ℤ pos b → IsTrue (nat_lt b a) ↔ (m <ℤ n)
sign_of f n m a b p q = ((λ less. let lt : b < a = grind (arith, nat_tests) in omega (arith, signed)), (λ less. let lt : b < a = omega (arith, signed) in grind (arith, nat_tests)))

pub returns-in_err-start : goal.returns-in_err-start
returns-in_err-start c k list law =
    rw c.from_residual.ensures (λ listed date _ _. c.in_err-start.ensures.value k list listed date)

pub returns-in_err-end : goal.returns-in_err-end
returns-in_err-end c k list law =
    rw c.from_residual-in_err-end.ensures (λ _ _ listed date. c.in_err-end.ensures.value k list listed date)

pub returns : goal.returns
returns c k list law =
    let from = date_of c.args.from in
    let to = date_of c.args.to in
    let start = (c.in_ok-start.ensures.value k list).1 in
    let end = (c.in_ok-end.ensures.value k list).1 in
    let sign : IsTrue (nat_lt c.in_ok-end.end c.in_ok-start.start) ↔ (day_number k to <ℤ day_number k from) =
    sign_of c.args.self.now.first_day (day_number k from) (day_number k to) c.in_ok-start.start c.in_ok-end.end start.day end.day in
    days-difference k law from to start.date _ sign refl refl refl (omega (arith, signed, start.day, end.day, c.abs_diff.ensures))
