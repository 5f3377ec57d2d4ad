use Rattle.std.proofs.Common.{◌≡◌, ℕ, ◌+◌, ◌-◌, ◌<◌, List, length, take, get_or, ap, arith}
use Rattle.std.proofs.lemmas.List.Sums.{sum_by_more}
use Rattle.cal_listed.specs.declared.listed_years.ListedMonth.{ListedMonth}
use Rattle.cal_listed.specs.YearList.{days_in}
use Rattle.cal_listed.proofs.listed_years.counting.place_and_day.Goals as goal

-- the days of one more month
next : (months : List ListedMonth) (i : ℕ) (m : ListedMonth) → i < length months → days_in (take (i + 1) months) ≡ days_in (take i months) + (get_or months i m).days
next months i m lt = sum_by_more (λ (x : ListedMonth). x.days) months i m lt

pub returns-then-left-days-clause-within : goal.returns-then-left-days-clause-within
returns-then-left-days-clause-within c =
    omega (arith, next c.args.months.now c.loop-i.i c.index-months-i.result c.loop-i-test.true, c.from-days.ensures, c.loop-i.invariant)

pub returns-then-left-days-clause-value : goal.returns-then-left-days-clause-value
returns-then-left-days-clause-value c =
    let same : c.loop-i.i + 1 - 1 ≡ c.loop-i.i = omega arith in
    let before = ap (λ (i : ℕ). days_in (take i c.args.months.now)) same in
    let value : days_in (take (c.loop-i.i + 1 - 1) c.args.months.now) + (c.loop-i.left + 1 - 1) ≡ c.args.passed = omega (arith, before, c.loop-i.invariant) in
    value

pub loop-i-preserved : goal.loop-i-preserved
loop-i-preserved c =
    omega (arith, next c.args.months.now c.loop-i.i c.index-months-i.result c.loop-i-test.true, c.from-days.ensures, c.loop-i.invariant)
