use Rattle.std.proofs.Common.{◌≡◌, ℕ, ◌+◌, ◌-◌, ◌≤◌, length, take, get_or, ap, arith, pos, ◌+ℤ◌, w32, FitsSigned, rules}
use Rattle.std.proofs.lemmas.Grind.{common_steps}
use Rattle.std.proofs.lemmas.List.Sums.{sum_by_more}
use Rattle.std.proofs.lemmas.Option.{slice_get-get_or}
use Rattle.cal_days.proofs.Signed.{signed}
use Rattle.cal_listed.specs.declared.listed_years.ListedMonth.{ListedMonth}
use Rattle.cal_listed.specs.YearList.{YearList, days_in}
use Rattle.cal_listed.proofs.ListedLemmas.{is_listed, day_number-listed, listed-date, date-listed}
use Rattle.cal_listed.proofs.listed_years.ListedYears.days_after_first.Goals as goal
use Rattle.cal_listed.proofs.listed_years.ListedYears.days_after_first.Goals.{then-place-eq0-via-then-place-eq0, then-place-eq0-via-else-place-eq0+then-place-months, then-place-eq0-via-else-place-eq0+else-place-months+then-day-eq0, then-place-eq0-via-else-place-eq0+else-place-months+else-day-eq0+then-day-months}

-- the days up to a month and those through it
through : (months : YearList) (place : ℕ) (d : ListedMonth) → 1 ≤ place → place ≤ length months.now → days_in (take place months.now) ≡ days_in (take (place - 1) months.now) + (get_or months.now (place - 1) d).days
through months place d first last =
    let back : place - 1 + 1 ≡ place = omega arith in
    omega (arith, sum_by_more (λ (m : ListedMonth). m.days) months.now (place - 1) d (omega arith), ap (λ (i : ℕ). days_in (take i months.now)) back)

pub returns-then-place-eq0-clause-value : goal.returns-then-place-eq0-clause-value
returns-then-place-eq0-clause-value c k list listed h =
    let l = c.args.self.now in
    let index = c.in_ok-index.index in
    let months = get_or l.years.now index c.index-self-index.result in
    let there = slice_get-get_or l.years.now index c.index-self-index.result c.in_ok-index.ensures.0 in
    let year : c.args.date.year ≡ l.first_year +ℤ pos index = omega (arith, signed, c.in_ok-index.ensures.1) in
    let parts = date-listed k l list index months there c.args.date.year year c.args.date.month c.args.date.day h in
    let place = c.from-place.ensures in
    elim c.then-place-eq0.branch [
      | then-place-eq0-via-then-place-eq0 w ↦ omega (arith, parts, place, w.if-place-eq0.true)
      | then-place-eq0-via-else-place-eq0+then-place-months w ↦ omega (arith, parts, place, w.if-place-months.true)
      | then-place-eq0-via-else-place-eq0+else-place-months+then-day-eq0 w ↦ omega (arith, parts, w.if-day-eq0.true)
      | then-place-eq0-via-else-place-eq0+else-place-months+else-day-eq0+then-day-months w ↦
          let same = ap (λ (i : ℕ). (get_or months.now (i - 1) w.index-months-place.result).days) place in
          omega (arith, parts, same, w.if-day-months.true, through months c.args.date.month w.index-months-place.result parts.0 parts.1)
    ]

pub returns-clause-value : goal.returns-clause-value
returns-clause-value c k list =
    let l = c.args.self.now in
    let index = c.in_ok-index.index in
    let months = get_or l.years.now index c.index-self-index.result in
    let there = slice_get-get_or l.years.now index c.index-self-index.result c.in_ok-index.ensures.0 in
    let fits : FitsSigned w32 c.args.date.year = search rules in
    let year : c.args.date.year ≡ l.first_year +ℤ pos index = omega (arith, signed, c.in_ok-index.ensures.1) in
    let place = c.from-place.ensures in
    let same = ap (λ (i : ℕ). (get_or months.now (i - 1) c.index-months-place.result).days) place in
    let before = ap (λ (i : ℕ). days_in (take (i - 1) months.now)) place in
    let first : 1 ≤ c.args.date.month = omega (arith, place, c.if-place-eq0.false) in
    let last : c.args.date.month ≤ length months.now = omega (arith, place, c.if-place-months.false) in
    let some : 1 ≤ c.args.date.day = omega (arith, c.if-day-eq0.false) in
    let within : days_in (take (c.args.date.month - 1) months.now) + c.args.date.day ≤ days_in (take c.args.date.month months.now) =
    omega (arith, same, c.if-day-months.false, through months c.args.date.month c.index-months-place.result first last) in (
      is_listed k l list index months there c.args.date.year year,
      record {
        date = listed-date k l list index months there c.args.date.year year c.args.date.month c.args.date.day first last some within;
        day = omega (arith, signed, day_number-listed k l list index months there c.args.date.year year c.args.date.month c.args.date.day, before, c.from.ensures, c.days_before_year.ensures.value, c.days_before_year.ensures.bound, c.days_in.ensures.value, c.days_in.ensures.bound);
      },
    )

pub days_in-requires : goal.days_in-requires
days_in-requires c = grind (arith, common_steps)
