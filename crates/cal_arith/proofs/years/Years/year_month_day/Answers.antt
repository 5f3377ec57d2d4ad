use Rattle.std.proofs.Common.{◌≡◌, ◌∙◌, ◌<◌, ◌+◌, ◌≤◌, ℤ, ◌+ℤ◌, ap, subst}
use Rattle.cal_types.specs.CalendarList.{start_of_year, IsOn}
use Rattle.cal_arith.specs.Dates.{date_of, ymd}
use Rattle.cal_arith.proofs.MonthSums.{cast_fits, cast_same, cast_within}
use Rattle.cal_arith.proofs.YearLemmas.{days-since_start}
use Rattle.cal_arith.proofs.years.Years.year_month_day.Given.{Over}
use Rattle.cal_arith.proofs.years.Years.year_month_day.Goals.{After-since-since}
use Rattle.cal_arith.proofs.years.Years.year_month_day.Goals as goal
use borrow.Author.Differences.{up, down}

days : (g : Over) (c : After-since-since g) → (up c.since-since.result < down c.since-since.result + 403) × (down c.since-since.result ≤ up c.since-since.result) × (start_of_year (g.Self.YearShapes.years c.args.self.now).list ((g.Self.YearShapes.years c.args.self.now).extended c.year_containing_rd-year.result) +ℤ c.since-since.result ≡ c.args.rd)
days g c =
    days-since_start (g.Self.YearShapes.years c.args.self.now).list (g.met.Self.YearShapes.lawful c.args.self.now) ((g.Self.YearShapes.years c.args.self.now).extended c.year_containing_rd-year.result) c.args.rd c.to_rata_die_inner.result c.since-since.result
    c.to_rata_die_inner.ensures c.since-since.ensures c.year_containing_rd-year.ensures.first c.year_containing_rd-year.ensures.last

pub overflow_cast-day_of_year : goal.overflow_cast-day_of_year
overflow_cast-day_of_year g c = let few = days g c in cast_fits c.since-since.result (few.0, few.1)

pub month_and_day-month-requires-clause-within : goal.month_and_day-month-requires-clause-within
month_and_day-month-requires-clause-within g c =
    let few = days g (goal.at.month_and_day-month-requires-clause-within g c).After-since-since in
    cast_within _ _ _ _ _ (cast_same c.since-since.result (few.0, few.1)) few.2 c.year_containing_rd-year.ensures.last

pub returns-clause-on : goal.returns-clause-on
returns-clause-on g c =
    let few = days g (goal.at.returns-clause-on g c).After-since-since in
    let years = g.Self.YearShapes.years c.args.self.now in let found = c.month_and_day-month.result in
    subst (λ (n : ℤ). IsOn years.list n (date_of years (ymd c.year_containing_rd-year.result found.0 found.1)))
    (ap (λ (d : ℤ). start_of_year years.list (years.extended c.year_containing_rd-year.result) +ℤ d) (cast_same c.since-since.result (few.0, few.1)) ∙ few.2) c.month_and_day-month.ensures
