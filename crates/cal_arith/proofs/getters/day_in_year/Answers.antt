use Rattle.std.proofs.Common.{◌≡◌, ◌+◌, ◌<◌, ◌≤◌, ◌+ℤ◌}
use Rattle.cal_types.specs.CalendarList.{start_of_year, day_number}
use Rattle.cal_arith.specs.Dates.{date_of}
use Rattle.cal_arith.proofs.MonthSums.{cast_fits, cast_next_fits, cast_same, next_day}
use Rattle.cal_arith.proofs.YearLemmas.{days-since_first}
use Rattle.cal_arith.proofs.getters.day_in_year.Given.{Over}
use Rattle.cal_arith.proofs.getters.day_in_year.Goals.{After-since-before}
use Rattle.cal_arith.proofs.getters.day_in_year.Goals as goal
use borrow.Author.Differences.{up, down}

days : (g : Over) (c : After-since-before g) → (up c.since-before.result < down c.since-before.result + 403) × (down c.since-before.result ≤ up c.since-before.result) × (start_of_year (g.C.YearShapes.years c.args.cal.now).list ((g.C.YearShapes.years c.args.cal.now).extended c.args.date.year) +ℤ c.since-before.result ≡ day_number (g.C.YearShapes.years c.args.cal.now).list (date_of (g.C.YearShapes.years c.args.cal.now) c.args.date))
days g c = days-since_first (g.C.YearShapes.years c.args.cal.now).list (g.met.C.YearShapes.lawful c.args.cal.now) (date_of (g.C.YearShapes.years c.args.cal.now) c.args.date) c.requires.date c.to_rata_die.result c.to_rata_die_inner-first.result c.since-before.result c.to_rata_die.ensures c.to_rata_die_inner-first.ensures c.since-before.ensures

pub overflow_cast-before : goal.overflow_cast-before
overflow_cast-before g c = let few = days g c in cast_fits c.since-before.result (few.0, few.1)

pub overflow_add-result : goal.overflow_add-result
overflow_add-result g c = let few = days g (goal.at.overflow_add-result g c).After-since-before in cast_next_fits c.since-before.result (few.0, few.1)

pub returns : goal.returns
returns g c =
    let few = days g (goal.at.returns g c).After-since-before in
    next_day _ _ _ _ (cast_same c.since-before.result (few.0, few.1)) few.2
